-- Its tables are such that it is whole.
use Rattle.alert_watch.specs.Watches.{WatchContents}
use Rattle.alert_watch.proofs.AddedLemmas.{is_whole}
use Rattle.alert_watch.proofs.flat.AlertWatchFlat.show_valid.Goals as goal

pub returns : goal.returns
returns c =
    let watch : WatchContents = record {
      spec = c.self.inside.spec;
      tables = c.self.inside.tables.items;
      last = c.self.inside.last;
      listed = c.self.inside.listed.items;
      not_kept = c.self.inside.not_kept;
    } in
    rw (← c.self.view_is) (is_whole watch c.self.invariant (rw c.as_slice.ensures.value at c.show_tables.ensures))
