-- The alarms were handed over.
use Rattle.std.proofs.Common.{ap, ◌∙◌}
use Rattle.alert_watch.specs.Watches.{WatchContents}
use Rattle.alert_watch.proofs.WatchLemmas.{takes_told}
use Rattle.alert_watch.proofs.watch.AlertWatch.take.Goals as goal

pub returns-clause-stands : goal.returns-clause-stands
returns-clause-stands c =
    let watch : WatchContents = record {
      spec = c.self.inside.spec;
      tables = c.self.inside.tables.items;
      last = c.self.inside.last;
      listed = c.self.inside.listed.items;
      not_kept = c.self.inside.not_kept;
    } in
    rw (← c.self.view_is)
    (takes_told watch c.replace-listed.new.dest.items c.replace.new.dest
    (ap (λ v. v.items) c.replace-listed.ensures.after ∙ c.new.ensures.items) c.replace.ensures.after)
