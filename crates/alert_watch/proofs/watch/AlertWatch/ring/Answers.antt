-- An alarm that isn't listed.
use Rattle.std.proofs.Common.{◌≤◌, length, subst, arith}
use Rattle.alert_watch.specs.Windows.{most_alarms}
use Rattle.alert_watch.specs.Watches.{WatchContents}
use Rattle.alert_watch.specs.WindowParts.{CountsOne}
use Rattle.alert_watch.proofs.WatchLemmas.{open_is, rings_counted, has_table}
use Rattle.alert_watch.proofs.watch.AlertWatch.ring.Goals as goal

pub returns-then-len-ge-MAX_ALARMS-clause-counted : goal.returns-then-len-ge-MAX_ALARMS-clause-counted
returns-then-len-ge-MAX_ALARMS-clause-counted c =
    let watch : WatchContents = record {
      spec = c.self.inside.spec;
      tables = c.self.inside.tables.items;
      last = c.self.inside.last;
      listed = c.self.inside.listed.items;
      not_kept = c.self.inside.not_kept;
    } in
    let some = has_table watch c.self.invariant in
    let full : most_alarms ≤ length watch.listed =
    omega (arith, c.if-len-ge-MAX_ALARMS.true, c.len.ensures, c.self.inside.listed.ok.0) in
    rw (← c.self.view_is)
    (rings_counted watch c.count_one.new.table c.args.at c.args.sum c.args.key.now c.saturating_add-self-inside.result
    (subst (λ t. CountsOne t c.count_one.new.table c.args.key.now)
    (open_is watch.tables c.index_mut.result.now some c.index_mut.ensures.value) c.in_ok-count_one.ensures.counted)
    full c.saturating_add-self-inside.ensures)
