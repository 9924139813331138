-- One table more.
use Rattle.std.proofs.Common.{subst}
use Rattle.std.specs.Vec.Iter.{into_iter_items}
use Rattle.alert_watch.proofs.FilledLemmas.{AreMade, made_more}
use Rattle.alert_watch.proofs.restored.tables_of.Goals as goal

pub loop-rows-preserved : goal.loop-rows-preserved
loop-rows-preserved c =
    let left = into_iter_items c.next.new.self in
    let are = subst (AreMade c.args.bound c.args.parts c.loop-rows.tables) c.in-Some.ensures.steps.0
    c.loop-rows.invariant in
    rw c.in_ok-push.ensures.added (made_more c.args.bound c.args.parts c.loop-rows.tables c.in-Some.rows left are
    c.in_ok-table.table c.in_ok-table.ensures)
