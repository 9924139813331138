-- The tables so far, and the parts that are left, are all parts.
use Rattle.std.specs.Vec.Iter.{into_iter_items}
use Rattle.alert_watch.proofs.FilledLemmas.{AreMade}
use Rattle.alert_watch.proofs.restored.tables_of.Given as goal

abbrev pub invariant-loop-rows : goal.invariant-loop-rows
invariant-loop-rows l = AreMade l.bound l.fn.parts l.tables (into_iter_items l.rows-iterator)
