-- The changes so far were told.
use Rattle.duration_metric.specs.InnerStands.{TellsAll}
use Rattle.duration_metric.proofs.inner.InnerTable.tell_all.Given as goal

abbrev pub invariant-loop-change : goal.invariant-loop-change
invariant-loop-change l = TellsAll l.initial.self l.self l.yielded
