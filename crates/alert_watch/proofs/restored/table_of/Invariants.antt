-- The table took the rows so far.
use Rattle.alert_watch.proofs.FilledLemmas.{IsFilled}
use Rattle.alert_watch.proofs.restored.table_of.Given as goal

abbrev pub invariant-loop-key : goal.invariant-loop-key
invariant-loop-key l = IsFilled l.bound l.yielded l.table
