-- The rows of the full buckets that have gone by were added, and the next begins where the last ended.
use Rattle.gauge_metric.proofs.RepeatedLemmas.{HaveGone}
use Rattle.gauge_metric.proofs.repeated.keep_again.Given as goal

abbrev pub invariant-loop-done : goal.invariant-loop-done
invariant-loop-done l = HaveGone l.initial.kept l.kept l.table.rows l.crossings l.start l.done
