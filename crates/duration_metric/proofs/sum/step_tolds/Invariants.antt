-- The spans of the keys of the places so far were taken to the time.
use Rattle.std.proofs.Common.{take}
use Rattle.duration_metric.specs.Tallies.{is_counted}
use Rattle.duration_metric.specs.SumSteps.{tolds_at, StepsSome}
use Rattle.duration_metric.proofs.sum.step_tolds.Given as goal

abbrev pub invariant-loop-place : goal.invariant-loop-place
invariant-loop-place l = StepsSome l.initial.table l.table (tolds_at l.keys.rows (take l.place-index l.places))
    (is_counted l.tally) l.at
