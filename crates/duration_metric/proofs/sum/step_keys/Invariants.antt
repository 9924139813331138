-- The spans of the keys so far were taken to the time.
use Rattle.std.proofs.Common.{take}
use Rattle.duration_metric.specs.Tallies.{is_counted}
use Rattle.duration_metric.specs.SumSteps.{StepsSome}
use Rattle.duration_metric.proofs.sum.step_keys.Given as goal

abbrev pub invariant-loop-key : goal.invariant-loop-key
invariant-loop-key l = StepsSome l.initial.table l.table (take l.key-index l.keys) (is_counted l.tally) l.at
