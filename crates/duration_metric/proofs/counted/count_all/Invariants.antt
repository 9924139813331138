-- The rows at the places so far are in the tally, and those of them that begin are known.
use Rattle.std.proofs.Common.{[], take, drop}
use Rattle.duration_metric.specs.Tallies.{NewZeros}
use Rattle.duration_metric.specs.SumSteps.{Recounts}
use Rattle.duration_metric.proofs.BegunLemmas.{Begun}
use Rattle.duration_metric.proofs.counted.count_all.Given as goal

abbrev pub invariant-loop-place : goal.invariant-loop-place
invariant-loop-place l =
    Recounts l.initial.keys l.keys l.initial.tally l.tally l.places (drop l.place-index l.places)
    × Begun l.initial.keys l.keys l.initial.tally l.tally (take l.place-index l.places) l.began
    × NewZeros l.initial.tally l.tally []
