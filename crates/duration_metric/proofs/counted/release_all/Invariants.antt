-- The rows at the places so far that count no more are out of the tally.
use Rattle.std.proofs.Common.{take, drop}
use Rattle.duration_metric.specs.Tallies.{NewZeros}
use Rattle.duration_metric.specs.SumSteps.{tolds_at, ReleasesPlaces}
use Rattle.duration_metric.proofs.counted.release_all.Given as goal

abbrev pub invariant-loop-place : goal.invariant-loop-place
invariant-loop-place l =
    ReleasesPlaces l.initial.keys l.keys l.initial.tally l.tally l.places (drop l.place-index l.places)
    (tolds_at l.initial.keys.rows (take l.place-index l.places))
    × NewZeros l.initial.tally l.tally (tolds_at l.initial.keys.rows (take l.place-index l.places))
