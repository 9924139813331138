-- The rows so far are counted.
use Rattle.std.proofs.Common.{[], take}
use Rattle.std.specs.List.{flat_map}
use Rattle.duration_metric.specs.Tallies.{row_tallied, RaisesAll, NewZeros}
use Rattle.duration_metric.proofs.counted.raise_rows.Given as goal

abbrev pub invariant-loop-place : goal.invariant-loop-place
invariant-loop-place l = RaisesAll l.initial.tally l.tally (flat_map row_tallied (take l.place l.keys.rows))
    × NewZeros l.initial.tally l.tally []
