-- The keys so far are counted.
use Rattle.std.proofs.Common.{[], take}
use Rattle.duration_metric.specs.Tallies.{RaisesAll, NewZeros}
use Rattle.duration_metric.proofs.counted.raise_all.Given as goal

abbrev pub invariant-loop-key : goal.invariant-loop-key
invariant-loop-key l = RaisesAll l.initial.tally l.tally (take l.key-index l.some)
    × NewZeros l.initial.tally l.tally []
