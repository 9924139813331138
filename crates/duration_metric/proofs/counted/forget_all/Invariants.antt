-- The tally counts as it did, and the keys so far that have no row and count for none aren't there.
use Rattle.std.proofs.Common.{take}
use Rattle.dim_table.specs.Table.{keys}
use Rattle.duration_metric.specs.Tallies.{CountsSame, Forgets}
use Rattle.duration_metric.proofs.counted.forget_all.Given as goal

abbrev pub invariant-loop-key : goal.invariant-loop-key
invariant-loop-key l = CountsSame l.initial.tally l.tally
    × Forgets l.initial.tally l.tally (take l.key-index l.some) (keys l.table)
