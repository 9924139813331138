-- The tally counts as it did, and the keys of the places so far that have no row and count for none aren't there.
use Rattle.std.proofs.Common.{take}
use Rattle.dim_table.specs.Table.{keys}
use Rattle.duration_metric.specs.SumSteps.{tolds_at}
use Rattle.duration_metric.specs.Tallies.{CountsSame, Forgets}
use Rattle.duration_metric.proofs.counted.forget_tolds.Given as goal

abbrev pub invariant-loop-place : goal.invariant-loop-place
invariant-loop-place l = CountsSame l.initial.tally l.tally
    × Forgets l.initial.tally l.tally (tolds_at l.inner.rows (take l.place-index l.places)) (keys l.table)
