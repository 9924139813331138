-- The tally counts as it did, and the keys of the rows so far that count for none aren't there.
use Rattle.std.proofs.Common.{[], take}
use Rattle.dim_table.specs.Table.{keys}
use Rattle.duration_metric.specs.Tallies.{CountsSame, Forgets}
use Rattle.duration_metric.proofs.counted.forget_rows.Given as goal

abbrev pub invariant-loop-place : goal.invariant-loop-place
invariant-loop-place l = CountsSame l.initial.tally l.tally
    × Forgets l.initial.tally l.tally (take l.place (keys l.table)) []
