-- The keys of the rows so far have begun, and the rows that were there are there.
use Rattle.std.proofs.Common.{take, []}
use Rattle.std.specs.List.{flat_map}
use Rattle.duration_metric.specs.Tallies.{row_out}
use Rattle.duration_metric.specs.SumSteps.{BeginsAll, KeepsKeys}
use Rattle.duration_metric.proofs.sum.begin_all.Given as goal

abbrev pub invariant-loop-place : goal.invariant-loop-place
invariant-loop-place l =
    BeginsAll l.initial.table l.table [] (flat_map row_out (take l.place l.keys.rows)) l.at
    × KeepsKeys l.initial.table l.table
