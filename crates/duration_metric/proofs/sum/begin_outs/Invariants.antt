-- The keys of the places so far have begun, and the rows that were there are there.
use Rattle.std.proofs.Common.{take, []}
use Rattle.duration_metric.specs.SumSteps.{outs_at, BeginsAll, KeepsKeys}
use Rattle.duration_metric.proofs.sum.begin_outs.Given as goal

abbrev pub invariant-loop-place : goal.invariant-loop-place
invariant-loop-place l =
    BeginsAll l.initial.table l.table [] (outs_at l.keys.rows (take l.place-index l.places)) l.at
    × KeepsKeys l.initial.table l.table
