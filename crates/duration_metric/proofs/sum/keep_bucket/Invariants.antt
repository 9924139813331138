-- The rows so far were added.
use Rattle.std.proofs.Common.{◌+◌, ◌^◌, ◌<◌, map, take}
use Rattle.dim_table.specs.Table.{keys}
use Rattle.kept_rows.specs.KeptRows.{AddsRows}
use Rattle.metric_kinds.specs.Counts.{row_weight}
use Rattle.duration_metric.specs.SumStands.{whole_row}
use Rattle.duration_metric.proofs.sum.keep_bucket.Given as goal

abbrev pub invariant-loop-place : goal.invariant-loop-place
invariant-loop-place l = l.start + l.size < 2 ^ 63
    → AddsRows row_weight l.initial.kept l.kept (map (whole_row l.start l.size) (take l.place (keys l.table)))
