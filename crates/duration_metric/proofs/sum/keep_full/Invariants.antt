-- The rows of the buckets so far were added.
use Rattle.std.proofs.Common.{◌≡◌, ◌+◌, ◌*◌, ◌^◌, ◌<◌}
use Rattle.bucket_clock.specs.Clock.{last_end}
use Rattle.dim_table.specs.Table.{keys}
use Rattle.kept_rows.specs.KeptRows.{AddsRows}
use Rattle.metric_kinds.specs.Counts.{row_weight}
use Rattle.duration_metric.specs.SumStands.{whole_rows}
use Rattle.duration_metric.proofs.sum.keep_full.Given as goal

abbrev pub invariant-loop-turn : goal.invariant-loop-turn
invariant-loop-turn l = last_end l.crossings < 2 ^ 63
    → (l.start ≡ l.crossings.first_end + l.turn * l.crossings.size)
    × AddsRows row_weight l.initial.kept l.kept
    (whole_rows l.crossings.first_end l.crossings.size l.turn (keys l.table))
