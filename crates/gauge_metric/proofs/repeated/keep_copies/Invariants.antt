-- The rows of the keys that were seen were added, where each has a sample.
use Rattle.std.proofs.Common.{map, take}
use Rattle.kept_rows.specs.KeptRows.{AddsRows}
use Rattle.metric_kinds.specs.Gauges.{samples_weight}
use Rattle.gauge_metric.specs.GaugeStands.{sample_row, HaveSamples}
use Rattle.gauge_metric.proofs.repeated.keep_copies.Given as goal

abbrev pub invariant-loop-place : goal.invariant-loop-place
invariant-loop-place l = HaveSamples (take l.place l.table.rows)
    → AddsRows samples_weight l.initial.kept l.kept (map (sample_row l.start l.end) (take l.place l.table.rows))
