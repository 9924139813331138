-- The rows of those so far were added, and the others are still to come.
use Rattle.std.proofs.Common.{◌≡◌, ℕ, List, ◌++◌}
use Rattle.std.specs.List.{flat_map}
use Rattle.atom_record.specs.declared.value.MetricKey.{MetricKey}
use Rattle.kept_rows.specs.KeptRows.{AddsRows}
use Rattle.metric_kinds.specs.Counts.{row_weight}
use Rattle.duration_metric.specs.SparseTimes.{time_rows}
use Rattle.duration_metric.proofs.sparse_books.keep_all.Given as goal

abbrev pub invariant-loop-key : goal.invariant-loop-key
invariant-loop-key l = (done : List (MetricKey × ℕ)) × (l.initial.key-iterator ≡ done ++ l.key-iterator)
    × AddsRows row_weight l.initial.kept l.kept (flat_map (time_rows l.start l.end) done)
