-- The rows of those so far were added, and the others are still to come.
use Rattle.std.proofs.Common.{◌≡◌, List, ◌++◌, map, ℕ}
use Rattle.atom_record.specs.declared.value.MetricKey.{MetricKey}
use Rattle.kept_rows.specs.KeptRows.{AddsRows}
use Rattle.metric_kinds.specs.Counts.{row_weight}
use Rattle.count_metric.specs.CountStands.{tally_row}
use Rattle.count_metric.proofs.count.keep_all.Given as goal

abbrev pub invariant-loop-key : goal.invariant-loop-key
invariant-loop-key l = (done : List (MetricKey × ℕ)) × (l.initial.key-iterator ≡ done ++ l.key-iterator)
    × AddsRows row_weight l.initial.kept l.kept (map (tally_row l.start l.end) done)
