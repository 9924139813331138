-- The rows of those so far were added or hidden, and the others are still to come.
use Rattle.std.proofs.Common.{◌≡◌, ℤ, List, Option, ◌++◌}
use Rattle.std.specs.List.{flat_map}
use Rattle.atom_record.specs.declared.value.MetricKey.{MetricKey}
use Rattle.kept_rows.specs.KeptRows.{AddsRows}
use Rattle.value_metric.specs.Totals.{total_rows, row_weighs}
use Rattle.value_metric.proofs.value_books.keep_all.Given as goal

abbrev pub invariant-loop-key : goal.invariant-loop-key
invariant-loop-key l = (done : List (MetricKey × Option ℤ)) × (l.initial.key-iterator ≡ done ++ l.key-iterator)
    × AddsRows row_weighs l.initial.kept l.kept (flat_map (total_rows l.hides_zeros l.start l.end) done)
