-- The rows so far were kept or counted, and they are so many, no more than one a key.
use Rattle.std.proofs.Common.{◌≤◌, take}
use Rattle.std.specs.List.{flat_map}
use Rattle.value_metric.specs.Totals.{total_rows, AddsCounted}
use Rattle.value_metric.proofs.value_books.keep_copies.Given as goal

abbrev pub invariant-loop-place : goal.invariant-loop-place
invariant-loop-place l =
    AddsCounted l.fn.kept l.kept l.rows
    (flat_map (total_rows l.part.hides_zeros l.part.start l.part.end) (take l.place l.table.rows))
    × (l.rows ≤ l.place)
