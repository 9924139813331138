-- What the rows so far bring was put down, and the others are still to come.
use Rattle.std.proofs.Common.{◌≡◌, List, ◌++◌}
use Rattle.std.specs.List.{flat_map}
use Rattle.duration_metric.specs.SparseBooksStand.{TakesLongestMarks}
use Rattle.duration_metric.specs.SparseEntries.{row_marks}
use Rattle.duration_metric.proofs.SparseRowLemmas.{Row}
use Rattle.duration_metric.proofs.sparse_books.SparseBooks.note_all.Given as goal

abbrev pub invariant-loop-key : goal.invariant-loop-key
invariant-loop-key l = (done : List Row) × (l.initial._key-iterator ≡ done ++ l._key-iterator)
    × TakesLongestMarks l.initial.self l.self (flat_map (row_marks l.at) done)
