-- Which books of a longest duration an object holds, and what a mark makes of them.
use Rattle.std.specs.Prelude.{◌≡◌, ℕ, ◌+◌, [], List}
use Rattle.atom_record.specs.declared.value.MetricKey.{MetricKey}
use Rattle.bucket_meaning.specs.Marks.{Mark, Books, books_from}
use Rattle.bucket_meaning.specs.Kept.{Taken, count_in_u64, taken_of}
use Rattle.bucket_meaning.specs.Rows.{drops, closed_rows}
use Rattle.kept_rows.specs.KeptRows.{IsKept}
use Rattle.metric_kinds.specs.Counts.{row_weight}
use Rattle.metric_kinds.specs.Durations.{longest_kind}
use Rattle.metric_producer.specs.declared.row.Row.{Row}
use Rattle.duration_metric.specs.SparseTimes.{HasTimes}
use Rattle.duration_metric.specs.declared.sparse_books.SparseBooks.{SparseBooks}

-- The object holds these books of a metric that admits so many keys: some of what was dropped are arrivals, which the
-- table counts, and the others inner keys.
pub record HoldsTimes (it : SparseBooks) (bound : ℕ) (books : Books (MetricKey × ℕ)) : Type 0 where
  pub bound_is : it.table.bound ≡ bound
  pub start : it.start ≡ books.start
  pub arrivals : ℕ
  pub inner_keys : ℕ
  pub table : HasTimes it.table books.came arrivals
  pub lost : it.lost ≡ count_in_u64 inner_keys
  pub dropped : books.dropped ≡ arrivals + inner_keys
  pub kept : IsKept row_weight (closed_rows longest_kind bound books) it.kept
  pub missing : books.missing ≡ 0

-- the object holds the books of a metric whose time has just begun
abbrev pub AreNewSparse : SparseBooks → ℕ → ℕ → Type 0
AreNewSparse it start bound =
    HoldsTimes it bound (record { start = start; came = []; closed = []; dropped = 0; missing = 0 })

-- the books after some marks more
abbrev pub with_longest : ℕ → Books (MetricKey × ℕ) → List (Mark (MetricKey × ℕ)) → Books (MetricKey × ℕ)
with_longest bound = books_from (drops longest_kind bound)

-- whatever books the old object holds, the new one holds them after these marks
abbrev pub TakesLongestMarks : SparseBooks → SparseBooks → List (Mark (MetricKey × ℕ)) → Type 0
TakesLongestMarks old new marks =
    (bound : ℕ) (books : Books (MetricKey × ℕ)) → HoldsTimes old bound books
    → HoldsTimes new bound (with_longest bound books marks)

-- whatever books the object holds, what is handed out is what a report shows of them
abbrev pub ShowsLongest : SparseBooks → Taken (Row ℕ) → Type 0
ShowsLongest it closed =
    (bound : ℕ) (books : Books (MetricKey × ℕ)) → HoldsTimes it bound books
    → closed ≡ taken_of row_weight (closed_rows longest_kind bound books) books.dropped books.missing
