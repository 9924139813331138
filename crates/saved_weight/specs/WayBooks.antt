-- What a metric has open and keeps after some steps, for every kind of metric.
use Rattle.std.specs.Prelude.{ℕ, ◌+◌, List}
use Rattle.std.specs.List.{sum_by}
use Rattle.bucket_meaning.specs.Guard.{admitted}
use Rattle.bucket_meaning.specs.Kept.{kept, most_weight}
use Rattle.bucket_meaning.specs.Marks.{Books, books_of}
use Rattle.bucket_meaning.specs.Rows.{drops, closed_rows}
use Rattle.metric_meaning.specs.Histories.{Step}
use Rattle.metric_meaning.specs.StepMarks.{marks_of}
use Rattle.metric_meaning.specs.Ways.{Way}

module _ {X K C R : Type 0} (way : Way X K C R) where
  -- the open part, and what was closed since the last report
  abbrev pub own_books : List Step → Books X
  own_books steps = books_of (drops way.kind way.bound) way.base (marks_of way.shown way.base way.size steps)

  -- the admitted keys of the open part
  abbrev pub open_keys : List Step → List K
  open_keys steps = admitted way.kind.same way.bound (way.kind.keys (own_books steps).came)

  -- the rows that are kept of all that were closed since the last report
  abbrev pub rows_kept : List Step → List R
  rows_kept steps = kept way.kind.weight most_weight (closed_rows way.kind way.bound (own_books steps))

  -- what the open part and the kept rows weigh, where a key and a row weigh so much
  abbrev pub books_weight : (K → ℕ) → (R → ℕ) → List Step → ℕ
  books_weight key row steps = sum_by key (open_keys steps) + sum_by row (rows_kept steps)
