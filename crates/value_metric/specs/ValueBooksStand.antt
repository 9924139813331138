-- Which books a metric of values holds, and what a mark makes of them.
use Rattle.std.specs.Prelude.{◌≡◌, ℕ, ℤ, zero, suc, ◌+◌, ◌*◌, ◌<◌, Bool, List, [], ◌∷◌, ◌++◌}
use Rattle.atom_record.specs.declared.value.MetricKey.{MetricKey}
use Rattle.bucket_meaning.specs.Limits.{time_limit}
use Rattle.bucket_meaning.specs.Marks.{Mark, Part, Books, after, books_from}
use Rattle.bucket_meaning.specs.Kept.{Taken, count_in_u64, taken_of}
use Rattle.bucket_meaning.specs.Rows.{Kind, drops, closed_rows}
use Rattle.config_types.specs.declared.metric.Aggregation.{Aggregation}
use Rattle.kept_rows.specs.KeptRows.{IsKept}
use Rattle.metric_kinds.specs.Values.{value_kind}
use Rattle.metric_producer.specs.declared.row.Row.{Row}
use Rattle.value_metric.specs.Totals.{HasTotals, row_weighs}
use Rattle.value_metric.specs.declared.value_books.Counts.{Counts}
use Rattle.value_metric.specs.declared.value_books.ValueBooks.{ValueBooks}

-- How a metric of values makes its rows: how many keys a part admits, what the integers of a key give, and whether rows
-- of 0 are hidden.
pub record ValueForm : Type 0 where
  pub bound : ℕ
  pub aggregation : Aggregation
  pub hides_zeros : Bool

-- the kind of metric of this form
abbrev pub form_kind : ValueForm → Kind (MetricKey × ℤ) MetricKey ℤ (Row ℤ)
form_kind form = value_kind form.aggregation form.hides_zeros

-- the object holds these books of a metric of this form
pub record HoldsBooks (it : ValueBooks) (form : ValueForm) (books : Books (MetricKey × ℤ)) : Type 0 where
  pub bound : it.table.bound ≡ form.bound
  pub aggregation : it.aggregation ≡ form.aggregation
  pub hides_zeros : it.hides_zeros ≡ form.hides_zeros
  pub start : it.start ≡ books.start
  pub table : HasTotals form.aggregation it.table books.came books.dropped
  pub kept : IsKept row_weighs (closed_rows (form_kind form) form.bound books) it.kept
  pub missing : it.missing ≡ count_in_u64 books.missing

-- the object holds the books of a metric of this form whose time has just begun
abbrev pub AreNewBooks : ValueBooks → ℕ → ValueForm → Type 0
AreNewBooks it start form =
    HoldsBooks it form (record { start = start; came = []; closed = []; dropped = 0; missing = 0 })

-- the books after one more mark
abbrev pub with_mark : ValueForm → Books (MetricKey × ℤ) → Mark (MetricKey × ℤ) → Books (MetricKey × ℤ)
with_mark form = after (drops (form_kind form) form.bound)

-- whatever books the old object holds, the new one holds them after this mark
abbrev pub TakesMark : ValueBooks → ValueBooks → Mark (MetricKey × ℤ) → Type 0
TakesMark old new mark =
    (form : ValueForm) (books : Books (MetricKey × ℤ)) → HoldsBooks old form books
    → HoldsBooks new form (with_mark form books mark)

-- whatever books the old object holds, the new one holds them after these marks
abbrev pub TakesValueMarks : ValueBooks → ValueBooks → List (Mark (MetricKey × ℤ)) → Type 0
TakesValueMarks old new marks =
    (form : ValueForm) (books : Books (MetricKey × ℤ)) → HoldsBooks old form books
    → HoldsBooks new form (books_from (drops (form_kind form) form.bound) books marks)

-- whatever books the object holds, what is handed out is what a report shows of them
abbrev pub ShowsTotals : ValueBooks → Taken (Row ℤ) → Type 0
ShowsTotals it closed =
    (form : ValueForm) (books : Books (MetricKey × ℤ)) → HoldsBooks it form books
    → closed ≡ taken_of row_weighs (closed_rows (form_kind form) form.bound books) books.dropped books.missing

-- so many parts of one length, one after the other, in each of which the same came
abbrev pub same_parts : ℕ → List (MetricKey × ℤ) → ℕ → ℕ → List (Part (MetricKey × ℤ))
same_parts size came start zero = []
same_parts size came start (suc n) =
    record { start = start; end = start + size; came = came } ∷ same_parts size came (start + size) n

-- What came, was dropped and was missed in a part so far, where the counts were these at its beginning.
pub record Since (counts : Counts) (dropped missing : ℕ) : Type 0 where
  pub dropped_are : counts.dropped ≡ count_in_u64 dropped
  pub missing_are : counts.missing ≡ count_in_u64 missing

-- Whatever came in the open part, and however many were dropped and missed in it since the counts were these: the new
-- object holds the books in which so many full buckets were closed with the same, of which the open part was the first.
abbrev pub ClosesAgain : ValueBooks → ValueBooks → Counts → ℕ → ℕ → Type 0
ClosesAgain old new since size number =
    (form : ValueForm) (books : Books (MetricKey × ℤ)) (lost missed : ℕ) → Since since books.dropped books.missing
    → books.start + number * size < time_limit
    → HoldsBooks old form (record books { dropped = books.dropped + lost; missing = books.missing + missed })
    → HoldsBooks new form (record {
      start = books.start + number * size;
      came = [];
      closed = books.closed ++ same_parts size books.came books.start number;
      dropped = books.dropped + number * lost;
      missing = books.missing + number * missed;
    })
