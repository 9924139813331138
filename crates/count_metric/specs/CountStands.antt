-- What a producer of counts stands for.
use Rattle.std.specs.Prelude.{◌≡◌, ℕ, ◌+◌, ◌==◌, Bool, true, false, if◌then◌else◌, List, [], ◌∷◌, ◌++◌, map, length}
use Rattle.atom_record.specs.declared.value.MetricKey.{MetricKey}
use Rattle.dim_table.specs.Table.{Table}
use Rattle.kept_rows.specs.KeptRows.{IsKept}
use Rattle.bucket_meaning.specs.Marks.{Ends, Books}
use Rattle.bucket_meaning.specs.Guard.{admitted, turned_away, of_key, arrival_key}
use Rattle.bucket_meaning.specs.Kept.{count_in_u64}
use Rattle.bucket_meaning.specs.Rows.{drops, closed_rows}
use Rattle.bucket_meaning.specs.Meaning.{mark_on, books_by}
use Rattle.metric_producer.specs.declared.row.CountCell.{CountCell}
use Rattle.metric_producer.specs.declared.row.Row.{Row}
use Rattle.count_metric.specs.declared.count.CountProducer.{CountProducer}
use Rattle.metric_producer.specs.Collecting.{calls_mean, Law}
use Rattle.metric_kinds.specs.Keys.{is_same_key}
use Rattle.metric_kinds.specs.Counts.{row_weight, no_key, count_kind}
use Rattle.count_metric.specs.Counting.{CountParams, CountCall, count_collecting}

-- a key with the number of its arrivals
abbrev pub tally_of : List (MetricKey × ℕ) → MetricKey → MetricKey × ℕ
tally_of came key = (key, count_in_u64 (length (of_key is_same_key key came)))

-- the admitted keys of what came, with the numbers of their arrivals
abbrev pub tally : ℕ → List (MetricKey × ℕ) → List (MetricKey × ℕ)
tally bound came = map (tally_of came) (admitted is_same_key bound (map arrival_key came))

-- the table is the tally of what came in the open part; its count is of so many drops since the last report
pub record IsTally (table : Table MetricKey ℕ) (came : List (MetricKey × ℕ)) (dropped : ℕ) : Type 0 where
  pub rows : table.rows ≡ tally table.bound came
  pub dropped_are : table.dropped ≡ count_in_u64 dropped

-- how many arrivals of a part have keys that found no room
abbrev pub spilled_of : ℕ → List (MetricKey × ℕ) → ℕ
spilled_of bound came = length (turned_away is_same_key bound came)

-- one more arrival of a key, which was spilled so often, once or not at all: whatever came before, the new table is the
-- tally with it
pub record TakesKey (old new : Table MetricKey ℕ) (key : MetricKey) (spilled : ℕ) : Type 0 where
  pub bound : new.bound ≡ old.bound
  pub tally_is : (gathers : Bool) (came : List (MetricKey × ℕ)) (dropped : ℕ) → IsTally old came dropped
      → IsTally new (came ++ (key, 1) ∷ []) (dropped + drops (count_kind gathers) old.bound came (key, 1))
  pub spilled_are : (came : List (MetricKey × ℕ)) (dropped : ℕ) → IsTally old came dropped
      → spilled_of old.bound (came ++ (key, 1) ∷ []) ≡ spilled_of old.bound came + spilled

-- a key's row of a part, by its number
abbrev pub tally_row : ℕ → ℕ → MetricKey × ℕ → Row CountCell
tally_row start end entry =
    record { key = entry.0; start = start; end = end; value = record { number = entry.1; overflow = false } }

-- the overflow row of a part, by the number of the spilled arrivals
abbrev pub overflow_row : ℕ → ℕ → ℕ → Row CountCell
overflow_row start end number =
    record { key = no_key; start = start; end = end; value = record { number = number; overflow = true } }

-- the rows that a part has of spilled arrivals, by their number, if they are gathered: one where it is above 0
abbrev pub spilled_rows : Bool → ℕ → ℕ → ℕ → List (Row CountCell)
spilled_rows true start end number = if number == 0 then [] else overflow_row start end number ∷ []
spilled_rows false start end number = []

-- the producer holds these books
pub record HasBooks (it : CountProducer) (params : CountParams) (books : Books (MetricKey × ℕ)) : Type 0 where
  pub bound : it.table.bound ≡ params.bound
  pub start : it.start ≡ books.start
  pub overflow : it.overflow ≡ params.overflow
  pub table : IsTally it.table books.came books.dropped
  pub spilled : it.spilled ≡ count_in_u64 (spilled_of params.bound books.came)
  pub kept : IsKept row_weight (closed_rows (count_kind params.overflow) params.bound books) it.kept
  pub missing : books.missing ≡ 0

-- what calls mean for counts
abbrev pub counts_mean : CountParams → List CountCall → Books (MetricKey × ℕ)
counts_mean = books_by (calls_mean count_collecting)

-- the producer was made with these, and has got these calls
abbrev pub CountStandsFor : CountProducer → CountParams → List CountCall → Type 0
CountStandsFor it params calls = HasBooks it params (counts_mean params calls)

-- the law of counts
abbrev pub count_law : Law CountProducer CountParams MetricKey (Unit {0}) (MetricKey × ℕ) MetricKey ℕ (Row CountCell)
count_law = record { stands = CountStandsFor; collecting = count_collecting }

-- whatever books the old one holds, the new one holds them after one more part is closed
abbrev pub ClosesPart : CountProducer → CountProducer → ℕ → Type 0
ClosesPart old new end =
    (params : CountParams) (books : Books (MetricKey × ℕ)) → HasBooks old params books
    → HasBooks new params (mark_on (calls_mean count_collecting) params books (Ends end))
