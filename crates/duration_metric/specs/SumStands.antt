-- What a producer of sums of durations stands for.
use Rattle.std.specs.Prelude.{◌≡◌, ℕ, zero, suc, ◌+◌, ◌-◌, ◌<◌, ◌≤◌, Bool, true, false, nat_lt, List, [], ◌∷◌, ◌++◌, map, length, Option, Some, None}
use Rattle.std.specs.List.{flat_map, IsDistinct}
use Rattle.atom_record.specs.declared.value.MetricKey.{MetricKey}
use Rattle.bucket_meaning.specs.Guard.{is_among, firsts, admitted}
use Rattle.bucket_meaning.specs.Kept.{count_in_u64}
use Rattle.bucket_meaning.specs.Marks.{Books}
use Rattle.bucket_meaning.specs.Meaning.{books_by}
use Rattle.bucket_meaning.specs.Rows.{closed_rows}
use Rattle.kept_rows.specs.KeptRows.{IsKept}
use Rattle.metric_producer.specs.declared.row.Row.{Row}
use Rattle.metric_producer.specs.Calls.{standing_of}
use Rattle.metric_producer.specs.Collecting.{calls_mean, Law}
use Rattle.metric_kinds.specs.Keys.{is_same_key}
use Rattle.metric_kinds.specs.Counts.{row_weight}
use Rattle.metric_kinds.specs.Runs.{Active, run_keys, last_keys, last_turn, DontFall, AreDistinct}
use Rattle.metric_kinds.specs.Durations.{sum_kind, duration_row}
use Rattle.duration_metric.specs.declared.change.InnerEvent.{InnerEvent}
use Rattle.duration_metric.specs.declared.change.InnerDelta.{InnerDelta}
use Rattle.duration_metric.specs.declared.sum.Span.{Span}
use Rattle.duration_metric.specs.InnerKeys.{DurationParams, DurationCall, duration_demands}
use Rattle.duration_metric.specs.InnerStands.{InnersStandFor}
use Rattle.duration_metric.specs.Tallies.{row_out, counted_in, AreSteady, IsSettled}
use Rattle.duration_metric.specs.SumParts.{Summing}
use Rattle.duration_metric.specs.SumCalls.{active_since, sum_collecting}

-- a span that goes on, or begins
abbrev pub going_on : ℕ → ℕ → Option ℕ → Span
going_on at sum None = record { sum = sum; since = Some at }
going_on at sum (Some since) = record { sum = sum; since = Some since }

-- a span that ends, or had ended
abbrev pub ended_at : ℕ → ℕ → Option ℕ → Span
ended_at at sum None = record { sum = sum; since = None }
ended_at at sum (Some since) = record { sum = count_in_u64 (sum + (at - since)); since = None }

-- a span from a time on, at which its key is active or not
abbrev pub span_at : ℕ → Bool → Span → Span
span_at at true span = going_on at span.sum span.since
span_at at false span = ended_at at span.sum span.since

-- a key's span after these lists of active keys
abbrev pub span_from : MetricKey → Span → List (Active MetricKey) → Span
span_from key span [] = span
span_from key span (now ∷ later) = span_from key (span_at now.at (is_among is_same_key key now.keys) span) later

-- a span of no time
abbrev pub no_span : Span
no_span = record { sum = 0; since = None }

-- a key's span in a part in which these came
abbrev pub span_of : List (Active MetricKey) → MetricKey → Span
span_of came key = span_from key no_span came

-- the time of a span, up to an end
abbrev pub span_time : ℕ → Span → ℕ
span_time end span = (span_at end false span).sum

-- the admitted keys of what came, with their spans
abbrev pub spans : ℕ → List (Active MetricKey) → List (MetricKey × Span)
spans bound came = map (λ key. (key, span_of came key)) (admitted is_same_key bound (run_keys is_same_key came))

-- a key's row of a part, by its span
abbrev pub span_row : ℕ → ℕ → MetricKey × Span → List (Row ℕ)
span_row start end entry = duration_row start end entry.0 (span_time end entry.1)

-- the row of a key that is active in all of a full bucket
abbrev pub whole_row : ℕ → ℕ → MetricKey → Row ℕ
whole_row start size key = record { key = key; start = start; end = start + size; value = size }

-- the rows of so many full buckets, in all of which these keys are active
abbrev pub whole_rows : ℕ → ℕ → ℕ → List MetricKey → List (Row ℕ)
whole_rows start size zero keys = []
whole_rows start size (suc n) keys = map (whole_row start size) keys ++ whole_rows (start + size) size n keys

-- What a producer holds besides its inner keys: the books, of which so many arrivals were dropped, where these keys are
-- active since the last condition, up to a time.
pub record HoldsSums (it : Summing) (bound : ℕ) (keys : List MetricKey) (last others : ℕ)
    (books : Books (Active MetricKey)) : Type 0 where
  pub bound_is : it.table.bound ≡ bound
  pub start : it.start ≡ books.start
  pub came_last : last_keys [] books.came ≡ keys
  pub few : length keys ≤ bound
  pub once : IsDistinct is_same_key keys
  pub rises : DontFall books.start books.came
  pub so_far : last_turn books.start books.came ≤ last
  pub all_once : AreDistinct is_same_key books.came
  pub table : it.table.rows ≡ spans bound books.came
  pub dropped : it.table.dropped ≡ count_in_u64 others
  pub kept : IsKept row_weight (closed_rows sum_kind bound books) it.kept
  pub missing : books.missing ≡ 0

-- The producer was made with these, has got these calls, and holds these books.
pub record HasSums (it : Summing) (params : DurationParams) (calls : List DurationCall)
    (books : Books (Active MetricKey)) : Type 0 where
  pub inner : InnersStandFor it.inner params.spec calls
  pub steady : AreSteady it.inner.touched it.inner.keys.rows
  pub counted : (key : MetricKey)
      → is_among is_same_key key (active_since params.spec calls) ≡ nat_lt 0 (counted_in it.inner key)
  pub settled : (standing_of (duration_demands params) calls).owed ≡ None
      → IsSettled it.inner
      × (firsts is_same_key [] (flat_map row_out it.inner.keys.rows) ≡ active_since params.spec calls)
  pub others : ℕ
  pub reported : it.reported ≤ it.inner.keys.dropped
  pub dropped : books.dropped ≡ others + (it.inner.keys.dropped - it.reported)
  pub in_bucket : let standing = standing_of (duration_demands params) calls in
      0 < params.size → standing.last ≤ standing.next_end
  pub holds : HoldsSums it params.spec.bound (active_since params.spec calls)
      (standing_of (duration_demands params) calls).last others books

-- what calls mean for sums of durations
abbrev pub sums_mean : DurationParams → List DurationCall → Books (Active MetricKey)
sums_mean = books_by (calls_mean sum_collecting)

-- the producer was made with these, and has got these calls
abbrev pub SumStandsFor : Summing → DurationParams → List DurationCall → Type 0
SumStandsFor it params calls = HasSums it params calls (sums_mean params calls)

-- the law of sums of durations
abbrev pub sum_law :
    Law Summing DurationParams InnerEvent InnerDelta (Active MetricKey) MetricKey ℕ (Row ℕ)
sum_law = record { stands = SumStandsFor; collecting = sum_collecting }
