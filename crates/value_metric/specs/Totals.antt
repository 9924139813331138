-- What a table has of the integers that came in a part: for each admitted key what its integers give.
use Rattle.std.specs.Prelude.{◌≡◌, ℕ, ℤ, zero, suc, pos, ◌+◌, Bool, List, [], ◌∷◌, ◌++◌, map, length, slice_get, Option, Some, None}
use Rattle.std.specs.Int.{w64, saturate_signed}
use Rattle.std.specs.List.{reduce, flat_map}
use Rattle.std.specs.Map.{values_of}
use Rattle.std.specs.Option.{unwrap_or}
use Rattle.atom_record.specs.declared.value.MetricKey.{MetricKey}
use Rattle.bucket_meaning.specs.Guard.{admitted, of_key, arrival_key}
use Rattle.bucket_meaning.specs.Kept.{count_in_u64}
use Rattle.bucket_meaning.specs.Rows.{drops}
use Rattle.config_types.specs.declared.metric.Aggregation.{Aggregation}
use Rattle.dim_table.specs.Table.{Table, with_value_at}
use Rattle.kept_rows.specs.KeptRows.{Keeping, AddsRows}
use Rattle.metric_kinds.specs.Keys.{is_same_key}
use Rattle.metric_kinds.specs.Values.{joined, unless_hidden, value_kind}
use Rattle.metric_producer.specs.declared.row.Row.{Row}

-- what an integer gives with those before it, if there are any
abbrev pub joined_to : Aggregation → Option ℤ → ℤ → ℤ
joined_to aggregation None integer = integer
joined_to aggregation (Some total) integer = joined aggregation total integer

-- a key with what its integers give
abbrev pub total_of : Aggregation → List (MetricKey × ℤ) → MetricKey → MetricKey × Option ℤ
total_of aggregation came key = (key, reduce (joined aggregation) (of_key is_same_key key came))

-- the admitted keys of what came, with what their integers give
abbrev pub totals : Aggregation → ℕ → List (MetricKey × ℤ) → List (MetricKey × Option ℤ)
totals aggregation bound came = map (total_of aggregation came) (admitted is_same_key bound (map arrival_key came))

-- the table has what came in the open part; its count is of so many drops since the last report
pub record HasTotals (aggregation : Aggregation) (table : Table MetricKey (Option ℤ)) (came : List (MetricKey × ℤ))
    (dropped : ℕ) : Type 0 where
  pub rows : table.rows ≡ totals aggregation table.bound came
  pub dropped_are : table.dropped ≡ count_in_u64 dropped

-- one more integer of a key: whatever came before, the new table has it too
pub record TakesInteger (aggregation : Aggregation) (old new : Table MetricKey (Option ℤ)) (key : MetricKey)
    (integer : ℤ) : Type 0 where
  pub bound : new.bound ≡ old.bound
  pub totals_are : (hides_zeros : Bool) (came : List (MetricKey × ℤ)) (dropped : ℕ)
      → HasTotals aggregation old came dropped
      → HasTotals aggregation new (came ++ (key, integer) ∷ [])
      (dropped + drops (value_kind aggregation hides_zeros) old.bound came (key, integer))

-- an integer joined those of the row at a place
abbrev pub JoinsAt : Aggregation → ℕ → ℤ → Table MetricKey (Option ℤ) → Table MetricKey (Option ℤ) → Type 0
JoinsAt aggregation place integer old new =
    (total : Option ℤ) → slice_get (values_of old.rows) place ≡ Some total
    → new ≡ with_value_at old place (Some (joined_to aggregation total integer))

-- what a row shows of a total: an integer at the ends of a number of 64 bits at most
abbrev pub shown_total : Option ℤ → ℤ
shown_total total = saturate_signed w64 (unwrap_or total (pos 0))

-- a key's row of a part, by its total, or none where that is hidden
abbrev pub total_rows : Bool → ℕ → ℕ → MetricKey × Option ℤ → List (Row ℤ)
total_rows hides_zeros start end entry =
    unless_hidden hides_zeros (record { key = entry.0; start = start; end = end; value = shown_total entry.1 })

-- the rows of a part, by its totals
abbrev pub part_rows : Bool → ℕ → ℕ → List (MetricKey × Option ℤ) → List (Row ℤ)
part_rows hides_zeros start end totals = flat_map (total_rows hides_zeros start end) totals

-- the rows of the same totals in so many full buckets, one after the other
abbrev pub bucket_rows : Bool → List (MetricKey × Option ℤ) → ℕ → ℕ → ℕ → List (Row ℤ)
bucket_rows hides_zeros totals size start zero = []
bucket_rows hides_zeros totals size start (suc n) =
    flat_map (total_rows hides_zeros start (start + size)) totals
    ++ bucket_rows hides_zeros totals size (start + size) n

-- each row weighs the same
abbrev pub row_weighs : Row ℤ → ℕ
row_weighs row = 1

-- whatever rows the old one was of, the new one is of those and these, which are so many
abbrev pub AddsCounted : Keeping (Row ℤ) → Keeping (Row ℤ) → ℕ → List (Row ℤ) → Type 0
AddsCounted old new count rows = AddsRows row_weighs old new rows × (count ≡ length rows)
