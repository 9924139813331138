-- What the tables of a window say of a key, and how they change: for private clauses.
use Rattle.std.specs.Prelude.{◌≡◌, ℕ, ◌+◌, ◌-◌, ◌^◌, min, Bool, ◌||◌, ◌==◌, not, List, [], ◌∷◌, ◌++◌, length, slice_get, Some, unwrap_or, replicate, All}
use Rattle.std.specs.List.{sum_by}
use Rattle.std.specs.Map.{lookup, values_of}
use Rattle.atom_record.specs.declared.value.MetricKey.{MetricKey}
use Rattle.bucket_meaning.specs.Guard.{is_among}
use Rattle.bucket_meaning.specs.Kept.{count_in_u64}
use Rattle.dim_table.specs.Table.{keys, with_value_at}
use Rattle.metric_kinds.specs.Keys.{is_same_key}
use Rattle.alert_watch.specs.Windows.{Arrival}
use Rattle.alert_watch.specs.Watches.{KeyCounts, IsPartTable, CountsPart, CountParts}

-- a part's table without rows
pub record IsEmptyTable (bound : ℕ) (table : KeyCounts) : Type 0 where
  pub is_table : IsPartTable bound table
  pub rows : table.rows ≡ []

-- a key's number in a table
abbrev pub number_in_table : MetricKey → KeyCounts → ℕ
number_in_table key table = unwrap_or (lookup (is_same_key key) table.rows) 0

-- the sum of its numbers in some tables
abbrev pub table_sum : MetricKey → List KeyCounts → ℕ
table_sum key tables = count_in_u64 (sum_by (number_in_table key) tables)

-- a key has a row, or there is room for one
abbrev pub finds_room : MetricKey → KeyCounts → Bool
finds_room key table = is_among is_same_key key (keys table) || not (length table.rows == table.bound)

-- the number in the row at a place, if there is one, is one more
abbrev pub RaisesAt : KeyCounts → KeyCounts → ℕ → Type 0
RaisesAt old new place = (count : ℕ) → slice_get (values_of old.rows) place ≡ Some count
    → new ≡ with_value_at old place (min (count + 1) (2 ^ 64 - 1))

-- one arrival more of a key, at any time
pub record CountsOne (old new : KeyCounts) (key : MetricKey) : Type 0 where
  pub bound : new.bound ≡ old.bound
  pub dropped : new.dropped ≡ old.dropped
  pub counted : (part : List Arrival) (at : ℕ) → CountsPart old part → CountsPart new (part ++ (key, at) ∷ [])

-- so many parts ended
pub record Turns (old new : List KeyCounts) (parts : ℕ) : Type 0 where
  pub counted : (seen : List (List Arrival)) → CountParts old seen → CountParts new (replicate parts [] ++ seen)
  pub tables : (bound : ℕ) → All (IsPartTable bound) old → All (IsPartTable bound) new
