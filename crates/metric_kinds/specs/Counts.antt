-- Metrics that count: the rows of a part, by key, and the row of the arrivals whose keys found no room.
use Rattle.std.specs.Prelude.{ℕ, Bool, true, false, List, [], ◌∷◌, map, length}
use Rattle.std.proofs.Common.{refl}
use Rattle.atom_record.specs.declared.value.MetricKey.{MetricKey}
use Rattle.bucket_meaning.specs.Guard.{arrival_key}
use Rattle.bucket_meaning.specs.Kept.{count_in_u64}
use Rattle.bucket_meaning.specs.Rows.{Kind, not_shown}
use Rattle.metric_producer.specs.declared.row.CountCell.{CountCell}
use Rattle.metric_producer.specs.declared.row.Row.{Row}
use Rattle.metric_kinds.specs.Keys.{is_same_key}

-- each row weighs the same
abbrev pub row_weight : {V : Type 0} → Row V → ℕ
row_weight row = 1

-- what the row of a key holds, by how many arrivals have the key
abbrev pub key_cell : ℕ → CountCell
key_cell arrivals = record { number = count_in_u64 arrivals; overflow = false }

-- what an overflow row holds, by how many arrivals have keys that found no room
abbrev pub overflow_cell : ℕ → CountCell
overflow_cell arrivals = record { number = count_in_u64 arrivals; overflow = true }

-- an overflow row is without key: it has no dimensions and no states
abbrev pub no_key : MetricKey
no_key = record { dims = []; slices = [] }

-- the overflow row of a part, by the arrivals whose keys found no room; where all keys found room there is none
abbrev pub overflow_rows : ℕ → ℕ → List (MetricKey × ℕ) → List (Row CountCell)
overflow_rows start end [] = []
overflow_rows start end (first ∷ more) =
    record { key = no_key; start = start; end = end; value = overflow_cell (length (first ∷ more)) } ∷ []

-- what is shown of the arrivals whose keys found no room: a metric gathers them in an overflow row, or doesn't show
-- them
abbrev pub gathered : Bool → ℕ → ℕ → List (MetricKey × ℕ) → List (Row CountCell)
gathered true = overflow_rows
gathered false = not_shown

-- a metric that counts, and gathers what found no room or doesn't: what arrives is a key with a 1, and a key's row has
-- the number of its arrivals
abbrev pub count_kind : Bool → Kind (MetricKey × ℕ) MetricKey ℕ (Row CountCell)
count_kind gathers = record {
  same = is_same_key;
  arrivals = λ came end. came;
  keys = λ came. map arrival_key came;
  keys_are = λ came end. refl;
  row = λ start end key ones. record { key = key; start = start; end = end; value = key_cell (length ones) } ∷ [];
  others = gathered gathers;
  weight = row_weight;
}
