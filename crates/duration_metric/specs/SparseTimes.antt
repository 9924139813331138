-- What a table has of the times that came in a part: for each admitted key the longest of them.
use Rattle.std.specs.Prelude.{◌≡◌, ℕ, ◌+◌, List, [], ◌∷◌, ◌++◌, map}
use Rattle.atom_record.specs.declared.value.MetricKey.{MetricKey}
use Rattle.bucket_meaning.specs.Guard.{admitted, of_key, arrival_key}
use Rattle.bucket_meaning.specs.Kept.{count_in_u64}
use Rattle.bucket_meaning.specs.Rows.{drops}
use Rattle.dim_table.specs.Table.{Table}
use Rattle.metric_kinds.specs.Keys.{is_same_key}
use Rattle.metric_kinds.specs.Durations.{duration_row, longest, longest_kind}
use Rattle.metric_producer.specs.declared.row.Row.{Row}

-- a key with the longest of its times
abbrev pub longest_of : List (MetricKey × ℕ) → MetricKey → MetricKey × ℕ
longest_of came key = (key, longest (of_key is_same_key key came))

-- the admitted keys of what came, with the longest of their times
abbrev pub longest_times : ℕ → List (MetricKey × ℕ) → List (MetricKey × ℕ)
longest_times bound came = map (longest_of came) (admitted is_same_key bound (map arrival_key came))

-- the table has what came in the open part; its count is of so many drops since the last report
pub record HasTimes (table : Table MetricKey ℕ) (came : List (MetricKey × ℕ)) (dropped : ℕ) : Type 0 where
  pub rows : table.rows ≡ longest_times table.bound came
  pub dropped_are : table.dropped ≡ count_in_u64 dropped

-- one more time of a key: whatever came before, the new table has it too
pub record TakesTime (old new : Table MetricKey ℕ) (key : MetricKey) (time : ℕ) : Type 0 where
  pub bound : new.bound ≡ old.bound
  pub times_are : (came : List (MetricKey × ℕ)) (dropped : ℕ) → HasTimes old came dropped
      → HasTimes new (came ++ (key, time) ∷ []) (dropped + drops longest_kind old.bound came (key, time))

-- a key's row of a part, by its longest time; no time has none
abbrev pub time_rows : ℕ → ℕ → MetricKey × ℕ → List (Row ℕ)
time_rows start end entry = duration_row start end entry.0 entry.1
