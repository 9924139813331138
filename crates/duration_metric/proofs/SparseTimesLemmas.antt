-- The longest times of a part, one more time at a time.
use Rattle.std.proofs.Common.{◌≡◌, ℕ, max, false, List, [], ◌∷◌, ◌++◌, slice_get, Some, ap, ◌∙◌}
use Rattle.std.specs.Map.{values_of}
use Rattle.std.proofs.lemmas.List.Sums.{fold-append}
use Rattle.atom_record.specs.declared.value.MetricKey.{MetricKey}
use Rattle.atom_record.specs.Equal.{metric_key_exact}
use Rattle.bucket_meaning.specs.Guard.{of_key}
use Rattle.dim_table.specs.declared.answer.Admit.TheVariants.{At}
use Rattle.dim_table.specs.Table.{Table, Admits, IsTurnedAway, with_value_at}
use Rattle.metric_producer.proofs.KeysLemmas.{of_other, of_own}
use Rattle.metric_producer.proofs.TableLemmas.{IsTabled, admits_bound, tabled_at, tabled_away}
use Rattle.metric_kinds.specs.Keys.{is_same_key}
use Rattle.metric_kinds.specs.Durations.{longest}
use Rattle.duration_metric.specs.SparseTimes.{HasTimes, TakesTime}

-- the longest time of a key
abbrev longest_at : List (MetricKey × ℕ) → MetricKey → ℕ
longest_at came key = longest (of_key is_same_key key came)

-- with one more time of a key
abbrev with_time : List (MetricKey × ℕ) → MetricKey → ℕ → List (MetricKey × ℕ)
with_time came key time = came ++ (key, time) ∷ []

-- another key's longest time stays
longest_other : (came : List (MetricKey × ℕ)) (key : MetricKey) (time : ℕ) (other : MetricKey)
    → is_same_key key other ≡ false → longest_at (with_time came key time) other ≡ longest_at came other
longest_other came key time other differ = ap longest (of_other is_same_key came key other time differ)

-- the key's own is that or the new time
longest_own : (came : List (MetricKey × ℕ)) (key : MetricKey) (time : ℕ)
    → longest_at (with_time came key time) key ≡ max (longest_at came key) time
longest_own came key time =
    ap longest (of_own is_same_key metric_key_exact came key time)
    ∙ fold-append max 0 (of_key is_same_key key came) (time ∷ [])

-- the table that has the times is the table of these
tabled : (table : Table MetricKey ℕ) (came : List (MetricKey × ℕ)) (lost : ℕ) → HasTimes table came lost
    → IsTabled is_same_key metric_key_exact longest_at table came lost
tabled table came lost has = record { rows = has.rows; dropped_are = has.dropped_are }

-- a key at a place, whose longest time is now that or the new one
pub takes_at : (old mid : Table MetricKey ℕ) (key : MetricKey) (time place : ℕ) (new : Table MetricKey ℕ)
    → Admits old mid key 0 (At place) → new.bound ≡ mid.bound
    → ((most : ℕ) → slice_get (values_of mid.rows) place ≡ Some most → new ≡ with_value_at mid place (max most time))
    → TakesTime old new key time
takes_at old mid key time place new admits bound longer = record {
  bound = bound ∙ admits_bound old mid key 0 place admits;
  times_are = λ came lost has.
      let it = tabled_at is_same_key metric_key_exact longest_at old came lost (tabled old came lost has) key time
      (longest_other came key time) mid new 0 place (λ most. max most time) admits bound longer
      (longest_own came key time) (λ none. ap longest none) in
      record { rows = it.rows; dropped_are = it.dropped_are };
}

-- a new key for which there is no room
pub takes_none : (old new : Table MetricKey ℕ) (key : MetricKey) (time : ℕ) → IsTurnedAway old new key
    → TakesTime old new key time
takes_none old new key time away = record {
  bound = ap (λ (table : Table MetricKey ℕ). table.bound) away.added;
  times_are = λ came lost has.
      let it = tabled_away is_same_key metric_key_exact longest_at old came lost (tabled old came lost has) key time
      (longest_other came key time) new away in
      record { rows = it.rows; dropped_are = it.dropped_are };
}
