-- The tally of a part, one more arrival at a time.
use Rattle.std.proofs.Common.{◌≡◌, ℕ, ◌+◌, ◌-◌, ◌^◌, min, false, List, [], ◌∷◌, ◌++◌, length, slice_get, Some, ap, ◌∙◌, arith}
use Rattle.std.specs.Map.{values_of}
use Rattle.std.proofs.lemmas.List.{length-append}
use Rattle.atom_record.specs.declared.value.MetricKey.{MetricKey}
use Rattle.atom_record.specs.Equal.{metric_key_exact}
use Rattle.bucket_meaning.specs.Guard.{of_key}
use Rattle.bucket_meaning.specs.Kept.{count_in_u64}
use Rattle.dim_table.specs.declared.answer.Admit.TheVariants.{At}
use Rattle.dim_table.specs.Table.{Table, Admits, IsTurnedAway, with_value_at}
use Rattle.metric_producer.proofs.KeysLemmas.{of_other, of_own}
use Rattle.metric_producer.proofs.SpilledLemmas.{turned_away-push}
use Rattle.metric_producer.proofs.TableLemmas.{IsTabled, admits_bound, none_lost, one_lost, tabled_at, tabled_away}
use Rattle.metric_kinds.specs.Keys.{is_same_key}
use Rattle.count_metric.specs.CountStands.{spilled_of, IsTally, TakesKey}

-- with one more arrival of a key
abbrev with_key_in : List (MetricKey × ℕ) → MetricKey → List (MetricKey × ℕ)
with_key_in came key = came ++ (key, 1) ∷ []

-- the number of a key's arrivals
abbrev count_at : List (MetricKey × ℕ) → MetricKey → ℕ
count_at came key = count_in_u64 (length (of_key is_same_key key came))

-- one more
abbrev raised_from : ℕ → ℕ
raised_from count = min (count + 1) (2 ^ 64 - 1)

-- another key's number stays
count_other : (came : List (MetricKey × ℕ)) (key other : MetricKey) → is_same_key key other ≡ false
    → count_at (with_key_in came key) other ≡ count_at came other
count_other came key other differ =
    ap (λ ones. count_in_u64 (length ones)) (of_other is_same_key came key other 1 differ)

-- a count of one more is raised
raised_count : (n : ℕ) → count_in_u64 (n + 1) ≡ raised_from (count_in_u64 n)
raised_count n = omega arith

-- the key's own number is one more
count_own : (came : List (MetricKey × ℕ)) (key : MetricKey)
    → count_at (with_key_in came key) key ≡ raised_from (count_at came key)
count_own came key =
    let one : List ℕ = 1 ∷ [] in
    ap (λ ones. count_in_u64 (length ones)) (of_own is_same_key metric_key_exact came key 1)
    ∙ ap count_in_u64 (length-append (of_key is_same_key key came) one)
    ∙ raised_count (length (of_key is_same_key key came))

-- a key that didn't come has the number 0
count_none : (came : List (MetricKey × ℕ)) (key : MetricKey) → of_key is_same_key key came ≡ [] → count_at came key ≡ 0
count_none came key none = ap (λ ones. count_in_u64 (length ones)) none

-- the tally is the table of these numbers
tabled : (table : Table MetricKey ℕ) (came : List (MetricKey × ℕ)) (lost : ℕ) → IsTally table came lost
    → IsTabled is_same_key metric_key_exact count_at table came lost
tabled table came lost is = record { rows = is.rows; dropped_are = is.dropped_are }

-- a key at a place, whose number was raised
pub takes_at : (old mid : Table MetricKey ℕ) (key : MetricKey) (place : ℕ) (new : Table MetricKey ℕ)
    → Admits old mid key 0 (At place) → new.bound ≡ mid.bound
    → ((count : ℕ) → slice_get (values_of mid.rows) place ≡ Some count
    → new ≡ with_value_at mid place (raised_from count))
    → TakesKey old new key 0
takes_at old mid key place new admits bound raised = record {
  bound = bound ∙ admits_bound old mid key 0 place admits;
  tally_is = λ gathers came lost is.
      let it = tabled_at is_same_key metric_key_exact count_at old came lost (tabled old came lost is) key 1
      (count_other came key) mid new 0 place raised_from admits bound raised (count_own came key)
      (count_none came key) in
      record { rows = it.rows; dropped_are = it.dropped_are };
  spilled_are = λ came lost is.
      turned_away-push is_same_key metric_key_exact old.bound came key 1
      ∙ ap (λ n. spilled_of old.bound came + n)
      (none_lost is_same_key metric_key_exact count_at old came lost (tabled old came lost is) key 1
      (count_other came key) mid 0 place admits);
}

-- a new key for which there is no room
pub takes_none : (old new : Table MetricKey ℕ) (key : MetricKey) → IsTurnedAway old new key → TakesKey old new key 1
takes_none old new key away = record {
  bound = ap (λ (table : Table MetricKey ℕ). table.bound) away.added;
  tally_is = λ gathers came lost is.
      let it = tabled_away is_same_key metric_key_exact count_at old came lost (tabled old came lost is) key 1
      (count_other came key) new away in
      record { rows = it.rows; dropped_are = it.dropped_are };
  spilled_are = λ came lost is.
      turned_away-push is_same_key metric_key_exact old.bound came key 1
      ∙ ap (λ n. spilled_of old.bound came + n)
      (one_lost is_same_key metric_key_exact count_at old came lost (tabled old came lost is) key 1
      (count_other came key) new away);
}
