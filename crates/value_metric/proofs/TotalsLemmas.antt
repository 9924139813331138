-- The totals of a part, one more integer at a time.
use Rattle.std.proofs.Common.{◌≡◌, ℕ, ℤ, false, List, [], ◌∷◌, ◌++◌, slice_get, Option, Some, None, refl, ap, ◌∙◌}
use Rattle.std.specs.List.{reduce}
use Rattle.std.specs.Map.{values_of}
use Rattle.std.proofs.lemmas.List.Sums.{fold-append}
use Rattle.atom_record.specs.declared.value.MetricKey.{MetricKey}
use Rattle.atom_record.specs.Equal.{metric_key_exact}
use Rattle.bucket_meaning.specs.Guard.{of_key}
use Rattle.config_types.specs.declared.metric.Aggregation.{Aggregation}
use Rattle.dim_table.specs.declared.answer.Admit.TheVariants.{At}
use Rattle.dim_table.specs.Table.{Table, Admits, IsTurnedAway, with_value_at}
use Rattle.metric_producer.proofs.KeysLemmas.{of_other, of_own}
use Rattle.metric_producer.proofs.TableLemmas.{IsTabled, admits_bound, tabled_at, tabled_away}
use Rattle.metric_kinds.specs.Keys.{is_same_key}
use Rattle.metric_kinds.specs.Values.{joined}
use Rattle.value_metric.specs.Totals.{joined_to, HasTotals, TakesInteger}

-- what a key's integers give
abbrev total_at : Aggregation → List (MetricKey × ℤ) → MetricKey → Option ℤ
total_at aggregation came key = reduce (joined aggregation) (of_key is_same_key key came)

-- with one more integer of a key
abbrev with_integer : List (MetricKey × ℤ) → MetricKey → ℤ → List (MetricKey × ℤ)
with_integer came key integer = came ++ (key, integer) ∷ []

-- one integer more is joined to those before it
pub total-push : (aggregation : Aggregation) (integers : List ℤ) (next : ℤ)
    → reduce (joined aggregation) (integers ++ next ∷ [])
    ≡ Some (joined_to aggregation (reduce (joined aggregation) integers) next)
total-push aggregation [] next = refl
total-push aggregation (first ∷ more) next = ap Some (fold-append (joined aggregation) first more (next ∷ []))

-- another key's total stays
total_other : (aggregation : Aggregation) (came : List (MetricKey × ℤ)) (key : MetricKey) (integer : ℤ)
    (other : MetricKey) → is_same_key key other ≡ false
    → total_at aggregation (with_integer came key integer) other ≡ total_at aggregation came other
total_other aggregation came key integer other differ =
    ap (reduce (joined aggregation)) (of_other is_same_key came key other integer differ)

-- the key's own total has one integer more
total_own : (aggregation : Aggregation) (came : List (MetricKey × ℤ)) (key : MetricKey) (integer : ℤ)
    → total_at aggregation (with_integer came key integer) key
    ≡ Some (joined_to aggregation (total_at aggregation came key) integer)
total_own aggregation came key integer =
    ap (reduce (joined aggregation)) (of_own is_same_key metric_key_exact came key integer)
    ∙ total-push aggregation (of_key is_same_key key came) integer

-- a key that didn't come has no total
total_none : (aggregation : Aggregation) (came : List (MetricKey × ℤ)) (key : MetricKey)
    → of_key is_same_key key came ≡ [] → total_at aggregation came key ≡ None
total_none aggregation came key none = ap (reduce (joined aggregation)) none

-- the table that has the totals is the table of these
tabled : (aggregation : Aggregation) (table : Table MetricKey (Option ℤ)) (came : List (MetricKey × ℤ)) (lost : ℕ)
    → HasTotals aggregation table came lost
    → IsTabled is_same_key metric_key_exact (total_at aggregation) table came lost
tabled aggregation table came lost has = record { rows = has.rows; dropped_are = has.dropped_are }

-- a key at a place, to whose total the integer was joined
pub takes_at : (aggregation : Aggregation) (old mid : Table MetricKey (Option ℤ)) (key : MetricKey) (integer : ℤ)
    (place : ℕ) (new : Table MetricKey (Option ℤ))
    → Admits old mid key None (At place) → new.bound ≡ mid.bound
    → ((total : Option ℤ) → slice_get (values_of mid.rows) place ≡ Some total
    → new ≡ with_value_at mid place (Some (joined_to aggregation total integer)))
    → TakesInteger aggregation old new key integer
takes_at aggregation old mid key integer place new admits bound joins = record {
  bound = bound ∙ admits_bound old mid key None place admits;
  totals_are = λ hides_zeros came lost has.
      let it = tabled_at is_same_key metric_key_exact (total_at aggregation) old came lost
      (tabled aggregation old came lost has) key integer (total_other aggregation came key integer) mid new None place
      (λ total. Some (joined_to aggregation total integer)) admits bound joins
      (total_own aggregation came key integer) (total_none aggregation came key) in
      record { rows = it.rows; dropped_are = it.dropped_are };
}

-- a new key for which there is no room
pub takes_none : (aggregation : Aggregation) (old new : Table MetricKey (Option ℤ)) (key : MetricKey) (integer : ℤ)
    → IsTurnedAway old new key → TakesInteger aggregation old new key integer
takes_none aggregation old new key integer away = record {
  bound = ap (λ (table : Table MetricKey (Option ℤ)). table.bound) away.added;
  totals_are = λ hides_zeros came lost has.
      let it = tabled_away is_same_key metric_key_exact (total_at aggregation) old came lost
      (tabled aggregation old came lost has) key integer (total_other aggregation came key integer) new away in
      record { rows = it.rows; dropped_are = it.dropped_are };
}
