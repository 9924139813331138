-- What calls make of the tally of a producer of sums: it stays right.
use Rattle.std.proofs.Common.{◌≡◌, ℕ, List, [], Some, Result, Ok, Err, OnOk, sym, ap, subst, ◌∙◌, arith}
use Rattle.std.specs.List.{flat_map}
use Rattle.std.specs.Map.{keys_of, lookup}
use Rattle.std.proofs.lemmas.Bool.{false≢true}
use Rattle.std.proofs.lemmas.Option.{none-some}
use Rattle.atom_record.specs.declared.value.MetricKey.{MetricKey}
use Rattle.dim_table.specs.Table.{Table, keys}
use Rattle.metric_kinds.specs.Keys.{is_same_key}
use Rattle.predicate_state.specs.PredicateTable.{LeafKey}
use Rattle.duration_metric.specs.declared.inner.Inner.{Inner}
use Rattle.duration_metric.specs.declared.inner.InnerTable.{InnerTable}
use Rattle.duration_metric.specs.declared.sum.Span.{Span}
use Rattle.duration_metric.specs.declared.sum.Sums.{Sums}
use Rattle.duration_metric.specs.SumParts.{HasRightTally}
use Rattle.duration_metric.specs.SumSteps.{KeepsKeys, Recounts, ReleasesPlaces, LowersAll}
use Rattle.duration_metric.specs.Tallies.{tally_at, how_often, row_tallied, CountsSame, CountsAll, KeepsCounts, ZerosAmong, NewZeros, Forgets}
use Rattle.duration_metric.proofs.ZerosLemmas.{zeros_left, zeros_closed}

-- no inner key is counted where there is none
pub tally_begins : (it : Sums) → it.inner.keys.rows ≡ [] → it.inner.gone ≡ [] → it.tally ≡ [] → HasRightTally it
tally_begins it rows gone tally = record {
  all = λ key.
      let none = ap (λ l. tally_at l key) tally in
      let listed = ap (λ l. how_often key (flat_map row_tallied l)) rows in
      let left = ap (how_often key) gone in
      omega (arith, none, listed, left);
  zeros = λ key zero. absurd (none-some 0 (subst (λ l. lookup (is_same_key key) l ≡ Some 0) tally zero));
}

-- an event came
pub tally_stays : (old : Sums) (inner : InnerTable) → KeepsCounts old.inner inner → HasRightTally old
    → HasRightTally (record old { inner = inner })
tally_stays old inner counts right = record {
  all = λ key. right.all key ∙ sym (counts key);
  zeros = right.zeros;
}

-- the open part was closed
pub tally_closes : (old new : Sums) → new.inner ≡ old.inner → new.table.rows ≡ [] → CountsSame old.tally new.tally
    → Forgets old.tally new.tally (keys old.table) [] → HasRightTally old → HasRightTally new
tally_closes old new inner empty counts forgets right = record {
  all = subst (λ (t : InnerTable). CountsAll (tally_at new.tally) t.keys.rows t.gone) (sym inner)
      (λ key. counts key ∙ right.all key);
  zeros = subst (λ rows. ZerosAmong new.tally (keys_of rows)) (sym empty)
      (zeros_closed old.tally new.tally (keys old.table) right.zeros forgets);
}

-- and the next one began
pub tally_opens : (old : Sums) (table : Table MetricKey Span) → KeepsKeys old.table table → HasRightTally old
    → HasRightTally (record old { table = table })
tally_opens old table keeps right = record { all = right.all; zeros = λ key zero. keeps key (right.zeros key zero) }

-- what the tally doesn't count may be another
pub tally_alike : (old new : Sums) → new.inner ≡ old.inner → new.tally ≡ old.tally → keys new.table ≡ keys old.table
    → HasRightTally old → HasRightTally new
tally_alike old new inner tally rows right = record {
  all = subst (λ (t : InnerTable). CountsAll (tally_at new.tally) t.keys.rows t.gone) (sym inner)
      (subst (λ l. CountsAll (tally_at l) old.inner.keys.rows old.inner.gone) (sym tally) right.all);
  zeros = subst (ZerosAmong new.tally) (sym rows) (subst (λ l. ZerosAmong l (keys old.table)) (sym tally) right.zeros);
}

module _ (first rows last : Table LeafKey Inner) (tally raised lowered left : List (MetricKey × ℕ))
    (gone tolds : List MetricKey) (places : List ℕ) (all : CountsAll (tally_at tally) first.rows gone)
    (recounts : Recounts first rows tally raised places []) (lowers : LowersAll raised lowered gone) where
  -- the tally counts the inner keys that are in it
  pub lowered_counts : (key : MetricKey) → tally_at lowered key ≡ how_often key (flat_map row_tallied rows.rows)
  lowered_counts = lowers (λ key. how_often key (flat_map row_tallied rows.rows)) (recounts.tally_is gone all)

  -- also when those that count no more were taken out
  pub left_counts : ReleasesPlaces rows last lowered left places [] tolds → CountsAll (tally_at left) last.rows []
  left_counts releases = releases.tally_is (λ other. omega (arith, lowered_counts other))

-- a condition was told
pub tally_told : (new : Sums) (tally counted left : List (MetricKey × ℕ)) (some before : List MetricKey)
    (mid : Table MetricKey Span) → CountsAll (tally_at new.tally) new.inner.keys.rows new.inner.gone
    → ZerosAmong tally before → NewZeros tally counted some → Forgets counted left some (keys mid) → before ≡ keys mid
    → KeepsKeys mid new.table → new.tally ≡ left → HasRightTally new
tally_told new tally counted left some before mid all zeros comes forgets same keeps is = record {
  all = all;
  zeros = λ key zero. keeps key
      (zeros_left tally counted left some (keys mid) (subst (ZerosAmong tally) same zeros) comes forgets key
      (subst (λ l. lookup (is_same_key key) l ≡ Some 0) is zero));
}

-- it was counted again
pub tally_recounted : (it : Sums) → CountsAll (tally_at it.tally) it.inner.keys.rows it.inner.gone
    → ZerosAmong it.tally [] → HasRightTally it
tally_recounted it all zeros = record { all = all; zeros = λ key zero. absurd (false≢true (zeros key zero)) }

-- what a call makes of the parts holds where its answer was handed on
pub handed_on : {T E : Type 0} (holds : Sums → Type 0) (answer result : Result T E) (mid new : Sums) → result ≡ answer
    → OnOk answer (new ≡ mid) → OnOk answer (holds mid) → OnOk result (holds new)
handed_on holds (Ok x) result mid new same kept is =
    subst (λ r. OnOk r (holds new)) (sym same) (subst holds (sym kept) is)
handed_on holds (Err e) result mid new same kept is = subst (λ r. OnOk r (holds new)) (sym same) tt
