-- Where the inner keys stand that were listed before an event: where they stood, or further on if one left.
use Rattle.std.proofs.Common.{◌≡◌, ℕ, zero, suc, ◌+◌, ◌<◌, Bool, true, false, not, ◌&&◌, ◌||◌, ◌==◌, cond, nat_lt, List, [], ◌∷◌, ◌++◌, filter, length, slice_get, Option, Some, None, if◌then◌else◌, refl, sym, ap, subst, ◌∙◌, arith, ⊎_elim, append-nil}
use Rattle.std.specs.Map.{keys_of, lookup, set_value}
use Rattle.std.proofs.lemmas.List.{map-append}
use Rattle.std.proofs.lemmas.Option.{none-some, same_Some}
use Rattle.bucket_meaning.specs.Guard.{is_among}
use Rattle.bucket_meaning.specs.Kept.{count_in_u64}
use Rattle.config_types.specs.declared.parameters.PredSpec.{PredSpec}
use Rattle.predicate_state.specs.declared.event.PredEvent.{PredEvent}
use Rattle.predicate_state.specs.declared.event.PredEvent.TheVariants.{Start, Stop, StopAll}
use Rattle.predicate_state.specs.PredicateStates.{PredicateState, count_after_start, count_after_stop, with_new_key, with_key_count, without_key, state_after_stop_all, state_after_stop, state_after_start, state_after}
use Rattle.predicate_state.specs.PredicateTable.{LeafKey, same_leaves}
use Rattle.metric_producer.specs.LaneCalls.{coming}
use Rattle.duration_metric.specs.declared.change.InnerEvent.{InnerEvent}
use Rattle.duration_metric.specs.InnerKeys.{DurationCall, inner_state, inner_keys}
use Rattle.duration_metric.proofs.KnownLemmas.{inner_state-got}
use Rattle.metric_calls.proofs.InnerChangesLemmas.{or_cases, among_first, among_later}

-- a key that stands at a place is among the keys
pub among_there : (keys : List LeafKey) (place : ℕ) (key : LeafKey) → slice_get keys place ≡ Some key
    → is_among same_leaves key keys ≡ true
among_there [] zero key is = absurd (none-some key is)
among_there [] (suc place) key is = absurd (none-some key is)
among_there (first ∷ keys) zero key is =
    subst (λ k. is_among same_leaves k (first ∷ keys) ≡ true) (same_Some first key is) (among_first first keys)
among_there (first ∷ keys) (suc place) key is = among_later first key keys (among_there keys place key is)

-- keys keep their places before others
front_stays : (keys more : List LeafKey) (place : ℕ) → place < length keys
    → slice_get (keys ++ more) place ≡ slice_get keys place
front_stays [] more place within = absurd (omega (arith, within))
front_stays (key ∷ keys) more zero within = refl
front_stays (key ∷ keys) more (suc place) within = front_stays keys more place (omega (arith, within))

-- another count leaves the keys
keys-set_value : (test : LeafKey → Bool) (rows : List (LeafKey × ℕ)) (count : ℕ)
    → keys_of (set_value test rows count) ≡ keys_of rows
keys-set_value test [] count = refl
keys-set_value test (row ∷ rows) count = by (test row.0) (keys-set_value test rows count) where
  by : (b : Bool) → keys_of (set_value test rows count) ≡ keys_of rows
      → keys_of (cond b ((row.0, count) ∷ rows) (row ∷ set_value test rows count)) ≡ keys_of (row ∷ rows)
  by true same = refl
  by false same = ap (λ l. row.0 ∷ l) same

-- a key that is left was there
left_among : (test : LeafKey × ℕ → Bool) (rows : List (LeafKey × ℕ)) (key : LeafKey)
    → is_among same_leaves key (keys_of (filter test rows)) ≡ true → is_among same_leaves key (keys_of rows) ≡ true
left_among test [] key left = left
left_among test (row ∷ rows) key left = by (test row) (left_among test rows key) left where
  by : (b : Bool)
      → (is_among same_leaves key (keys_of (filter test rows)) ≡ true → is_among same_leaves key (keys_of rows) ≡ true)
      → is_among same_leaves key (keys_of (cond b (row ∷ filter test rows) (filter test rows))) ≡ true
      → is_among same_leaves key (keys_of (row ∷ rows)) ≡ true
  by false rest left = among_later row.0 key (keys_of rows) (rest left)
  by true rest left = ⊎_elim
      (λ (here : same_leaves row.0 key ≡ true). ap (λ b. b || is_among same_leaves key (keys_of rows)) here)
      (λ there. among_later row.0 key (keys_of rows) (rest there))
      (or_cases (same_leaves row.0 key) (is_among same_leaves key (keys_of (filter test rows))) left)

module _ (spec : PredSpec) (state : PredicateState LeafKey) where
  -- of as many keys as were listed, each was listed
  abbrev AreOld : PredicateState LeafKey → Type 0
  AreOld new =
      (place : ℕ) (key : LeafKey) → place < length (keys_of state.counts)
      → slice_get (keys_of new.counts) place ≡ Some key → is_among same_leaves key (keys_of state.counts) ≡ true

  -- where the same keys are listed
  same_old : (new : PredicateState LeafKey) → keys_of new.counts ≡ keys_of state.counts → AreOld new
  same_old new same place key within is =
      among_there (keys_of state.counts) place key (subst (λ keys. slice_get keys place ≡ Some key) same is)

  -- where one more is, since it is listed last
  new_old : (added : LeafKey) (count : ℕ) → AreOld (with_new_key spec.bound state added count)
  new_old added count = by (nat_lt (length state.counts) spec.bound) where
    by : (room : Bool)
        → AreOld (if room then record state { counts = state.counts ++ (added, count) ∷ [] }
        else record state { dropped = count_in_u64 (state.dropped + 1) })
    by true place key within is =
        among_there (keys_of state.counts) place key
        (sym (front_stays (keys_of state.counts) (added ∷ []) place within)
        ∙ sym (ap (λ keys. slice_get keys place)
        (map-append (λ (row : LeafKey × ℕ). row.0) state.counts ((added, count) ∷ [])))
        ∙ is)
    by false place key within is = among_there (keys_of state.counts) place key is

  -- where one leaves
  without_old : (gone : LeafKey) → AreOld (without_key same_leaves state gone)
  without_old gone place key within is =
      left_among (λ row. not (same_leaves gone row.0)) state.counts key
      (among_there (keys_of (without_key same_leaves state gone).counts) place key is)

  counted_old : (acted : LeafKey) (count : ℕ) → AreOld (with_key_count same_leaves state acted count)
  counted_old acted count =
      same_old (with_key_count same_leaves state acted count) (keys-set_value (same_leaves acted) state.counts count)

  -- and where all leave
  none_old : AreOld (state_after_stop_all state)
  none_old zero key within is = absurd (none-some key is)
  none_old (suc place) key within is = absurd (none-some key is)

  -- so it is after each event
  after_old : (event : PredEvent) (acted : LeafKey) → AreOld (state_after same_leaves spec state event acted)
  after_old Start acted = by (lookup (same_leaves acted) state.counts) where
    by : (found : Option ℕ) → AreOld (state_after_start same_leaves spec state acted found)
    by None = new_old acted 1
    by (Some count) = counted_old acted (count_after_start spec.nesting count)
  after_old Stop acted = by (lookup (same_leaves acted) state.counts) where
    if_unknown : (unknown : Bool) → AreOld (if unknown then with_new_key spec.bound state acted 0 else state)
    if_unknown true = new_old acted 0
    if_unknown false = same_old state refl

    if_gone : (gone : Bool) (less : ℕ)
        → AreOld (if gone then without_key same_leaves state acted else with_key_count same_leaves state acted less)
    if_gone true less = without_old acted
    if_gone false less = counted_old acted less

    by : (found : Option ℕ) → AreOld (state_after_stop same_leaves spec state acted found)
    by None = if_unknown state.unknown
    by (Some count) =
        let less = count_after_stop spec.nesting count in if_gone (less == 0 && not state.unknown) less
  after_old StopAll acted = none_old

-- of as many inner keys as were listed before an event, if one comes, each was listed before it
pub are_old : (spec : PredSpec) (calls : List DurationCall) (at : ℕ) (event : Option InnerEvent)
    (place : ℕ) (key : LeafKey)
    → place < length (inner_keys spec calls)
    → slice_get (inner_keys spec (calls ++ coming at event)) place ≡ Some key
    → is_among same_leaves key (inner_keys spec calls) ≡ true
are_old spec calls at None place key within is =
    among_there (inner_keys spec calls) place key
    (subst (λ cs. slice_get (inner_keys spec cs) place ≡ Some key) (append-nil calls) is)
are_old spec calls at (Some event) place key within is =
    after_old spec (inner_state spec calls) event.event event.key place key within
    (subst (λ (s : PredicateState LeafKey). slice_get (keys_of s.counts) place ≡ Some key)
    (inner_state-got spec calls at event) is)
