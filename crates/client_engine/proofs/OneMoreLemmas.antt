-- An event adds one inner key at most.
use Rattle.std.proofs.Common.{◌≡◌, ℕ, ◌+◌, ◌≤◌, Bool, true, false, not, ◌&&◌, ◌==◌, cond, nat_lt, List, [], ◌∷◌, ◌++◌, filter, length, Option, Some, None, if◌then◌else◌, refl, ap, arith, append-nil}
use Rattle.std.specs.Map.{keys_of, lookup, set_value}
use Rattle.std.proofs.lemmas.List.{length-append, length-map}
use Rattle.bucket_meaning.specs.Kept.{count_in_u64}
use Rattle.config_types.specs.declared.parameters.PredSpec.{PredSpec}
use Rattle.predicate_state.specs.declared.event.PredEvent.{PredEvent}
use Rattle.predicate_state.specs.declared.event.PredEvent.TheVariants.{Start, Stop, StopAll}
use Rattle.predicate_state.specs.PredicateStates.{PredicateState, count_after_start, count_after_stop, with_new_key, with_key_count, without_key, state_after_stop_all, state_after_stop, state_after_start, state_after}
use Rattle.predicate_state.specs.PredicateTable.{LeafKey, same_leaves}
use Rattle.metric_producer.specs.LaneCalls.{coming}
use Rattle.duration_metric.specs.declared.change.InnerEvent.{InnerEvent}
use Rattle.duration_metric.specs.InnerKeys.{DurationCall, inner_state, inner_keys}
use Rattle.duration_metric.proofs.KnownLemmas.{inner_state-got}

-- another count leaves as many rows
as_many_rows : (test : LeafKey → Bool) (rows : List (LeafKey × ℕ)) (count : ℕ)
    → length (set_value test rows count) ≡ length rows
as_many_rows test [] count = refl
as_many_rows test (row ∷ rows) count = by (test row.0) (as_many_rows test rows count) where
  by : (b : Bool) → length (set_value test rows count) ≡ length rows
      → length (cond b ((row.0, count) ∷ rows) (row ∷ set_value test rows count)) ≡ length (row ∷ rows)
  by true same = refl
  by false same = omega (arith, same)

-- those that are left are no more
fewer_rows : (test : LeafKey × ℕ → Bool) (rows : List (LeafKey × ℕ)) → length (filter test rows) ≤ length rows
fewer_rows test [] = omega arith
fewer_rows test (row ∷ rows) = by (test row) (fewer_rows test rows) where
  by : (b : Bool) → length (filter test rows) ≤ length rows
      → length (cond b (row ∷ filter test rows) (filter test rows)) ≤ length (row ∷ rows)
  by true few = omega (arith, few)
  by false few = omega (arith, few)

module _ (spec : PredSpec) (state : PredicateState LeafKey) where
  -- one key more is listed, at most
  abbrev AddsOne : PredicateState LeafKey → Type 0
  AddsOne new = length new.counts ≤ 1 + length state.counts

  new_adds : (added : LeafKey) (count : ℕ) → AddsOne (with_new_key spec.bound state added count)
  new_adds added count = by (nat_lt (length state.counts) spec.bound) where
    by : (room : Bool)
        → AddsOne (if room then record state { counts = state.counts ++ (added, count) ∷ [] }
        else record state { dropped = count_in_u64 (state.dropped + 1) })
    by true = let many = length-append state.counts ((added, count) ∷ []) in omega (arith, many)
    by false = omega arith

  without_adds : (gone : LeafKey) → AddsOne (without_key same_leaves state gone)
  without_adds gone =
      let few = fewer_rows (λ row. not (same_leaves gone row.0)) state.counts in omega (arith, few)

  counted_adds : (acted : LeafKey) (count : ℕ) → AddsOne (with_key_count same_leaves state acted count)
  counted_adds acted count =
      let many = as_many_rows (same_leaves acted) state.counts count in omega (arith, many)

  none_adds : AddsOne (state_after_stop_all state)
  none_adds = omega arith

  same_adds : AddsOne state
  same_adds = omega arith

  -- so it is after each event
  event_adds : (event : PredEvent) (acted : LeafKey) → AddsOne (state_after same_leaves spec state event acted)
  event_adds Start acted = by (lookup (same_leaves acted) state.counts) where
    by : (found : Option ℕ) → AddsOne (state_after_start same_leaves spec state acted found)
    by None = new_adds acted 1
    by (Some count) = counted_adds acted (count_after_start spec.nesting count)
  event_adds Stop acted = by (lookup (same_leaves acted) state.counts) where
    if_unknown : (unknown : Bool) → AddsOne (if unknown then with_new_key spec.bound state acted 0 else state)
    if_unknown true = new_adds acted 0
    if_unknown false = same_adds

    if_gone : (gone : Bool) (less : ℕ)
        → AddsOne (if gone then without_key same_leaves state acted else with_key_count same_leaves state acted less)
    if_gone true less = without_adds acted
    if_gone false less = counted_adds acted less

    by : (found : Option ℕ) → AddsOne (state_after_stop same_leaves spec state acted found)
    by None = if_unknown state.unknown
    by (Some count) =
        let less = count_after_stop spec.nesting count in if_gone (less == 0 && not state.unknown) less
  event_adds StopAll acted = none_adds

-- as many keys as rows
pub keys_many : (state : PredicateState LeafKey) → length (keys_of state.counts) ≡ length state.counts
keys_many state = length-map state.counts (λ (row : LeafKey × ℕ). row.0)

-- after an event, if one comes, one inner key more is listed, at most
pub one_more_listed : (spec : PredSpec) (calls : List DurationCall) (at : ℕ) (event : Option InnerEvent)
    → length (inner_keys spec (calls ++ coming at event)) ≤ 1 + length (inner_state spec calls).counts
one_more_listed spec calls at None =
    let many = keys_many (inner_state spec calls) in
    let same = ap (λ cs. length (inner_keys spec cs)) (append-nil calls) in
    omega (arith, many, same)
one_more_listed spec calls at (Some event) =
    let after = state_after same_leaves spec (inner_state spec calls) event.event event.key in
    let adds = event_adds spec (inner_state spec calls) event.event event.key in
    let many = keys_many after in
    let same = ap (λ (s : PredicateState LeafKey). length (keys_of s.counts)) (inner_state-got spec calls at event) in
    omega (arith, adds, many, same)
