-- What calls tell of inner keys, one call at a time.
use Rattle.std.proofs.Common.{◌≡◌, ◌⊎◌, inl, inr, ℕ, zero, suc, ◌+◌, ◌-◌, Bool, true, false, not, ◌||◌, ◌&&◌, ◌==◌, cond, if◌then◌else◌, nat_lt, List, [], ◌∷◌, ◌++◌, map, filter, length, position, slice_get, reverse, drop, Option, Some, None, refl, sym, ap, subst, ◌∙◌, arith, ⊎_elim, append-nil}
use Rattle.std.specs.Bool.{Decides}
use Rattle.std.specs.List.{flat_map, after_last, suffix_len, prefix_len, last_or, IsDistinct, position_or_len}
use Rattle.std.specs.Map.{keys_of, values_of, lookup}
use Rattle.std.specs.Option.{option_map, option_and_then, option_map_or}
use Rattle.std.specs.Cmp.Lexicographic.{pointwise_decides}
use Rattle.std.proofs.lemmas.Bool.{lt-ltb}
use Rattle.std.proofs.lemmas.Grind.{flat_map-append}
use Rattle.std.proofs.lemmas.List.{map-append, length-append, reverse-append, drop_all, drop-append-le}
use Rattle.std.proofs.lemmas.List.Elements.{filter-append}
use Rattle.std.proofs.lemmas.Map.Keys.{IsDistinct-head, IsDistinct-tail}
use Rattle.std.proofs.lemmas.Option.{none-some, same_Some, slice_get_within, slice_get-map}
use Rattle.sd_base.specs.Outputs.{outputs}
use Rattle.sd_base.proofs.OutputsLemmas.{outputs-push}
use Rattle.atom_record.specs.Equal.{leaf_exact}
use Rattle.bucket_meaning.specs.Guard.{is_among}
use Rattle.config_types.specs.declared.parameters.PredSpec.{PredSpec}
use Rattle.dim_table.specs.Table.{keys, set_value_at}
use Rattle.dim_table.proofs.KeyLemmas.{not_among, keys_set_value_at}
use Rattle.predicate_state.specs.declared.event.PredEvent.{PredEvent}
use Rattle.predicate_state.specs.declared.event.PredEvent.TheVariants.{Start, Stop, StopAll}
use Rattle.predicate_state.specs.PredicateStates.{KeyEvent, PredicateState, initial_state, count_after_start, count_after_stop, with_new_key, with_key_count, without_key, state_from, state_after, state_after_start, state_after_stop}
use Rattle.predicate_state.specs.PredicateTable.{LeafKey, same_leaves}
use Rattle.predicate_state.proofs.PredicateStateLemmas.{state_from-push}
use Rattle.metric_producer.specs.Calls.{Got, Learned}
use Rattle.metric_producer.proofs.KeysLemmas.{other_way, differs_from_one}
use Rattle.duration_metric.specs.declared.change.InnerEvent.{InnerEvent}
use Rattle.duration_metric.specs.declared.change.InnerChange.{InnerChange}
use Rattle.duration_metric.specs.declared.change.InnerDelta.{InnerDelta}
use Rattle.duration_metric.specs.declared.inner.Known.{Known}
use Rattle.duration_metric.specs.declared.inner.Inner.{Inner}
use Rattle.duration_metric.specs.declared.inner.InnerTable.{InnerTable}
use Rattle.duration_metric.specs.InnerKeys.{DurationCall, key_events, known_by, known_at, KeySeen, inner_state, inner_keys, told_to, key_seen, last_known, told_truth, says, was_told}
use Rattle.duration_metric.specs.InnerStands.{state_in, kept_spec, AreKnown, InnersStandFor, ActsOn, TakesEvent, TakesDelta, TellsOne, TellsAll, told, with_other}
use Rattle.duration_metric.specs.Tallies.{counted_in, AreSteady}
use Rattle.duration_metric.proofs.InnerLemmas.{keys_of-counts, counts-same}
use Rattle.duration_metric.proofs.TallyLemmas.{after_set, releases_counts, set_steady}

-- whether two inner keys are the same is decided
pub leaves_exact : (one other : LeafKey) → Decides (same_leaves one other) (one ≡ other)
leaves_exact = pointwise_decides leaf_exact

-- the elements at the end that pass no test, with one more
suffix-more : {X : Type 0} (test : X → Bool) (xs : List X) (last : X) (passes : Bool) → test last ≡ passes
    → suffix_len (λ x. not (test x)) (xs ++ last ∷ [])
    ≡ (if passes then 0 else 1 + suffix_len (λ x. not (test x)) xs)
suffix-more {X} test xs last passes is =
    let other : X → Bool = λ x. not (test x) in
    ap (prefix_len other) (reverse-append xs (last ∷ []))
    ∙ ap (λ b. cond (not b) (1 + prefix_len other (reverse xs)) 0) is ∙ by_case passes (suffix_len other xs) where
      by_case : (passes : Bool) (n : ℕ) → cond (not passes) (1 + n) 0 ≡ (if passes then 0 else 1 + n)
      by_case true n = refl
      by_case false n = refl

-- what stands after the last that passes a test, with one more: nothing if it passes
after_last-more : {X : Type 0} (test : X → Bool) (xs : List X) (last : X) (passes : Bool) → test last ≡ passes
    → after_last test (xs ++ last ∷ []) ≡ (if passes then [] else after_last test xs ++ last ∷ [])
after_last-more test xs last true is =
    drop_all (length (xs ++ last ∷ []) - suffix_len (λ x. not (test x)) (xs ++ last ∷ [])) (xs ++ last ∷ [])
    (omega (arith, suffix-more test xs last true is))
after_last-more {X} test xs last false is =
    let other : X → Bool = λ x. not (test x) in
    let behind = suffix_len other xs in
    let starts : length (xs ++ last ∷ []) - suffix_len other (xs ++ last ∷ []) ≡ length xs - behind =
    omega (arith, suffix-more test xs last false is, length-append xs (last ∷ [])) in
    ap (λ n. drop n (xs ++ last ∷ [])) starts
    ∙ drop-append-le (length xs - behind) xs (last ∷ []) (omega arith)

-- the last of two lists
pub last_or-append : {A : Type 0} (other : Option A) (xs ys : List A)
    → last_or other (xs ++ ys) ≡ last_or (last_or other xs) ys
last_or-append other [] ys = refl
last_or-append other (x ∷ xs) ys = last_or-append (Some x) xs ys

-- a list is empty, or has a last element
pub ends_with : {A : Type 0} (xs : List A)
    → (xs ≡ []) ⊎ ((front : List A) × (last : A) × (xs ≡ front ++ last ∷ []))
ends_with [] = inl refl
ends_with (x ∷ xs) = ⊎_elim
    (λ (none : xs ≡ []). inr ([], x, ap (λ l. x ∷ l) none))
    (λ some. inr (x ∷ some.0, some.1, ap (λ l. x ∷ l) some.2))
    (ends_with xs)

module _ (spec : PredSpec) where
  -- an event acts on what the others left
  pub inner_state-got : (calls : List DurationCall) (at : ℕ) (event : InnerEvent)
      → inner_state spec (calls ++ Got at event ∷ [])
      ≡ state_after same_leaves spec (inner_state spec calls) event.event event.key
  inner_state-got calls at event =
      let one : KeyEvent LeafKey = record { event = event.event; key = event.key } in
      ap (λ events. sparse_state events) (flat_map-append key_events calls (Got at event ∷ []))
      ∙ state_from-push same_leaves spec (initial_state spec) (flat_map key_events calls) one where
        sparse_state : List (KeyEvent LeafKey) → PredicateState LeafKey
        sparse_state events = state_from same_leaves spec (initial_state spec) events

  -- a call without an event leaves the inner keys
  pub inner_state-other : (calls : List DurationCall) (call : DurationCall) → key_events call ≡ []
      → inner_state spec (calls ++ call ∷ []) ≡ inner_state spec calls
  inner_state-other calls call none =
      ap (λ events. state_from same_leaves spec (initial_state spec) events)
      (flat_map-append key_events calls (call ∷ [])
      ∙ ap (λ l. flat_map key_events calls ++ l) (append-nil (key_events call) ∙ none)
      ∙ append-nil (flat_map key_events calls))

  -- a key that is listed after a call was told last what the call tells, or what it was told before
  pub last_known-listed : (calls : List DurationCall) (call : DurationCall) (key : LeafKey)
      → is_among same_leaves key (inner_keys spec (calls ++ call ∷ [])) ≡ true
      → last_known spec (calls ++ call ∷ []) key ≡ last_or (last_known spec calls key) (told_to spec key calls call)
  last_known-listed calls call key listed =
      let told : KeySeen → List Known = λ (seen : KeySeen). seen.told in
      let absent : KeySeen → Bool = λ (seen : KeySeen). not seen.is_listed in
      let seen = outputs (key_seen spec key) calls in
      let now : KeySeen = record {
        is_listed = is_among same_leaves key (inner_keys spec (calls ++ call ∷ []));
        told = told_to spec key calls call;
      } in
      ap (λ l. last_or None (flat_map told (after_last absent l))) (outputs-push (key_seen spec key) calls call)
      ∙ ap (λ l. last_or None (flat_map told l)) (after_last-more absent seen now false (ap not listed))
      ∙ ap (last_or None) (flat_map-append told (after_last absent seen) (now ∷ []))
      ∙ ap (λ l. last_or None (flat_map told (after_last absent seen) ++ l)) (append-nil (told_to spec key calls call))
      ∙ last_or-append None (flat_map told (after_last absent seen)) (told_to spec key calls call)

  -- a key that is absent after a call was told nothing since
  known_none : (calls : List DurationCall) (call : DurationCall) (key : LeafKey)
      → is_among same_leaves key (inner_keys spec (calls ++ call ∷ [])) ≡ false
      → last_known spec (calls ++ call ∷ []) key ≡ None
  known_none calls call key absent_is =
      let told : KeySeen → List Known = λ (seen : KeySeen). seen.told in
      let absent : KeySeen → Bool = λ (seen : KeySeen). not seen.is_listed in
      let seen = outputs (key_seen spec key) calls in
      let now : KeySeen = record {
        is_listed = is_among same_leaves key (inner_keys spec (calls ++ call ∷ []));
        told = told_to spec key calls call;
      } in
      ap (λ l. last_or None (flat_map told (after_last absent l))) (outputs-push (key_seen spec key) calls call)
      ∙ ap (λ l. last_or None (flat_map told l)) (after_last-more absent seen now true (ap not absent_is))

  -- so is a key before all calls
  pub last_known-absent : (calls : List DurationCall) (key : LeafKey)
      → is_among same_leaves key (inner_keys spec calls) ≡ false → last_known spec calls key ≡ None
  last_known-absent calls key absent = ⊎_elim
      (λ (none : calls ≡ []). ap (λ c. last_known spec c key) none)
      (λ some. ap (λ c. last_known spec c key) some.2
      ∙ known_none some.0 some.1 key (subst (λ c. is_among same_leaves key (inner_keys spec c) ≡ false) some.2 absent))
      (ends_with calls)

-- what is known of keys that are listed, by another word for it
pub known_where : (known other : LeafKey → Option Known) (rows : List (LeafKey × Inner))
    → ((key : LeafKey) → is_among same_leaves key (keys_of rows) ≡ true → known key ≡ other key)
    → AreKnown known rows → AreKnown other rows
known_where known other [] same all = tt
known_where known other (row ∷ rows) same all =
    let itself : same_leaves row.0 row.0 ≡ true = (leaves_exact row.0 row.0).1 refl in (
      all.0 ∙ same row.0 (ap (λ b. b || is_among same_leaves row.0 (keys_of rows)) itself),
      known_where known other rows
          (λ key later. same key (or_later (same_leaves row.0 key) (is_among same_leaves key (keys_of rows)) later))
          all.1,
    ) where
      or_later : (first second : Bool) → second ≡ true → (first || second) ≡ true
      or_later true second is = refl
      or_later false second is = is

-- the keys of a table are those of what it knows
pub listed_keys : (it : InnerTable) (spec : PredSpec) (calls : List DurationCall)
    → state_in it ≡ inner_state spec calls → keys it.keys ≡ inner_keys spec calls
listed_keys it spec calls is =
    sym (keys_of-counts it.keys.rows) ∙ ap (λ (s : PredicateState LeafKey). keys_of s.counts) is

-- an event asks of a spec only whether starts are counted, and for the bound
kept_by : (one other : PredSpec) → one.nesting ≡ other.nesting → one.bound ≡ other.bound
    → (state : PredicateState LeafKey) (event : PredEvent) (key : LeafKey)
    → state_after same_leaves one state event key ≡ state_after same_leaves other state event key
kept_by one other nesting bound state Start key = started (lookup (same_leaves key) state.counts) where
  started : (found : Option ℕ)
      → state_after_start same_leaves one state key found ≡ state_after_start same_leaves other state key found
  started None = ap (λ n. with_new_key n state key 1) bound
  started (Some count) = ap (λ b. with_key_count same_leaves state key (count_after_start b count)) nesting
kept_by one other nesting bound state Stop key = stopped (lookup (same_leaves key) state.counts) where
  stopped : (found : Option ℕ)
      → state_after_stop same_leaves one state key found ≡ state_after_stop same_leaves other state key found
  stopped None = ap (λ n. if state.unknown then with_new_key n state key 0 else state) bound
  stopped (Some count) =
      ap (λ b. if count_after_stop b count == 0 && not state.unknown then without_key same_leaves state key
      else with_key_count same_leaves state key (count_after_stop b count)) nesting
kept_by one other nesting bound state StopAll key = refl

-- an event that acted on a table is one of the calls that it stands for
pub takes_event : (old new : InnerTable) (event : InnerEvent) → ActsOn old new event.event event.key
    → TakesEvent old new event
takes_event old new event acts spec calls at stands =
    let state : state_in new ≡ inner_state spec (calls ++ Got at event ∷ []) =
    acts.state_is
    ∙ kept_by (kept_spec old) spec stands.nesting_is stands.bound_is (state_in old) event.event event.key
    ∙ ap (λ (s : PredicateState LeafKey). state_after same_leaves spec s event.event event.key) stands.state_is
    ∙ sym (inner_state-got spec calls at event) in
    let was = last_known spec calls in
    let now = last_known spec (calls ++ Got at event ∷ []) in
    record {
      nesting_is = acts.nesting_is ∙ stands.nesting_is;
      bound_is = acts.bound_is ∙ stands.bound_is;
      state_is = state;
      known_are = known_where was now new.keys.rows
          (λ key among. sym (last_known-listed spec calls (Got at event) key
          (subst (λ ks. is_among same_leaves key ks ≡ true)
          (listed_keys new spec (calls ++ Got at event ∷ []) state) among)))
          (acts.known_are was
          (λ key absent. last_known-absent spec calls key
          (subst (λ ks. is_among same_leaves key ks ≡ false) (listed_keys old spec calls stands.state_is)
          (not_among same_leaves leaves_exact (keys old.keys) key absent)))
          stands.known_are);
    }

-- a call that neither acts nor tells is one of them, too
pub takes_other : (it : InnerTable) (spec : PredSpec) (calls : List DurationCall) (call : DurationCall)
    → key_events call ≡ [] → ((key : LeafKey) → told_to spec key calls call ≡ []) → InnersStandFor it spec calls
    → InnersStandFor it spec (calls ++ call ∷ [])
takes_other it spec calls call none silent stands =
    let state : state_in it ≡ inner_state spec (calls ++ call ∷ []) =
    stands.state_is ∙ sym (inner_state-other spec calls call none) in
    record {
      nesting_is = stands.nesting_is;
      bound_is = stands.bound_is;
      state_is = state;
      known_are = known_where (last_known spec calls) (last_known spec (calls ++ call ∷ [])) it.keys.rows
          (λ key among. sym (last_known-listed spec calls call key
          (subst (λ ks. is_among same_leaves key ks ≡ true) (listed_keys it spec (calls ++ call ∷ []) state) among)
          ∙ ap (last_or (last_known spec calls key)) (silent key)))
          stands.known_are;
    }

-- what was told of the row at a place
pub known_at_place : (known : LeafKey → Option Known) (rows : List (LeafKey × Inner)) (place : ℕ)
    (row : LeafKey × Inner) → AreKnown known rows → slice_get rows place ≡ Some row → row.1.known ≡ known row.0
known_at_place known [] place row all at = absurd (none-some row at)
known_at_place known (first ∷ rows) zero row all at =
    subst (λ (r : LeafKey × Inner). r.1.known ≡ known r.0) (same_Some first row at) all.0
known_at_place known (first ∷ rows) (suc place) row all at = known_at_place known rows place row all.1 at

-- and the other way round
known_by_places : (known : LeafKey → Option Known) (rows : List (LeafKey × Inner))
    → ((place : ℕ) (row : LeafKey × Inner) → slice_get rows place ≡ Some row → row.1.known ≡ known row.0)
    → AreKnown known rows
known_by_places known [] each = tt
known_by_places known (row ∷ rows) each =
    (each zero row refl, known_by_places known rows (λ place. each (suc place)))

-- the key of the row at a place
pub key_at : (rows : List (LeafKey × Inner)) (at : ℕ) (row : LeafKey × Inner) → slice_get rows at ≡ Some row
    → slice_get (keys_of rows) at ≡ Some row.0
key_at [] at row is = absurd (none-some row is)
key_at (first ∷ rows) zero row is = ap (λ (r : LeafKey × Inner). Some r.0) (same_Some first row is)
key_at (first ∷ rows) (suc at) row is = key_at rows at row is

-- of distinct keys each is found at its own place
own_place_or : (ks : List LeafKey) (place : ℕ) (key : LeafKey) → IsDistinct same_leaves ks
    → slice_get ks place ≡ Some key → position_or_len (same_leaves key) ks ≡ place
own_place_or [] place key distinct at = absurd (none-some key at)
own_place_or (first ∷ ks) zero key distinct at =
    let itself : same_leaves key first ≡ true = (leaves_exact key first).1 (sym (same_Some first key at)) in
    ap (λ b. cond (not b) (1 + position_or_len (same_leaves key) ks) 0) itself
own_place_or (first ∷ ks) (suc place) key distinct at =
    let differs : same_leaves key first ≡ false =
    other_way same_leaves leaves_exact first key
    (differs_from_one same_leaves first key ks place (IsDistinct-head same_leaves first ks distinct) at) in
    ap (λ b. cond (not b) (1 + position_or_len (same_leaves key) ks) 0) differs
    ∙ omega (arith, own_place_or ks place key (IsDistinct-tail same_leaves first ks distinct) at)

pub own_place : (ks : List LeafKey) (place : ℕ) (key : LeafKey) → IsDistinct same_leaves ks
    → slice_get ks place ≡ Some key → position (same_leaves key) ks ≡ Some place
own_place ks place key distinct at =
    let is = own_place_or ks place key distinct at in
    let within : nat_lt (position_or_len (same_leaves key) ks) (length ks) ≡ true =
    lt-ltb (position_or_len (same_leaves key) ks) (length ks) (omega (arith, is, slice_get_within ks place key at)) in
    ap (λ b. cond b (Some (position_or_len (same_leaves key) ks)) None) within ∙ ap Some is

-- what is told with one change more, of the key at its place and of the others
told_here : (changes : List InnerChange) (change : InnerChange) (place : ℕ) (known : Option Known)
    → change.place ≡ place
    → last_or known (known_at (changes ++ change ∷ []) (Some place)) ≡ Some (known_by change)
told_here changes change place known is =
    let test : InnerChange → Bool = λ (c : InnerChange). c.place == place in
    let passes : (change.place == place) ≡ true = grind (arith, is) in
    ap (λ l. last_or known (map known_by l)) (filter-append test changes (change ∷ []))
    ∙ ap (λ b. last_or known (map known_by (filter test changes ++ cond b (change ∷ []) []))) passes
    ∙ ap (last_or known) (map-append known_by (filter test changes) (change ∷ []))
    ∙ last_or-append known (map known_by (filter test changes)) (known_by change ∷ [])

told_elsewhere : (changes : List InnerChange) (change : InnerChange) (place : ℕ) → ¬ (place ≡ change.place)
    → known_at (changes ++ change ∷ []) (Some place) ≡ known_at changes (Some place)
told_elsewhere changes change place differs =
    let test : InnerChange → Bool = λ (c : InnerChange). c.place == place in
    let fails : (change.place == place) ≡ false = grind (arith, differs) in
    ap (map known_by) (filter-append test changes (change ∷ [])
    ∙ ap (λ b. filter test changes ++ cond b (change ∷ []) []) fails
    ∙ append-nil (filter test changes))

module _ (first old new : InnerTable) (changes : List InnerChange) (change : InnerChange)
    (distinct : IsDistinct same_leaves (keys first.keys)) (tells : TellsAll first old changes) where
  -- the keys stay
  same_keys : keys old.keys ≡ keys first.keys
  same_keys = sym (keys_of-counts old.keys.rows)
      ∙ ap (λ (s : PredicateState LeafKey). keys_of s.counts) tells.state_is
      ∙ keys_of-counts first.keys.rows

  -- the key of a row stands at the row's place
  stands_at : (at : ℕ) (row : LeafKey × Inner) → slice_get old.keys.rows at ≡ Some row
      → position (same_leaves row.0) (keys first.keys) ≡ Some at
  stands_at at row is = own_place (keys first.keys) at row.0 distinct
      (subst (λ ks. slice_get ks at ≡ Some row.0) same_keys (key_at old.keys.rows at row is))

  -- so a row that the change doesn't tell of was told what it was told before
  untold : (known : LeafKey → Option Known) (at : ℕ) (row : LeafKey × Inner) → slice_get old.keys.rows at ≡ Some row
      → ¬ (at ≡ change.place) → AreKnown known first.keys.rows
      → row.1.known ≡ last_or (known row.0)
      (known_at (changes ++ change ∷ []) (position (same_leaves row.0) (keys first.keys)))
  untold known at row is differs all =
      known_at_place (λ key. last_or (known key) (known_at changes (position (same_leaves key) (keys first.keys))))
      old.keys.rows at row (tells.known_are known all) is
      ∙ ap (λ p. last_or (known row.0) (known_at changes p)) (stands_at at row is)
      ∙ ap (last_or (known row.0)) (sym (told_elsewhere changes change at differs))
      ∙ ap (λ p. last_or (known row.0) (known_at (changes ++ change ∷ []) p)) (sym (stands_at at row is))

  -- one change more tells of a row
  tells_there : (was : Inner) → slice_get (values_of old.keys.rows) change.place ≡ Some was
      → new ≡ with_other old change.place was (told was change)
      → TellsAll first new (changes ++ change ∷ [])
  tells_there was at is =
      let now : Inner = told was change in
      let rows = set_value_at old.keys.rows change.place now in
      record {
        nesting_is = ap (λ (t : InnerTable). t.nesting) is ∙ tells.nesting_is;
        bound_is = ap (λ (t : InnerTable). t.keys.bound) is ∙ tells.bound_is;
        state_is = ap state_in is
            ∙ ap (λ counts. record (state_in old) { counts = counts })
            (counts-same old.keys.rows change.place was now at refl)
            ∙ tells.state_is;
        known_are = λ known all.
            subst (λ (t : InnerTable). AreKnown (λ key. last_or (known key)
            (known_at (changes ++ change ∷ []) (position (same_leaves key) (keys first.keys)))) t.keys.rows) (sym is)
            (known_by_places (λ key. last_or (known key)
            (known_at (changes ++ change ∷ []) (position (same_leaves key) (keys first.keys)))) rows
            (λ place row there. ⊎_elim
            (λ (here : (place ≡ change.place) × (row.1 ≡ now)).
            ap (λ (i : Inner). i.known) here.1
            ∙ sym (told_here changes change place (known row.0) (sym here.0))
            ∙ ap (λ p. last_or (known row.0) (known_at (changes ++ change ∷ []) p))
            (sym (own_place (keys first.keys) place row.0 distinct
            (subst (λ ks. slice_get ks place ≡ Some row.0)
            (keys_set_value_at old.keys.rows change.place now ∙ same_keys) (key_at rows place row there)))))
            (λ (other : (¬ (place ≡ change.place)) × (slice_get old.keys.rows place ≡ Some row)).
            untold known place row other.1 other.0 all)
            (after_set old.keys.rows change.place place now row there)));
        counts_are = λ key. releases_counts old new change.place was now at refl is key ∙ tells.counts_are key;
        steady_is = λ steady. subst (λ (t : InnerTable). AreSteady t.touched t.keys.rows) (sym is)
            (set_steady old.keys.rows old.touched change.place now (tells.steady_is steady));
      }

  -- where no row is, none is told of
  tells_nowhere : slice_get (values_of old.keys.rows) change.place ≡ None
      → new ≡ old
      → TellsAll first new (changes ++ change ∷ [])
  tells_nowhere none is = record {
    nesting_is = ap (λ (t : InnerTable). t.nesting) is ∙ tells.nesting_is;
    bound_is = ap (λ (t : InnerTable). t.keys.bound) is ∙ tells.bound_is;
    state_is = ap state_in is ∙ tells.state_is;
    known_are = λ known all.
        subst (λ (t : InnerTable). AreKnown (λ key. last_or (known key)
        (known_at (changes ++ change ∷ []) (position (same_leaves key) (keys first.keys)))) t.keys.rows) (sym is)
        (known_by_places (λ key. last_or (known key)
        (known_at (changes ++ change ∷ []) (position (same_leaves key) (keys first.keys)))) old.keys.rows
        (λ place row there. untold known place row there
        (λ e. no_row old.keys.rows change.place row none (subst (λ p. slice_get old.keys.rows p ≡ Some row) e there))
        all));
    counts_are = λ key. ap (λ (t : InnerTable). counted_in t key) is ∙ tells.counts_are key;
    steady_is = λ steady.
        subst (λ (t : InnerTable). AreSteady t.touched t.keys.rows) (sym is) (tells.steady_is steady);
  } where
    no_row : (rows : List (LeafKey × Inner)) (place : ℕ) (row : LeafKey × Inner)
        → slice_get (values_of rows) place ≡ None → slice_get rows place ≡ Some row → ⊥
    no_row [] place row none at = none-some row at
    no_row (one ∷ rows) zero row none at = cc
    no_row (one ∷ rows) (suc place) row none at = no_row rows place row none at

  -- one change more was told
  pub tells_more : TellsOne old new change → TellsAll first new (changes ++ change ∷ [])
  tells_more one = by (slice_get (values_of old.keys.rows) change.place) refl where
    by : (found : Option Inner) → slice_get (values_of old.keys.rows) change.place ≡ found
        → TellsAll first new (changes ++ change ∷ [])
    by None none = tells_nowhere none (one.nowhere none)
    by (Some was) at = tells_there was at (one.there was at)

-- before any change
pub tells_none : (it : InnerTable) → TellsAll it it []
tells_none it = record {
  nesting_is = refl;
  bound_is = refl;
  state_is = refl;
  known_are = λ known all. known_where known
      (λ key. last_or (known key) (known_at [] (position (same_leaves key) (keys it.keys)))) it.keys.rows
      (λ key among. nothing (known key) (position (same_leaves key) (keys it.keys))) all;
  counts_are = λ key. refl;
  steady_is = λ steady. steady;
} where
  nothing : (known : Option Known) (place : Option ℕ) → known ≡ last_or known (known_at [] place)
  nothing known None = refl
  nothing known (Some place) = refl

-- a delta whose changes were told is one of the calls that the table stands for
pub takes_delta : (old new : InnerTable) (delta : InnerDelta) → TellsAll old new delta.changes
    → TakesDelta old new delta
takes_delta old new delta tells spec calls at stands =
    let call : DurationCall = Learned at delta in
    let stays : inner_state spec (calls ++ call ∷ []) ≡ inner_state spec calls =
    inner_state-other spec calls call refl in
    let state : state_in new ≡ inner_state spec (calls ++ call ∷ []) =
    tells.state_is ∙ stands.state_is ∙ sym stays in
    record {
      nesting_is = tells.nesting_is ∙ stands.nesting_is;
      bound_is = tells.bound_is ∙ stands.bound_is;
      state_is = state;
      known_are = known_where
          (λ key. last_or (last_known spec calls key)
          (known_at delta.changes (position (same_leaves key) (keys old.keys))))
          (last_known spec (calls ++ call ∷ [])) new.keys.rows
          (λ key among.
          ap (λ ks. last_or (last_known spec calls key) (known_at delta.changes (position (same_leaves key) ks)))
          (listed_keys old spec calls stands.state_is)
          ∙ sym (last_known-listed spec calls call key
          (subst (λ ks. is_among same_leaves key ks ≡ true) (listed_keys new spec (calls ++ call ∷ []) state) among)))
          (tells.known_are (last_known spec calls) stands.known_are);
    }

module _ (it : InnerTable) (spec : PredSpec) (calls : List DurationCall) (stands : InnersStandFor it spec calls)
    (place : ℕ) where
  -- the key of a row is the inner key at its place
  pub key_is : (row : LeafKey × Inner) → slice_get it.keys.rows place ≡ Some row
      → Some row.0 ≡ slice_get (inner_keys spec calls) place
  key_is row at = sym (key_at it.keys.rows place row at)
      ∙ ap (λ ks. slice_get ks place) (listed_keys it spec calls stands.state_is)

  -- and what it was told last is what the calls told
  pub truth_is : (row : LeafKey × Inner) → slice_get it.keys.rows place ≡ Some row
      → option_map (λ (known : Known). known.truth) row.1.known ≡ told_truth spec calls place
  truth_is row at =
      ap (option_map (λ (known : Known). known.truth))
      (known_at_place (last_known spec calls) it.keys.rows place row stands.known_are at)
      ∙ ap (option_and_then (λ key. option_map (λ (known : Known). known.truth) (last_known spec calls key)))
      (key_is row at)

  -- whether it was told something is as the calls say
  pub says_is : (row : LeafKey × Inner) → slice_get it.keys.rows place ≡ Some row → (now : Known)
      → says row.1.known now ≡ was_told spec calls place now
  says_is row at now =
      ap (λ known. says known now) (known_at_place (last_known spec calls) it.keys.rows place row stands.known_are at)
      ∙ ap (λ found. option_map_or (λ key. says (last_known spec calls key) now) found false) (key_is row at)

  -- where no row is, no key is, and nothing was told
  pub says_nothing : slice_get it.keys.rows place ≡ None → (now : Known) → false ≡ was_told spec calls place now
  says_nothing none now =
      let key_of : LeafKey × Inner → LeafKey = λ (row : LeafKey × Inner). row.0 in
      ap (λ found. option_map_or (λ key. says (last_known spec calls key) now) found false)
      (sym (ap (option_map key_of) none) ∙ sym (slice_get-map key_of it.keys.rows place)
      ∙ ap (λ ks. slice_get ks place) (listed_keys it spec calls stands.state_is))
