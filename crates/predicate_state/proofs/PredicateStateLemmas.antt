-- A predicate's state, one event at a time, and the table that has it.
use Rattle.std.proofs.Common.{◌≡◌, ◌≢◌, ℕ, ◌+◌, ◌<◌, Bool, true, false, not, ◌&&◌, ◌==◌, if◌then◌else◌, nat_lt, List, [], ◌∷◌, ◌++◌, length, position, Contains, Some, Result, Ok, Err, OnOk, refl, sym, ap, subst, ◌∙◌, arith, ⊎_elim}
use Rattle.std.specs.Map.{keys_of, lookup}
use Rattle.std.proofs.lemmas.Bool.{lt-ltb, le-ltb}
use Rattle.config_types.specs.declared.parameters.PredSpec.{PredSpec}
use Rattle.bucket_meaning.specs.Kept.{count_in_u64}
use Rattle.dim_table.specs.declared.answer.Admit.{Admit}
use Rattle.dim_table.specs.declared.answer.Admit.TheVariants.{At, Full}
use Rattle.dim_table.specs.Table.{Table, keys, set_value_at, IsThere, IsNew, Admits}
use Rattle.dim_table.proofs.KeyLemmas.{Contains-from_place}
use Rattle.predicate_state.specs.declared.event.PredEvent.{PredEvent}
use Rattle.predicate_state.specs.declared.event.PredEvent.TheVariants.{Start, Stop}
use Rattle.predicate_state.specs.PredicateStates.{PredicateState, KeyEvent, count_after_start, count_after_stop, with_new_key, with_key_count, without_key, state_after_start, state_after_stop, state_after, state_from}
use Rattle.predicate_state.proofs.KeyCountLemmas.{set_at_position}
use Rattle.predicate_state.specs.PredicateTable.{PredicateTable, LeafKey, same_leaves, with_state, AppliesEvent}

module _ {K : Type 0} (same : K → K → Bool) (spec : PredSpec) where
  -- one more event acts on what the others left
  pub state_from-push : (state : PredicateState K) (events : List (KeyEvent K)) (last : KeyEvent K)
      → state_from same spec state (events ++ last ∷ [])
      ≡ state_after same spec (state_from same spec state events) last.event last.key
  state_from-push state [] last = refl
  state_from-push state (first ∷ events) last =
      state_from-push (state_after same spec state first.event first.key) events last

module _ (old new : PredicateTable) (event : PredEvent) (key : LeafKey) where
  -- a table whose state is the one after the event stands for one event more
  pub applies : new ≡ with_state old (state_after same_leaves old.spec old.state event key)
      → AppliesEvent old new event key
  applies is spec events stands = record {
    spec_is = ap (λ (t : PredicateTable). t.spec) is ∙ stands.spec_is;
    state_is = ap (λ (t : PredicateTable). t.state) is
        ∙ ap (λ (s : PredSpec). state_after same_leaves s old.state event key) stands.spec_is
        ∙ ap (λ (s : PredicateState LeafKey). state_after same_leaves spec s event key) stands.state_is
        ∙ sym (state_from-push same_leaves spec _ events (record { event = event; key = key }));
  }

  -- the same of a result
  pub ok_applies : {E : Type 0} (result : Result (Unit {0}) E)
      → OnOk result (new ≡ with_state old (state_after same_leaves old.spec old.state event key))
      → OnOk result (AppliesEvent old new event key)
  ok_applies (Ok x) is = applies is
  ok_applies (Err e) is = tt

-- what a contract sees of a table with these parts
abbrev pub table_of : PredSpec → Bool → Table LeafKey ℕ → PredicateTable
table_of spec unknown table =
    record { spec = spec; state = record { unknown = unknown; counts = table.rows; dropped = table.dropped } }

-- the answer for a new key is a key more, or a drop
pub new_key : (spec : PredSpec) (unknown : Bool) (old new : Table LeafKey ℕ) (key : LeafKey) (count : ℕ)
    (answer : Admit) → old.bound ≡ spec.bound → ¬ Contains (keys old) key → Admits old new key count answer
    → table_of spec unknown new ≡ with_state (table_of spec unknown old)
    (with_new_key spec.bound (table_of spec unknown old).state key count)
new_key spec unknown old new key count (At place) bound absent h = ⊎_elim
    (λ (there : IsThere old new key place). absurd (absent (Contains-from_place (keys old) place key there.at)))
    (λ (added : IsNew old new key count place).
    let room : nat_lt (length old.rows) spec.bound ≡ true =
    lt-ltb (length old.rows) spec.bound (subst (λ n. length old.rows < n) bound added.room) in
    ap (table_of spec unknown) added.added
    ∙ sym (ap (λ b. with_state (table_of spec unknown old)
    (if b then record (table_of spec unknown old).state { counts = old.rows ++ (key, count) ∷ [] }
    else record (table_of spec unknown old).state { dropped = count_in_u64 (old.dropped + 1) })) room))
    h
new_key spec unknown old new key count Full bound absent h =
    let full : nat_lt (length old.rows) spec.bound ≡ false =
    le-ltb (length old.rows) spec.bound (omega (arith, h.full, bound)) in
    ap (table_of spec unknown) h.added
    ∙ sym (ap (λ b. with_state (table_of spec unknown old)
    (if b then record (table_of spec unknown old).state { counts = old.rows ++ (key, count) ∷ [] }
    else record (table_of spec unknown old).state { dropped = count_in_u64 (old.dropped + 1) })) full)

module _ (old : PredicateTable) (key : LeafKey) (place count : ℕ)
    (found : Some count ≡ lookup (same_leaves key) old.state.counts)
    (at : position (same_leaves key) (keys_of old.state.counts) ≡ Some place) where
  set_is : (value : ℕ) → with_state old (record old.state { counts = set_value_at old.state.counts place value })
      ≡ with_state old (with_key_count same_leaves old.state key value)
  set_is value = ap (λ counts. with_state old (record old.state { counts = counts }))
      (set_at_position (same_leaves key) old.state.counts place value at)

  -- a listed key is started
  pub started : (more : ℕ) → more ≡ count_after_start old.spec.nesting count
      → with_state old (record old.state { counts = set_value_at old.state.counts place more })
      ≡ with_state old (state_after same_leaves old.spec old.state Start key)
  started more is = ap (λ n. with_state old (record old.state { counts = set_value_at old.state.counts place n })) is
      ∙ set_is (count_after_start old.spec.nesting count)
      ∙ ap (λ o. with_state old (state_after_start same_leaves old.spec old.state key o)) found

  -- a listed key is stopped and stays
  pub stopped : (less : ℕ) → less ≡ count_after_stop old.spec.nesting count
      → (less == 0 && not old.state.unknown) ≡ false
      → with_state old (record old.state { counts = set_value_at old.state.counts place less })
      ≡ with_state old (state_after same_leaves old.spec old.state Stop key)
  stopped less is stays =
      set_is less
      ∙ sym (ap (λ b. with_state old (if b then without_key same_leaves old.state key
      else with_key_count same_leaves old.state key less)) stays)
      ∙ ap (λ n. with_state old (if n == 0 && not old.state.unknown then without_key same_leaves old.state key
      else with_key_count same_leaves old.state key n)) is
      ∙ ap (λ o. with_state old (state_after_stop same_leaves old.spec old.state key o)) found

-- a key stays above 0, and where what isn't listed is unknown
pub stays_above : (less : ℕ) (unknown : Bool) → less ≢ 0 → (less == 0 && not unknown) ≡ false
stays_above less unknown above = grind arith

pub stays_unknown : (less : ℕ) (unknown : Bool) → unknown ≡ true → (less == 0 && not unknown) ≡ false
stays_unknown less unknown is = grind arith
