-- An event on a key that isn't asked for leaves the answer as it is: for callers that ask again.
use Rattle.std.proofs.Common.{◌≡◌, ℕ, ◌+◌, Bool, true, false, not, cond, ◌&&◌, ◌==◌, nat_lt, if◌then◌else◌, List, [], ◌∷◌, ◌++◌, filter, length, Option, Some, None, refl, sym, ap, ◌∙◌, ⊎_elim}
use Rattle.std.specs.Map.{lookup, set_value}
use Rattle.std.specs.Cmp.Lexicographic.{pointwise_decides}
use Rattle.std.proofs.lemmas.Bool.{cases_Bool, false≢true}
use Rattle.atom_record.specs.Equal.{leaf_exact}
use Rattle.bucket_meaning.specs.Kept.{count_in_u64}
use Rattle.config_types.specs.declared.parameters.PredSpec.{PredSpec}
use Rattle.predicate_state.specs.declared.bind.Bind.{Bind}
use Rattle.predicate_state.specs.declared.event.PredEvent.{PredEvent}
use Rattle.predicate_state.specs.declared.event.PredEvent.TheVariants.{Start, Stop, StopAll}
use Rattle.predicate_state.specs.PredicateStates.{PredicateState, count_after_start, count_after_stop, is_of_one, with_new_key, with_key_count, without_key, state_after_start, state_after_stop, state_after}
use Rattle.predicate_state.specs.PredicateTable.{LeafKey, same_leaves}
use Rattle.predicate_state.specs.PredicateTruths.{agrees, agreeing_counts, truth_of_one, truth_of_some, truth_of_entries, are_leaves_bound, binds_truth}
use Rattle.predicate_state.proofs.BindLemmas.{agreeing-cons}

module _ (binds : List Bind) (key : LeafKey) (apart : agrees binds key ≡ false) where
  -- what agrees of these rows
  abbrev agreeing : List (LeafKey × ℕ) → List ℕ
  agreeing rows = agreeing_counts binds rows

  -- a row of the same key doesn't agree
  same_apart : (other : LeafKey) → same_leaves key other ≡ true → agrees binds other ≡ false
  same_apart other same = sym (ap (agrees binds) ((pointwise_decides leaf_exact key other).0 same)) ∙ apart

  -- nor is it counted
  skipped : (other : LeafKey) (count : ℕ) (rows : List (LeafKey × ℕ)) → agrees binds other ≡ false
      → agreeing ((other, count) ∷ rows) ≡ agreeing rows
  skipped other count rows off =
      agreeing-cons binds (other, count) rows ∙ ap (λ b. cond b (count ∷ agreeing rows) (agreeing rows)) off

  -- rows after the same row agree alike where they did before
  more_alike : (row : LeafKey × ℕ) (one two : List (LeafKey × ℕ)) → agreeing one ≡ agreeing two
      → agreeing (row ∷ one) ≡ agreeing (row ∷ two)
  more_alike row one two alike =
      agreeing-cons binds row one ∙ ap (λ counts. cond (agrees binds row.0) (row.1 ∷ counts) counts) alike
      ∙ sym (agreeing-cons binds row two)

  -- a row more of the key
  listed : (rows : List (LeafKey × ℕ)) (count : ℕ) → agreeing (rows ++ (key, count) ∷ []) ≡ agreeing rows
  listed [] count = skipped key count [] apart
  listed (row ∷ rows) count = more_alike row (rows ++ (key, count) ∷ []) rows (listed rows count)

  -- another count of the key
  counted : (rows : List (LeafKey × ℕ)) (count : ℕ)
      → agreeing (set_value (same_leaves key) rows count) ≡ agreeing rows
  counted [] count = refl
  counted (row ∷ rows) count = ⊎_elim
      (λ (same : same_leaves key row.0 ≡ true).
      ap (λ b. agreeing (cond b ((row.0, count) ∷ rows) (row ∷ set_value (same_leaves key) rows count))) same
      ∙ skipped row.0 count rows (same_apart row.0 same) ∙ sym (skipped row.0 row.1 rows (same_apart row.0 same)))
      (λ (other : same_leaves key row.0 ≡ false).
      ap (λ b. agreeing (cond b ((row.0, count) ∷ rows) (row ∷ set_value (same_leaves key) rows count))) other
      ∙ more_alike row (set_value (same_leaves key) rows count) rows (counted rows count))
      (cases_Bool (same_leaves key row.0))

  -- the key leaves
  left : (rows : List (LeafKey × ℕ))
      → agreeing (filter (λ (entry : LeafKey × ℕ). not (same_leaves key entry.0)) rows) ≡ agreeing rows
  left [] = refl
  left (row ∷ rows) =
      let rest = filter (λ (entry : LeafKey × ℕ). not (same_leaves key entry.0)) rows in ⊎_elim
      (λ (same : same_leaves key row.0 ≡ true).
      ap (λ b. agreeing (cond (not b) (row ∷ rest) rest)) same ∙ left rows
      ∙ sym (skipped row.0 row.1 rows (same_apart row.0 same)))
      (λ (other : same_leaves key row.0 ≡ false).
      ap (λ b. agreeing (cond (not b) (row ∷ rest) rest)) other ∙ more_alike row rest rows (left rows))
      (cases_Bool (same_leaves key row.0))

  -- two states give these binds the same answer
  abbrev pub AnswersAlike : PredicateState LeafKey → PredicateState LeafKey → Type 0
  AnswersAlike one two = (one.unknown ≡ two.unknown) × (agreeing one.counts ≡ agreeing two.counts)

  -- one of two states, each of which does
  either : (b : Bool) (one other state : PredicateState LeafKey) → AnswersAlike one state → AnswersAlike other state
      → AnswersAlike (if b then one else other) state
  either true one other state first second = first
  either false one other state first second = second

  new_alike : (bound : ℕ) (state : PredicateState LeafKey) (count : ℕ)
      → AnswersAlike (with_new_key bound state key count) state
  new_alike bound state count =
      either (nat_lt (length state.counts) bound) (record state { counts = state.counts ++ (key, count) ∷ [] })
      (record state { dropped = count_in_u64 (state.dropped + 1) }) state (refl, listed state.counts count) (refl, refl)

  start_alike : (spec : PredSpec) (state : PredicateState LeafKey) (found : Option ℕ)
      → AnswersAlike (state_after_start same_leaves spec state key found) state
  start_alike spec state None = new_alike spec.bound state 1
  start_alike spec state (Some count) = (refl, counted state.counts (count_after_start spec.nesting count))

  stop_alike : (spec : PredSpec) (state : PredicateState LeafKey) (found : Option ℕ)
      → AnswersAlike (state_after_stop same_leaves spec state key found) state
  stop_alike spec state None =
      either state.unknown (with_new_key spec.bound state key 0) state state (new_alike spec.bound state 0) (refl, refl)
  stop_alike spec state (Some count) =
      let less = count_after_stop spec.nesting count in
      either (less == 0 && not state.unknown) (without_key same_leaves state key)
      (with_key_count same_leaves state key less) state (refl, left state.counts) (refl, counted state.counts less)

  after_alike : (spec : PredSpec) (state : PredicateState LeafKey) (event : PredEvent) → is_of_one event ≡ true
      → AnswersAlike (state_after same_leaves spec state event key) state
  after_alike spec state Start one = start_alike spec state (lookup (same_leaves key) state.counts)
  after_alike spec state Stop one = stop_alike spec state (lookup (same_leaves key) state.counts)
  after_alike spec state StopAll one = absurd (false≢true one)

  -- the answer stays
  pub answer_stays : (leaves : ℕ) (spec : PredSpec) (state : PredicateState LeafKey) (event : PredEvent)
      → is_of_one event ≡ true
      → binds_truth leaves (state_after same_leaves spec state event key) binds ≡ binds_truth leaves state binds
  answer_stays leaves spec state event one =
      let after = state_after same_leaves spec state event key in
      let alike = after_alike spec state event one in
      let is_one = are_leaves_bound binds leaves in
      ap (λ unknown. truth_of_entries is_one unknown binds after.counts) alike.0
      ∙ ap (λ counts. if is_one then truth_of_one state.unknown counts else truth_of_some state.unknown counts) alike.1
