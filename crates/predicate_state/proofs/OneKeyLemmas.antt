-- Where every leaf is bound, a question asks of one key.
use Rattle.std.proofs.Common.{◌≡◌, ℕ, zero, suc, ◌<◌, Bool, true, false, cond, List, [], ◌∷◌, length, slice_get, Option, Some, None, refl, sym, ap, subst, ◌∙◌, inl, inr, arith, ⊎_elim}
use Rattle.std.specs.Map.{lookup}
use Rattle.std.proofs.lemmas.Bool.{cases_Bool, cases_eq, true≢false}
use Rattle.std.proofs.lemmas.List.Elements.{All-head, All-tail}
use Rattle.std.specs.Cmp.Lexicographic.{pointwise_decides}
use Rattle.std.proofs.lemmas.Option.{same_Some}
use Rattle.atom_record.specs.declared.value.Leaf.{Leaf}
use Rattle.atom_record.specs.Equal.{leaf_exact}
use Rattle.predicate_state.specs.declared.bind.Bind.{Bind}
use Rattle.predicate_state.specs.PredicateTable.{PredicateTable, LeafKey, same_leaves, HaveLeaves}
use Rattle.predicate_state.proofs.BindLemmas.{agreeing-cons}
use Rattle.predicate_state.specs.PredicateTruths.{is_leaf, agrees, is_place_bound, are_leaves_bound, agreeing_counts, truth_of_one, truth_of_count, truth_of_entries, key_truth, binds_truth, NamesKey}

-- what stands where a bind says so
agreed_leaf : (found : Option Leaf) (value : Leaf) → is_leaf found value ≡ true → found ≡ Some value
agreed_leaf None value e = absurd (true≢false (sym e))
agreed_leaf (Some leaf) value e = ap Some ((leaf_exact leaf value).0 e)

-- two keys that agree with the same binds have the same leaf at each place that is bound
same_there : (binds : List Bind) (one other : LeafKey) (place : ℕ) → agrees binds one ≡ true
    → agrees binds other ≡ true → is_place_bound binds place ≡ true → slice_get one place ≡ slice_get other place
same_there [] one other place a b bound = absurd (true≢false (sym bound))
same_there (bind ∷ binds) one other place a b bound =
    let here_one : is_leaf (slice_get one bind.place) bind.value ≡ true = grind arith in
    let rest_one : agrees binds one ≡ true = grind arith in
    let here_other : is_leaf (slice_get other bind.place) bind.value ≡ true = grind arith in
    let rest_other : agrees binds other ≡ true = grind arith in
    elim (cases_eq bind.place place) [
      | inl same ↦
          let at : (n : ℕ) → n ≡ place → slice_get one n ≡ slice_get other n
          → slice_get one place ≡ slice_get other place =
          λ n e h. subst (λ m. slice_get one m ≡ slice_get other m) e h in
          at bind.place same (agreed_leaf (slice_get one bind.place) bind.value here_one
          ∙ sym (agreed_leaf (slice_get other bind.place) bind.value here_other))
      | inr apart ↦
          let later : is_place_bound binds place ≡ true = grind arith in
          same_there binds one other place rest_one rest_other later
    ]

-- each of the places is bound
bound_below : (binds : List Bind) (leaves place : ℕ) → are_leaves_bound binds leaves ≡ true → place < leaves
    → is_place_bound binds place ≡ true
bound_below binds zero place all within = absurd (omega arith)
bound_below binds (suc leaves) place all within =
    let before : are_leaves_bound binds leaves ≡ true = grind arith in
    let last : is_place_bound binds leaves ≡ true = grind arith in
    elim (cases_eq place leaves) [
      | inl same ↦ ap (is_place_bound binds) same ∙ last
      | inr apart ↦ bound_below binds leaves place before (omega (arith, apart))
    ]

-- lists that have the same at each place are the same
same_lists_of : (one other : LeafKey) → length one ≡ length other
    → ((place : ℕ) → place < length one → slice_get one place ≡ slice_get other place) → one ≡ other
same_lists_of [] [] e h = refl
same_lists_of [] (y ∷ ys) e h = absurd (omega (arith, e))
same_lists_of (x ∷ xs) [] e h = absurd (omega (arith, e))
same_lists_of (x ∷ xs) (y ∷ ys) e h =
    let first : x ≡ y = same_Some x y (h 0 (omega arith)) in
    let rest : xs ≡ ys =
    same_lists_of xs ys (omega (arith, e)) (λ place within. h (suc place) (omega (arith, within))) in
    ap (λ l. x ∷ l) rest ∙ ap (λ v. v ∷ ys) first

-- a test that can't pass fails
pub not_same : (b : Bool) → (b ≡ true → ⊥) → b ≡ false
not_same true never = absurd (never refl)
not_same false never = refl

-- the first that passes decides
chosen : (unknown b : Bool) (count : ℕ) (counts : List ℕ) (found : Option ℕ)
    → truth_of_one unknown counts ≡ truth_of_count unknown found
    → truth_of_one unknown (cond b (count ∷ counts) counts) ≡ truth_of_count unknown (cond b (Some count) found)
chosen unknown true count counts found rest = refl
chosen unknown false count counts found rest = rest

module _ (binds : List Bind) (leaves : ℕ) (key : LeafKey) (size : length key ≡ leaves)
    (all : are_leaves_bound binds leaves ≡ true) (here : agrees binds key ≡ true) where
  -- a key of this length agrees with the binds exactly where it is this key
  agrees_is : (other : LeafKey) → length other ≡ leaves → agrees binds other ≡ same_leaves key other
  agrees_is other same_size = ⊎_elim
      (λ (yes : agrees binds other ≡ true).
      let same : key ≡ other = same_lists_of key other (size ∙ sym same_size)
      (λ place within. same_there binds key other place here yes
      (bound_below binds leaves place all (omega (arith, size, within)))) in
      yes ∙ sym ((pointwise_decides leaf_exact key other).1 same))
      (λ (no : agrees binds other ≡ false).
      no ∙ sym (not_same (same_leaves key other) (λ e.
      true≢false (sym here ∙ ap (agrees binds) ((pointwise_decides leaf_exact key other).0 e) ∙ no))))
      (cases_Bool (agrees binds other))

  -- so its count decides
  pub one_key : (unknown : Bool) (rows : List (LeafKey × ℕ)) → HaveLeaves leaves rows
      → truth_of_one unknown (agreeing_counts binds rows) ≡ truth_of_count unknown (lookup (same_leaves key) rows)
  one_key unknown [] have = refl
  one_key unknown (row ∷ rows) have =
      let P : LeafKey × ℕ → Type 0 = λ entry. length entry.0 ≡ leaves in
      let rest = one_key unknown rows (All-tail P row rows have) in
      ap (truth_of_one unknown) (agreeing-cons binds row rows)
      ∙ ap (λ b. truth_of_one unknown (cond b (row.1 ∷ agreeing_counts binds rows) (agreeing_counts binds rows)))
      (agrees_is row.0 (All-head P row rows have))
      ∙ chosen unknown (same_leaves key row.0) row.1 (agreeing_counts binds rows) (lookup (same_leaves key) rows) rest

-- binds that name a key ask for its truth
pub named_truth : (table : PredicateTable) (binds : List Bind) (key : LeafKey)
    → HaveLeaves table.spec.leaves table.state.counts → NamesKey table.spec.leaves binds key
    → binds_truth table.spec.leaves table.state binds ≡ key_truth same_leaves table.state key
named_truth table binds key have names =
    ap (λ b. truth_of_entries b table.state.unknown binds table.state.counts) names.all
    ∙ one_key binds table.spec.leaves key names.size names.all names.agree table.state.unknown table.state.counts have
