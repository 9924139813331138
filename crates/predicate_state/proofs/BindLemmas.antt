-- Places that are bound, and the walk over the listed keys that answers a question.
use Rattle.std.proofs.Common.{◌≡◌, ℕ, zero, suc, ◌+◌, ◌<◌, ◌≤◌, Bool, true, false, cond, ◌&&◌, ◌||◌, if◌then◌else◌, nat_lt, List, [], ◌∷◌, length, map, filter, drop, slice_get, Some, refl, sym, ap, ◌∙◌, inl, inr, arith}
use Rattle.std.specs.List.{list_any}
use Rattle.std.proofs.lemmas.Bool.{cases_eq, true≢false}
use Rattle.std.proofs.lemmas.List.{at_drop_more, drop_all}
use Rattle.std.proofs.lemmas.Option.{get_or_from_slice_get, slice_get_within}
use Rattle.atom_record.specs.declared.value.Leaf.{Leaf}
use Rattle.predicate_state.specs.declared.truth.Truth.TheVariants.{False, True}
use Rattle.predicate_state.specs.declared.bind.Bind.{Bind}
use Rattle.predicate_state.specs.PredicateTruths.{default_truth, count_truth, agrees, is_place_bound, are_leaves_bound, agreeing_counts, truth_of_one, truth_of_some, truth_of_entries}

-- where one place isn't bound, not all are
pub one_unbound : (binds : List Bind) (leaves place : ℕ) → place < leaves → is_place_bound binds place ≡ false
    → are_leaves_bound binds leaves ≡ false
one_unbound binds zero place within unbound = absurd (omega arith)
one_unbound binds (suc leaves) place within unbound = elim (cases_eq place leaves) [
  | inl same ↦
      ap (λ b. are_leaves_bound binds leaves && b) (ap (is_place_bound binds) (omega (arith, same)) ∙ unbound)
      ∙ grind arith
  | inr other ↦ ap (λ b. b && is_place_bound binds leaves)
      (one_unbound binds leaves place (omega (arith, other)) unbound)
]

-- an entry that agrees comes before the others that do
pub agreeing-cons : (binds : List Bind) (row : List Leaf × ℕ) (rows : List (List Leaf × ℕ))
    → agreeing_counts binds (row ∷ rows)
    ≡ cond (agrees binds row.0) (row.1 ∷ agreeing_counts binds rows) (agreeing_counts binds rows)
agreeing-cons binds row rows = by (agrees binds row.0)
  where
    those : List (List Leaf × ℕ)
    those = filter (λ (entry : List Leaf × ℕ). agrees binds entry.0) rows

    by : (b : Bool) → map (λ (entry : List Leaf × ℕ). entry.1) (cond b (row ∷ those) those)
        ≡ cond b (row.1 ∷ map (λ (entry : List Leaf × ℕ). entry.1) those)
        (map (λ (entry : List Leaf × ℕ). entry.1) those)
    by true = refl
    by false = refl

-- an entry that doesn't decide changes nothing, and one that does is the answer
passed : (agree is_one unknown : Bool) (count : ℕ) (rest : List ℕ) → (agree && (is_one || nat_lt 0 count)) ≡ false
    → (if is_one then truth_of_one unknown (cond agree (count ∷ rest) rest)
    else truth_of_some unknown (cond agree (count ∷ rest) rest))
    ≡ (if is_one then truth_of_one unknown rest else truth_of_some unknown rest)
passed false is_one unknown count rest e = refl
passed true true unknown count rest e = absurd (true≢false e)
passed true false unknown count rest e =
    ap (λ b. if b || list_any (nat_lt 0) rest then True else default_truth unknown) e

decided : (agree is_one unknown : Bool) (count : ℕ) (rest : List ℕ) → (agree && (is_one || nat_lt 0 count)) ≡ true
    → (if is_one then truth_of_one unknown (cond agree (count ∷ rest) rest)
    else truth_of_some unknown (cond agree (count ∷ rest) rest))
    ≡ count_truth count
decided false is_one unknown count rest e = absurd (true≢false (sym e))
decided true true unknown count rest e = refl
decided true false unknown count rest e =
    ap (λ b. if b || list_any (nat_lt 0) rest then True else default_truth unknown) e
    ∙ sym (ap (λ b. if b then True else False) e)

-- where no entry is left, the answer is the default
no_entries : (unknown is_one : Bool)
    → (if is_one then truth_of_one unknown [] else truth_of_some unknown []) ≡ default_truth unknown
no_entries unknown true = refl
no_entries unknown false = refl

module _ (is_one unknown : Bool) (binds : List Bind) where
  module _ (rows : List (List Leaf × ℕ)) (place : ℕ)
      (walked : truth_of_entries is_one unknown binds (drop place rows)
      ≡ truth_of_entries is_one unknown binds rows) where
    here : (row : List Leaf × ℕ) → slice_get rows place ≡ Some row
        → truth_of_entries is_one unknown binds (row ∷ drop (place + 1) rows)
        ≡ truth_of_entries is_one unknown binds rows
    here row at =
        ap (λ (r : List Leaf × ℕ). truth_of_entries is_one unknown binds (r ∷ drop (place + 1) rows))
        (sym (get_or_from_slice_get rows place row row at))
        ∙ sym (at_drop_more (truth_of_entries is_one unknown binds) rows place row (slice_get_within rows place row at))
        ∙ walked

    -- the walk goes on past an entry that doesn't decide
    pub walk_on : (row : List Leaf × ℕ) → slice_get rows place ≡ Some row
        → (agrees binds row.0 && (is_one || nat_lt 0 row.1)) ≡ false
        → truth_of_entries is_one unknown binds (drop (place + 1) rows) ≡ truth_of_entries is_one unknown binds rows
    walk_on row at e =
        sym (passed (agrees binds row.0) is_one unknown row.1 (agreeing_counts binds (drop (place + 1) rows)) e)
        ∙ ap (λ counts. if is_one then truth_of_one unknown counts else truth_of_some unknown counts)
        (sym (agreeing-cons binds row (drop (place + 1) rows)))
        ∙ here row at

    -- and ends at one that does
    pub walk_ends : (row : List Leaf × ℕ) → slice_get rows place ≡ Some row
        → (agrees binds row.0 && (is_one || nat_lt 0 row.1)) ≡ true
        → count_truth row.1 ≡ truth_of_entries is_one unknown binds rows
    walk_ends row at e =
        sym (decided (agrees binds row.0) is_one unknown row.1 (agreeing_counts binds (drop (place + 1) rows)) e)
        ∙ ap (λ counts. if is_one then truth_of_one unknown counts else truth_of_some unknown counts)
        (sym (agreeing-cons binds row (drop (place + 1) rows)))
        ∙ here row at

    -- or past the last
    pub walk_over : length rows ≤ place → default_truth unknown ≡ truth_of_entries is_one unknown binds rows
    walk_over past =
        sym (no_entries unknown is_one)
        ∙ sym (ap (truth_of_entries is_one unknown binds) (drop_all place rows past))
        ∙ walked
