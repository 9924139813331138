-- What an evaluation keeps, and how its questions are counted.
use Rattle.std.proofs.Common.{◌≡◌, ◌≢◌, ℕ, suc, ◌+◌, ◌<◌, ◌≤◌, Bool, true, false, cond, List, [], ◌∷◌, length, map, get_or, set, take, Option, Some, None, refl, sym, ap, subst, ◌∙◌, arith, inl, inr}
use Rattle.std.specs.List.{sum_by}
use Rattle.std.proofs.lemmas.Bool.{cases_eq, cases_lt}
use Rattle.std.proofs.lemmas.List.{get_or-set_same, get_or-set_other, take_all}
use Rattle.std.proofs.lemmas.List.Sums.{sum_by-cons, sum_by-set, sum_by_more}
use Rattle.atom_record.specs.declared.atom.Atom.{Atom}
use Rattle.config_types.specs.declared.matcher.SimpleMatcher.{SimpleMatcher}
use Rattle.matcher_eval.specs.Combined.{combined_truth}
use Rattle.matcher_table.specs.declared.shared.SharedMatcher.{SharedMatcher}
use Rattle.matcher_table.specs.declared.shared.SharedMatcher.TheVariants.{Simple, Combination}
use Rattle.matcher_table.specs.Slots.{matcher_at, children_of, times_among, live_count}
use Rattle.matcher_table.specs.Trees.{Tree, trees_of, tree_from, slot_tree, TreesMeetTheirStep}
use Rattle.matcher_table.specs.Truths.{tree_truth, trees_truths, truth_with, has_id_of, asks_about, questions, IsEnough, HaveRisen}
use Rattle.matcher_table.proofs.Counting.{one_if, one_if_same, one_if_other, places-cons, places_more, counted_at, sum_along}
use Rattle.matcher_table.proofs.HeldLaws.{counted_live, live_is_one, live_within}
use Rattle.matcher_table.proofs.TreeLaws.{map_along}

module _ (says : SimpleMatcher → Atom → Bool) (atom : Atom) where
  truths_of_list : (trees : ℕ → Tree) (xs : List ℕ)
      → trees_truths says atom (trees_of (map trees xs)) ≡ map (λ y. tree_truth says atom (trees y)) xs
  truths_of_list trees [] = refl
  truths_of_list trees (x ∷ xs) = ap (λ (ts : List Bool). tree_truth says atom (trees x) ∷ ts) (truths_of_list trees xs)

  -- the truth of a tree is that of its matcher over the truths of the trees below
  pub truth-tree_from : (trees : ℕ → Tree) (o : Option SharedMatcher)
      → tree_truth says atom (tree_from trees o) ≡ truth_with says atom (λ y. tree_truth says atom (trees y)) o
  truth-tree_from trees None = refl
  truth-tree_from trees (Some (Simple matcher)) = refl
  truth-tree_from trees (Some (Combination op children)) = ap (combined_truth op) (truths_of_list trees children)

  pub truth_looks_down : (f g : ℕ → Bool) (o : Option SharedMatcher)
      → ((y : ℕ) → 0 < times_among y (children_of o) → f y ≡ g y) → truth_with says atom f o ≡ truth_with says atom g o
  truth_looks_down f g None same = refl
  truth_looks_down f g (Some (Simple matcher)) same = refl
  truth_looks_down f g (Some (Combination op children)) same = ap (combined_truth op) (map_along f g children same)

  -- what has its truth so far, in the front of the list and outside of it
  module _ (slots : List (Option SharedMatcher)) (group : List ℕ) (truths : List Bool) (i : ℕ) (b : Bool)
      (enough : IsEnough slots atom group) (meets : TreesMeetTheirStep slots)
      (children_live : (s c : ℕ) → 0 < times_among c (children_of (matcher_at slots s)) → matcher_at slots c ≢ None)
      (here : i < length group) (within : get_or group i 0 < length truths)
      (done : (y : ℕ) → 0 < times_among y (take i group)
      → get_or truths y false ≡ tree_truth says atom (slot_tree slots y))
      (rest : (y : ℕ) → matcher_at slots y ≢ None → times_among y group ≡ 0
      → get_or truths y false ≡ tree_truth says atom (slot_tree slots y))
      (is_b : b ≡ truth_with says atom (λ y. get_or truths y false) (matcher_at slots (get_or group i 0))) where
    live_here : matcher_at slots (get_or group i 0) ≢ None
    live_here = counted_live (matcher_at slots (get_or group i 0))
        (omega (arith, enough.once (get_or group i 0), counted_at group i here))

    child_done : (y : ℕ) → 0 < times_among y (children_of (matcher_at slots (get_or group i 0)))
        → get_or truths y false ≡ tree_truth says atom (slot_tree slots y)
    child_done y named =
        elim (cases_lt 0 (times_among y group)) [
          | inl among ↦ done y (enough.after i y here named among)
          | inr none ↦ rest y (children_live (get_or group i 0) y named) (omega arith)
        ]

    pub right : b ≡ tree_truth says atom (slot_tree slots (get_or group i 0))
    right =
        is_b
        ∙ truth_looks_down (λ y. get_or truths y false) (λ y. tree_truth says atom (slot_tree slots y))
        (matcher_at slots (get_or group i 0)) child_done
        ∙ sym (ap (tree_truth says atom) (meets (get_or group i 0) live_here)
        ∙ truth-tree_from (slot_tree slots) (matcher_at slots (get_or group i 0)))

    at_here : get_or (set truths (get_or group i 0) b) (get_or group i 0) false ≡ b
    at_here = get_or-set_same truths (get_or group i 0) b false within

    pub done_more : (y : ℕ) → 0 < times_among y (take (i + 1) group)
        → get_or (set truths (get_or group i 0) b) y false ≡ tree_truth says atom (slot_tree slots y)
    done_more y counted =
        elim (cases_eq y (get_or group i 0)) [
          | inl same ↦
              ap (λ (k : ℕ). get_or (set truths (get_or group i 0) b) k false) same ∙ at_here ∙ right
              ∙ sym (ap (λ (k : ℕ). tree_truth says atom (slot_tree slots k)) same)
          | inr other ↦
              get_or-set_other truths (get_or group i 0) y b false other
              ∙ done y (omega (
                arith,
                places_more y group i here,
                one_if_other y (get_or group i 0) (λ e. other
                    (sym e)),
              ))
        ]

    pub rest_kept : (y : ℕ) → matcher_at slots y ≢ None → times_among y group ≡ 0
        → get_or (set truths (get_or group i 0) b) y false ≡ tree_truth says atom (slot_tree slots y)
    rest_kept y live none =
        let other : y ≢ get_or group i 0 = λ e.
        let some : 0 < times_among y group =
        subst (λ (k : ℕ). 0 < times_among k group) (sym e) (counted_at group i here) in
        omega arith in
        get_or-set_other truths (get_or group i 0) y b false other ∙ rest y live none

  -- at the end each live slot has its truth
  pub all_done : (slots : List (Option SharedMatcher)) (group : List ℕ) (truths : List Bool) (i : ℕ) → length group ≤ i
      → ((y : ℕ) → 0 < times_among y (take i group) → get_or truths y false ≡ tree_truth says atom (slot_tree slots y))
      → ((y : ℕ) → matcher_at slots y ≢ None → times_among y group ≡ 0
      → get_or truths y false ≡ tree_truth says atom (slot_tree slots y))
      → (s : ℕ) → matcher_at slots s ≢ None → get_or truths s false ≡ tree_truth says atom (slot_tree slots s)
  all_done slots group truths i past done rest s live =
      elim (cases_lt 0 (times_among s group)) [
        | inl among ↦ done s (subst (λ (xs : List ℕ). 0 < times_among s xs) (sym (take_all i group past)) among)
        | inr none ↦ rest s live (omega arith)
      ]

-- A sum over slots, taken along a list that has each slot at most once, and each slot with a term above 0.
pub sum_listed : (f : Option SharedMatcher → ℕ) → f None ≡ 0 → (group : List ℕ) (slots : List (Option SharedMatcher))
    → ((s : ℕ) → times_among s group ≤ live_count (matcher_at slots s))
    → ((s : ℕ) → 0 < f (matcher_at slots s) → 0 < times_among s group)
    → sum_by (λ s. f (matcher_at slots s)) group ≡ sum_by f slots
sum_listed f none [] slots once all =
    sym (sum_of_terms f slots (λ s. elim (cases_eq (f (matcher_at slots s)) 0) [
      | inl zero_there ↦ zero_there
      | inr some ↦ let no : 0 < times_among s [] = all s (omega arith) in absurd (omega arith)
    ]))
  where
    sum_of_terms : (g : Option SharedMatcher → ℕ) (ys : List (Option SharedMatcher)) → ((k : ℕ)
        → g (get_or ys k None) ≡ 0)
        → sum_by g ys ≡ 0
    sum_of_terms g [] h = refl
    sum_of_terms g (y ∷ ys) h = omega (arith, sum_by-cons g y ys, h 0, sum_of_terms g ys (λ k. h (suc k)))
sum_listed f none (x ∷ xs) slots once all =
    let one : one_if x x ≡ 1 = one_if_same x x refl in
    let live : matcher_at slots x ≢ None = counted_live (matcher_at slots x) (omega
    (arith, once x, places-cons x x xs)) in
    let there : x < length slots = live_within slots x live in
    let gone : matcher_at (set slots x None) x ≡ None = get_or-set_same slots x None None there in
    let none_twice : times_among x xs ≡ 0 =
    omega (arith, once x, places-cons x x xs, live_is_one (matcher_at slots x) live) in
    let later : sum_by (λ s. f (matcher_at (set slots x None) s)) xs ≡ sum_by f (set slots x None) =
    sum_listed f none xs (set slots x None)
    (λ s. elim (cases_eq s x) [
      | inl same ↦
          let zero_there : times_among s xs ≡ 0 = ap (λ (k : ℕ). times_among k xs) same ∙ none_twice in
          omega arith
      | inr other ↦
          let as_before : live_count (matcher_at (set slots x None) s) ≡ live_count (matcher_at slots s) =
          ap live_count (get_or-set_other slots x s None None other) in
          omega (arith, once s, places-cons s x xs)
    ])
    (λ s some. elim (cases_eq s x) [
      | inl same ↦
          let zero_there : f (matcher_at (set slots x None) s) ≡ 0 =
          ap (λ (k : ℕ). f (matcher_at (set slots x None) k)) same ∙ ap f gone ∙ none in
          absurd (omega arith)
      | inr other ↦
          let as_before : f (matcher_at (set slots x None) s) ≡ f (matcher_at slots s) =
          ap f (get_or-set_other slots x s None None other) in
          omega (arith, all s (omega arith), places-cons s x xs, one_if_other s x (λ e. other (sym e)))
    ]) in
    let along : sum_by (λ s. f (matcher_at slots s)) xs ≡ sum_by (λ s. f (matcher_at (set slots x None) s)) xs =
    sum_along (λ s. f (matcher_at slots s)) (λ s. f (matcher_at (set slots x None) s)) xs (λ s counted.
    let other : s ≢ x = λ e.
    let zero_there : times_among s xs ≡ 0 = ap (λ (k : ℕ). times_among k xs) e ∙ none_twice in
    omega arith in
    sym (ap f (get_or-set_other slots x s None None other))) in
    omega (arith, sum_by-cons (λ s. f (matcher_at slots s)) x xs, sum_by-set f slots x None None there)

-- the questions along a list that is enough are those of the whole table
question_listed : (slots : List (Option SharedMatcher)) (atom : Atom) (group : List ℕ) → IsEnough slots atom group
    → (s : ℕ)
    (o : Option SharedMatcher) → matcher_at slots s ≡ o → 0 < cond (asks_about atom o) 1 0 → 0 < times_among s group
question_listed slots atom group enough s None e h = absurd (omega arith)
question_listed slots atom group enough s (Some (Combination op children)) e h = absurd (omega arith)
question_listed slots atom group enough s (Some (Simple matcher)) e h =
    enough.simple s matcher e (asked (has_id_of atom matcher) h)
  where
    asked : (b : Bool) → 0 < cond b 1 0 → b ≡ true
    asked true h = refl
    asked false h = absurd (omega arith)

pub questions_along : (slots : List (Option SharedMatcher)) (atom : Atom) (group : List ℕ) → IsEnough slots atom group
    → sum_by (λ s. cond (asks_about atom (matcher_at slots s)) 1 0) group ≡ questions atom slots
questions_along slots atom group enough =
    sum_listed (λ (o : Option SharedMatcher). cond (asks_about atom o) 1 0) refl group slots enough.once
    (λ s h. question_listed slots atom group enough s (matcher_at slots s) refl h)

pub rises_by_none : (a : ℕ) → HaveRisen 0 a a
rises_by_none a = record { later = omega arith; most = omega arith; least = omega arith }

pub rises_by_sum : (m n a b c : ℕ) → HaveRisen m a b → HaveRisen n b c → HaveRisen (m + n) a c
rises_by_sum m n a b c p q = record { later = omega arith; most = omega arith; least = omega arith }

-- one more slot was asked about or not
pub rises_by_more : (f : ℕ → ℕ) (group : List ℕ) (i a b c : ℕ) → i < length group
    → HaveRisen (sum_by f (take i group)) a b → HaveRisen (f (get_or group i 0)) b c
    → HaveRisen (sum_by f (take (i + 1) group)) a c
rises_by_more f group i a b c here before one =
    subst (λ (n : ℕ). HaveRisen n a c) (sym (sum_by_more f group i 0 here))
    (rises_by_sum (sum_by f (take i group)) (f (get_or group i 0)) a b c before one)
