-- What doesn't hang on an atom's id has the truth that it has where no simple matcher holds.
use Rattle.std.proofs.Common.{◌≡◌, ◌≢◌, ℕ, zero, suc, ◌<◌, Bool, true, false, ◌&&◌, List, [], ◌∷◌, length, map, get_or, take, Option, Some, None, refl, sym, ap, subst, ◌∙◌, arith, inl, inr}
use Rattle.std.proofs.lemmas.Bool.{cases_eq}
use Rattle.std.proofs.lemmas.List.{get_or-take, length-take-le}
use Rattle.atom_record.specs.declared.atom.Atom.{Atom}
use Rattle.config_types.specs.declared.matcher.SimpleMatcher.{SimpleMatcher}
use Rattle.matcher_eval.specs.Combined.{combined_truth}
use Rattle.matcher_table.specs.declared.shared.SharedMatcher.{SharedMatcher}
use Rattle.matcher_table.specs.declared.shared.SharedMatcher.TheVariants.{Simple, Combination}
use Rattle.matcher_table.specs.Slots.{matcher_at, children_of, times_among}
use Rattle.matcher_table.specs.StoreParts.{AreSlotsHeld}
use Rattle.matcher_table.specs.Trees.{Tree, trees_of, tree_from, slot_tree}
use Rattle.matcher_table.specs.Truths.{tree_truth, has_id_of, truth_with, IsEnough}
use Rattle.matcher_table.specs.Idle.{idle_truth, idle_truths, idle_with}
use Rattle.matcher_table.proofs.Counting.{place_of}
use Rattle.matcher_table.proofs.HeldLaws.{live_listed, order_live}
use Rattle.matcher_table.proofs.TreeLaws.{map_along, trees_meet_their_step}
use Rattle.matcher_table.proofs.EvaluationLaws.{truth-tree_from}

idle_of_list : (trees : ℕ → Tree) (xs : List ℕ)
    → idle_truths (trees_of (map trees xs)) ≡ map (λ y. idle_truth (trees y)) xs
idle_of_list trees [] = refl
idle_of_list trees (x ∷ xs) = ap (λ (ts : List Bool). idle_truth (trees x) ∷ ts) (idle_of_list trees xs)

-- what a tree is made from, and what its idle truth is made from
pub idle-tree_from : (trees : ℕ → Tree) (o : Option SharedMatcher)
    → idle_truth (tree_from trees o) ≡ idle_with (λ y. idle_truth (trees y)) o
idle-tree_from trees None = refl
idle-tree_from trees (Some (Simple matcher)) = refl
idle-tree_from trees (Some (Combination op children)) = ap (combined_truth op) (idle_of_list trees children)

module _ (says : SimpleMatcher → Atom → Bool) (atom : Atom) {slots : List (Option SharedMatcher)}
    {order outside uses : List ℕ}
    {results : List Bool} (held : AreSlotsHeld slots order outside uses results) (group : List ℕ)
    (enough : IsEnough slots atom group) where
  not_asked : (b c : Bool) → (b ≡ true → ⊥) → (b && c) ≡ false
  not_asked true c never = absurd (never refl)
  not_asked false c never = refl

  by_kept : (s : ℕ) (o : Option SharedMatcher) → matcher_at slots s ≡ o → times_among s group ≡ 0
      → ((y : ℕ) → 0 < times_among y (children_of o)
      → tree_truth says atom (slot_tree slots y) ≡ idle_truth (slot_tree slots y))
      → truth_with says atom (λ y. tree_truth says atom (slot_tree slots y)) o
      ≡ idle_with (λ y. idle_truth (slot_tree slots y)) o
  by_kept s None e none below = refl
  by_kept s (Some (Simple matcher)) e none below =
      not_asked (has_id_of atom matcher) (says matcher atom) (λ asked.
      let among : 0 < times_among s group = enough.simple s matcher e asked in
      omega arith)
  by_kept s (Some (Combination op children)) e none below =
      ap (combined_truth op) (map_along (λ y. tree_truth says atom (slot_tree slots y))
      (λ y. idle_truth (slot_tree slots y)) children below)

  idle_within : (most i : ℕ) → i < most → i < length order → times_among (get_or order i 0) group ≡ 0
      → tree_truth says atom (slot_tree slots (get_or order i 0)) ≡ idle_truth (slot_tree slots (get_or order i 0))
  idle_within zero i low here none = absurd (omega arith)
  idle_within (suc most) i low here none =
      let s = get_or order i 0 in
      let meets : slot_tree slots s ≡ tree_from (slot_tree slots) (matcher_at slots s) =
      trees_meet_their_step held s (order_live held i here) in
      ap (tree_truth says atom) meets ∙ truth-tree_from says atom (slot_tree slots) (matcher_at slots s)
      ∙ by_kept s (matcher_at slots s) refl none (λ y named.
      let front = place_of y (take i order) (held.after i y here named) in
      let long : length (take i order) ≡ i = length-take-le i order (omega arith) in
      let k = front.0 in
      let lower : k < i = omega (arith, front.1) in
      let at : get_or order k 0 ≡ y = sym (get_or-take i order k 0 lower) ∙ front.2 in
      let apart : times_among y group ≡ 0 = elim (cases_eq (times_among y group) 0) [
        | inl nowhere ↦ nowhere
        | inr some ↦
            let among : 0 < times_among s group = enough.above s y named (omega arith) in
            absurd (omega arith)
      ] in
      let at_k : times_among (get_or order k 0) group ≡ 0 = ap (λ (x : ℕ). times_among x group) at ∙ apart in
      subst (λ (x : ℕ). tree_truth says atom (slot_tree slots x) ≡ idle_truth (slot_tree slots x)) at
      (idle_within most k (omega arith) (omega arith) at_k))
      ∙ sym (ap idle_truth meets ∙ idle-tree_from (slot_tree slots) (matcher_at slots s))

  -- a live slot outside of a list that is enough for the atom has its idle truth, whatever the judge says
  pub idle_outside : (s : ℕ) → matcher_at slots s ≢ None → times_among s group ≡ 0
      → tree_truth says atom (slot_tree slots s) ≡ idle_truth (slot_tree slots s)
  idle_outside s live none =
      let place = place_of s order (live_listed held s live) in
      let at : times_among (get_or order place.0 0) group ≡ 0 = ap (λ (x : ℕ). times_among x group) place.2 ∙ none in
      subst (λ (x : ℕ). tree_truth says atom (slot_tree slots x) ≡ idle_truth (slot_tree slots x)) place.2
      (idle_within (suc place.0) place.0 (omega arith) place.1 at)
