-- Laws of the trees of live slots.
use Rattle.std.proofs.Common.{◌≡◌, ◌≢◌, ℕ, zero, suc, ◌+◌, ◌<◌, ◌≤◌, List, [], ◌∷◌, length, map, get_or, take, Option, Some, None, refl, sym, ap, subst, ◌∙◌, arith}
use Rattle.std.proofs.lemmas.List.{get_or-take, length-take-le}
use Rattle.link_graph.specs.Unrolling.{unroll}
use Rattle.matcher_table.specs.declared.shared.SharedMatcher.{SharedMatcher}
use Rattle.matcher_table.specs.declared.shared.SharedMatcher.TheVariants.{Simple, Combination}
use Rattle.matcher_table.specs.Slots.{matcher_at, children_of, times_among, child_uses}
use Rattle.matcher_table.specs.StoreParts.{AreSlotsHeld}
use Rattle.matcher_table.specs.Trees.{Tree, NoMatcher, Branch, trees_of, tree_from, tree_step, slot_tree}
use Rattle.matcher_table.proofs.Counting.{one_if_same, places-cons, place_of}
use Rattle.matcher_table.proofs.HeldLaws.{named_used, live_listed, order_short}

-- functions that agree on what a list has make the same list of it
pub map_along : {V : Type 0} (f g : ℕ → V) (xs : List ℕ) → ((y : ℕ) → 0 < times_among y xs → f y ≡ g y)
    → map f xs ≡ map g xs
map_along f g [] same = refl
map_along f g (x ∷ xs) same =
    let here : f x ≡ g x = same x (omega (arith, places-cons x x xs, one_if_same x x refl)) in
    let later : map f xs ≡ map g xs = map_along f g xs (λ y c. same y (omega (arith, places-cons y x xs))) in
    cc

-- a tree comes from the trees of the children, and from no others
pub tree_looks_down : (f g : ℕ → Tree) (o : Option SharedMatcher)
    → ((y : ℕ) → 0 < times_among y (children_of o) → f y ≡ g y) → tree_from f o ≡ tree_from g o
tree_looks_down f g None same = refl
tree_looks_down f g (Some (Simple matcher)) same = refl
tree_looks_down f g (Some (Combination op children)) same =
    ap (λ (ts : List Tree). Branch op (trees_of ts)) (map_along f g children same)

-- the tree, followed so deep
abbrev pub tree_to : List (Option SharedMatcher) → ℕ → ℕ → Tree
tree_to slots depth s = unroll (tree_step slots) NoMatcher depth s

module _ {slots : List (Option SharedMatcher)} {order outside uses : List ℕ} {results : List _}
    (held : AreSlotsHeld slots order outside uses results) where
  -- deep enough is as good as deeper
  settled : (most i a b : ℕ) → i < most → i < length order → i < a → i < b
      → tree_to slots a (get_or order i 0) ≡ tree_to slots b (get_or order i 0)
  settled zero i a b low here in_a in_b = absurd (omega arith)
  settled (suc most) i zero b low here in_a in_b = absurd (omega arith)
  settled (suc most) i (suc a) zero low here in_a in_b = absurd (omega arith)
  settled (suc most) i (suc a) (suc b) low here in_a in_b =
      tree_looks_down (tree_to slots a) (tree_to slots b) (matcher_at slots (get_or order i 0)) (λ y named.
      let front = place_of y (take i order) (held.after i y here named) in
      let long : length (take i order) ≡ i = length-take-le i order (omega arith) in
      let k = front.0 in
      let lower : k < i = omega (arith, front.1) in
      let at : get_or order k 0 ≡ y = sym (get_or-take i order k 0 lower) ∙ front.2 in
      subst (λ (x : ℕ). tree_to slots a x ≡ tree_to slots b x) at
      (settled most k a b (omega arith) (omega arith) (omega arith) (omega arith)))

  -- from so many slots on, the depth makes no difference
  pub deep_enough : (s a : ℕ) → matcher_at slots s ≢ None → length slots ≤ a → tree_to slots a s ≡ slot_tree slots s
  deep_enough s a live deep =
      let place = place_of s order (live_listed held s live) in
      let short : length order ≤ length slots = order_short held in
      subst (λ (x : ℕ). tree_to slots a x ≡ tree_to slots (length slots) x) place.2
      (settled (suc place.0) place.0 a (length slots) (omega arith) place.1 (omega (arith, place.1)) (omega
      (arith, place.1)))

  pub trees_meet_their_step : (s : ℕ) → matcher_at slots s ≢ None
      → slot_tree slots s ≡ tree_from (slot_tree slots) (matcher_at slots s)
  trees_meet_their_step s live = sym (deep_enough s (suc (length slots)) live (omega arith))

  -- what is named is live
  pub named_live : (s c : ℕ) → 0 < times_among c (children_of (matcher_at slots s)) → matcher_at slots c ≢ None
  named_live s c named gone =
      let used : 0 < child_uses slots c = named_used slots s c named in
      omega (arith, held.none_below c gone)

-- two tables in which the live slots of the second stand for the same
module _ {slots slots' : List (Option SharedMatcher)} {order order' outside outside' uses uses' : List ℕ}
    {results results' : List _}
    (held : AreSlotsHeld slots order outside uses results) (held' : AreSlotsHeld slots' order' outside' uses' results')
    (same : (s : ℕ) → matcher_at slots' s ≢ None → matcher_at slots' s ≡ matcher_at slots s) where
  as_deep : (depth s : ℕ) → matcher_at slots' s ≢ None → tree_to slots' depth s ≡ tree_to slots depth s
  as_deep zero s live = refl
  as_deep (suc depth) s live =
      tree_looks_down (tree_to slots' depth) (tree_to slots depth) (matcher_at slots' s)
      (λ y named. as_deep depth y (named_live held' s y named))
      ∙ ap (tree_from (tree_to slots depth)) (same s live)

  -- a slot that stays has the tree that it had
  pub tree_kept : (s : ℕ) → matcher_at slots' s ≢ None → slot_tree slots' s ≡ slot_tree slots s
  tree_kept s live =
      let deep = length slots + length slots' in
      sym (deep_enough held' s deep live (omega arith)) ∙ as_deep deep s live
      ∙ deep_enough held s deep (λ gone. live (same s live ∙ gone)) (omega arith)
