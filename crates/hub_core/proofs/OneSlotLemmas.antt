-- In a table slots with equal trees are one slot.
use Rattle.std.proofs.Common.{◌≡◌, ◌≢◌, ℕ, zero, suc, ◌<◌, List, [], ◌∷◌, map, Option, Some, None, refl, sym, ap, ◌∙◌, arith}
use Rattle.matcher_table.specs.declared.shared.SharedMatcher.{SharedMatcher}
use Rattle.matcher_table.specs.declared.shared.SharedMatcher.TheVariants.{Simple, Combination}
use Rattle.matcher_table.specs.Slots.{matcher_at, children_of, times_among}
use Rattle.matcher_table.specs.Tables.{SlotTable}
use Rattle.matcher_table.specs.TableFacts.{IsSoundTable}
use Rattle.matcher_table.specs.Trees.{Tree, trees_of, tree_from, slot_tree}
use Rattle.matcher_table.proofs.Counting.{one_if_same, places-cons}
use Rattle.hub_core.proofs.ReachedLemmas.{depth, from_least}

module _ (table : SlotTable) (sound : IsSoundTable table) where
  -- the tree of a slot
  abbrev tree : ℕ → Tree
  tree s = slot_tree table.slots s

  -- slots of the one list and of the other that have equal trees are one
  abbrev AreOne : List ℕ → List ℕ → Type 0
  AreOne xs ys = (x y : ℕ) → 0 < times_among x xs → 0 < times_among y ys → tree x ≡ tree y → x ≡ y

  one_list : (xs ys : List ℕ) → AreOne xs ys → trees_of (map tree xs) ≡ trees_of (map tree ys) → xs ≡ ys
  one_list [] [] one e = refl
  one_list [] (y ∷ ys) one e = absurd (cc)
  one_list (x ∷ xs) [] one e = absurd (cc)
  one_list (x ∷ xs) (y ∷ ys) one e =
      let here : tree x ≡ tree y = cc in
      let later : trees_of (map tree xs) ≡ trees_of (map tree ys) = cc in
      let first : x ≡ y =
      one x y (omega (arith, places-cons x x xs, one_if_same x x refl))
      (omega (arith, places-cons y y ys, one_if_same y y refl)) here in
      let others : xs ≡ ys =
      one_list xs ys (λ a b in_xs in_ys. one a b (omega (arith, places-cons a x xs))
      (omega (arith, places-cons b y ys)))
      later in
      cc

  one_matcher : (a b : Option SharedMatcher) → AreOne (children_of a) (children_of b) → a ≢ None → b ≢ None
      → tree_from tree a ≡ tree_from tree b → a ≡ b
  one_matcher None b one live live' e = absurd (live refl)
  one_matcher (Some a) None one live live' e = absurd (live' refl)
  one_matcher (Some (Simple m)) (Some (Simple n)) one live live' e = cc
  one_matcher (Some (Simple m)) (Some (Combination op children)) one live live' e = absurd (cc)
  one_matcher (Some (Combination op children)) (Some (Simple n)) one live live' e = absurd (cc)
  one_matcher (Some (Combination op xs)) (Some (Combination op' ys)) one live live' e =
      let trees : trees_of (map tree xs) ≡ trees_of (map tree ys) = cc in
      let children : xs ≡ ys = one_list xs ys one trees in
      cc

  within : (n s t : ℕ) → depth (tree s) < n → matcher_at table.slots s ≢ None → matcher_at table.slots t ≢ None
      → tree s ≡ tree t → s ≡ t
  within zero s t deep live live' e = absurd (omega arith)
  within (suc n) s t deep live live' e =
      sound.apart s t live
      (one_matcher (matcher_at table.slots s) (matcher_at table.slots t)
      (λ x y in_s in_t same. within n x y (omega (
        arith,
        deep,
        from_least tree x (matcher_at table.slots s) in_s,
        ap depth (sound.trees s live),
      )) (sound.children s x in_s) (sound.children t y in_t) same) live live'
      (sym (sound.trees s live) ∙ e ∙ sound.trees t live'))

  -- live slots with equal trees are one slot
  pub one_slot : (s t : ℕ) → matcher_at table.slots s ≢ None → matcher_at table.slots t ≢ None
      → slot_tree table.slots s ≡ slot_tree table.slots t → s ≡ t
  one_slot s t live live' e = within (suc (depth (tree s))) s t (omega arith) live live' e
