-- The matcher that a slot stands for, child slots followed.
use Rattle.std.specs.Prelude.{◌≡◌, ◌≢◌, ℕ, ◌<◌, List, [], ◌∷◌, map, length, Option, Some, None}
use Rattle.config_types.specs.declared.matcher.SimpleMatcher.{SimpleMatcher}
use Rattle.config_types.specs.declared.matcher.Operation.{Operation}
use Rattle.link_graph.specs.Unrolling.{unroll}
use Rattle.matcher_table.specs.declared.shared.SharedMatcher.{SharedMatcher}
use Rattle.matcher_table.specs.declared.shared.SharedMatcher.TheVariants.{Simple, Combination}
use Rattle.matcher_table.specs.Slots.{matcher_at, children_of, times_among}

-- a matcher with its children in it; what isn't there has a tree too, that of no matcher
mutual
  pub data Tree : Type 0 where
    NoMatcher : Tree
    Leaf : SimpleMatcher → Tree
    Branch : Operation → Trees → Tree

  pub data Trees : Type 0 where
    NoTrees : Trees
    MoreTrees : Tree → Trees → Trees

-- these trees, one after another
abbrev pub trees_of : List Tree → Trees
trees_of [] = NoTrees
trees_of (tree ∷ trees) = MoreTrees tree (trees_of trees)

-- the tree of what a slot stands for, where the tree of each slot is given
abbrev pub tree_from : (ℕ → Tree) → Option SharedMatcher → Tree
tree_from trees None = NoMatcher
tree_from trees (Some (Simple matcher)) = Leaf matcher
tree_from trees (Some (Combination op children)) = Branch op (trees_of (map trees children))

-- one level of a slot's tree, where the trees of other slots are known
abbrev pub tree_step : List (Option SharedMatcher) → (ℕ → Tree) → ℕ → Tree
tree_step slots trees s = tree_from trees (matcher_at slots s)

-- the tree of a slot: child slots are followed as deep as there are slots
abbrev pub slot_tree : List (Option SharedMatcher) → ℕ → Tree
slot_tree slots = unroll (tree_step slots) NoMatcher (length slots)

-- the tree of each live slot is that of its matcher, over the trees of its children
abbrev pub TreesMeetTheirStep : List (Option SharedMatcher) → Type 0
TreesMeetTheirStep slots =
    (s : ℕ) → matcher_at slots s ≢ None → slot_tree slots s ≡ tree_from (slot_tree slots) (matcher_at slots s)

-- what is named is live
abbrev pub ChildrenAreLive : List (Option SharedMatcher) → Type 0
ChildrenAreLive slots = (s c : ℕ) → 0 < times_among c (children_of (matcher_at slots s)) → matcher_at slots c ≢ None
