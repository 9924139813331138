-- What a configuration holds of a table of matchers: for each of its own a slot.
use Rattle.std.specs.Prelude.{◌≡◌, ◌≢◌, ℕ, ◌<◌, List, map, length, slice_index, slice_get, Option, Some, None}
use Rattle.std.specs.List.{All}
use Rattle.link_graph.specs.Unrolling.{unroll}
use Rattle.config_links.specs.declared.linked.LMatcher.{LMatcher}
use Rattle.config_links.specs.declared.linked.LMatcher.TheVariants as linked
use Rattle.matcher_table.specs.declared.shared.SharedMatcher.{SharedMatcher}
use Rattle.matcher_table.specs.declared.shared.SharedMatcher.TheVariants as shared
use Rattle.matcher_table.specs.Slots.{matcher_at}
use Rattle.matcher_table.specs.Tables.{SlotTable}
use Rattle.matcher_table.specs.Steps.{HasSlot}
use Rattle.matcher_table.specs.Trees.{Tree, NoMatcher, Leaf, Branch, trees_of}

-- a matcher of a configuration, with the slots of the places that it names in their stead
abbrev pub in_slots : List ℕ → LMatcher → SharedMatcher
in_slots slots (linked.Simple simple) = shared.Simple simple
in_slots slots (linked.Combo op children) = shared.Combination op (map (λ place. slice_index slots place) children)

-- Each slot of the list stands for the matcher at its place: the same simple matcher, or the same operation on the
-- slots that the list has for the places that it names.
pub record HoldMatchers (table : SlotTable) (slots : List ℕ) (matchers : List LMatcher) : Type 0 where
  pub each : length slots ≡ length matchers
  pub same : (place : ℕ) (matcher : LMatcher) → slice_get matchers place ≡ Some matcher
      → HasSlot table (in_slots slots matcher) (slice_index slots place)

-- the list has a live slot at a place
abbrev pub IsHeldAt : SlotTable → List ℕ → ℕ → Type 0
IsHeldAt table slots place = (place < length slots) × (matcher_at table.slots (slice_index slots place) ≢ None)

-- all slots of a list are live
abbrev pub AreLive : SlotTable → List ℕ → Type 0
AreLive table slots = All (λ s. matcher_at table.slots s ≢ None) slots

-- the tree of a matcher, where the tree at each place is given
abbrev pub matcher_tree_from : (ℕ → Tree) → Option LMatcher → Tree
matcher_tree_from trees None = NoMatcher
matcher_tree_from trees (Some (linked.Simple simple)) = Leaf simple
matcher_tree_from trees (Some (linked.Combo op children)) = Branch op (trees_of (map trees children))

-- one level of a matcher's tree, where the tree at each place is given
abbrev pub matcher_tree_step : List LMatcher → (ℕ → Tree) → ℕ → Tree
matcher_tree_step matchers trees place = matcher_tree_from trees (slice_get matchers place)

-- the tree of a configuration's own matcher: references are followed as deep as there are matchers
abbrev pub matcher_tree : List LMatcher → ℕ → Tree
matcher_tree matchers = unroll (matcher_tree_step matchers) NoMatcher (length matchers)
