-- What every set of leaves keeps.
use Rattle.std.specs.Prelude.{◌≡◌, ◌≢◌, ◌≤◌, Bool, true, false, not, ◌||◌, List, [], ◌∷◌, Option, Some, None, All, AllPairs}
use Rattle.std.specs.List.{list_all, list_any}
use Rattle.config_types.specs.declared.fields.Position.{Position}
use Rattle.config_types.specs.declared.fields.Position.TheVariants as positions
pub use Rattle.config_types.specs.Askable.{greatest_field}
use Rattle.field_select.specs.declared.leaf.LeafPath.{LeafPath}
use Rattle.field_select.specs.declared.leaf.FieldSet.{FieldSet}
use Rattle.field_select.specs.contracts.leaf.LeafPathPartialEq.TheImpl as leaf_test

-- two leaves are equal
abbrev pub same_leaf : LeafPath → LeafPath → Bool
same_leaf = leaf_test.ghosts.eq

-- whether a leaf comes twice
abbrev pub has_repeat : List LeafPath → Bool
has_repeat [] = false
has_repeat (leaf ∷ others) = list_any (same_leaf leaf) others || has_repeat others

-- a leaf picks the entry at index 0, the first, the last or all from index 1 on, and never any of them
abbrev pub may_be_picked : Option Position → Bool
may_be_picked None = true
may_be_picked (Some positions.First) = true
may_be_picked (Some positions.Last) = true
may_be_picked (Some positions.Any) = false
may_be_picked (Some positions.All) = true

-- whether a position picks every entry from index 1 on
abbrev pub is_all : Option Position → Bool
is_all None = false
is_all (Some positions.First) = false
is_all (Some positions.Last) = false
is_all (Some positions.Any) = false
is_all (Some positions.All) = true

-- a leaf of a set: a field of an atom, or of a message there, and not with ANY
pub record IsLeaf (leaf : LeafPath) : Type 0 where
  pub field : (1 ≤ leaf.field) × (leaf.field ≤ greatest_field)
  pub sub : leaf.sub ≤ greatest_field
  pub position : may_be_picked leaf.position ≡ true

-- a set of leaves: each is one, and none comes twice
pub record IsFieldSet (set : FieldSet) : Type 0 where
  pub each : All IsLeaf set.leaves
  pub once : AllPairs (λ leaf later. leaf ≢ later) set.leaves

-- whether no leaf of a set has ALL
abbrev pub has_no_all : FieldSet → Bool
has_no_all set = list_all (λ (leaf : LeafPath). not (is_all leaf.position)) set.leaves
