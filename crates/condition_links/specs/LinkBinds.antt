-- What a link asks of its predicate.
use Rattle.std.specs.Prelude.{ℕ, List, [], ◌∷◌, ◌++◌, map, position, slice_get, Option, Some, None}
use Rattle.std.specs.List.{zip}
use Rattle.std.specs.Option.{option_and_then}
use Rattle.atom_record.specs.declared.value.Leaf.{Leaf}
use Rattle.atom_record.specs.declared.value.Leaf.TheVariants.{Missing}
use Rattle.config_links.specs.declared.linked.LLink.{LLink}
use Rattle.field_select.specs.declared.leaf.LeafPath.{LeafPath}
use Rattle.field_select.specs.declared.leaf.FieldSet.{FieldSet}
use Rattle.field_select.specs.FieldSets.{same_leaf}
use Rattle.predicate_state.specs.declared.bind.Bind.{Bind}

-- a place asks for a value
abbrev pub bind_of : ℕ × Leaf → Bind
bind_of pair = record { place = pair.0; value = pair.1 }

-- each place asks for the value that has its turn
abbrev pub binds_of : List ℕ → List Leaf → List Bind
binds_of places values = map bind_of (zip places values)

-- what was found, and nothing where it wasn't
abbrev pub leaf_or_missing : Option Leaf → Leaf
leaf_or_missing None = Missing
leaf_or_missing (Some leaf) = leaf

-- the value that a key has at a leaf, where the key's values are those of these leaves
abbrev pub value_at_leaf : List LeafPath → List Leaf → LeafPath → Leaf
value_at_leaf leaves values leaf =
    leaf_or_missing (option_and_then (slice_get values) (position (λ other. same_leaf other leaf) leaves))

-- the values that a key of one set has at the leaves of another
abbrev pub key_values_at : FieldSet → List Leaf → FieldSet → List Leaf
key_values_at inner key set = map (value_at_leaf inner.leaves key) set.leaves

-- what a link asks for a key of another predicate, whose values are those of the leaves of a set
abbrev pub binds_for_key : LLink → FieldSet → List Leaf → List Bind
binds_for_key link inner key = binds_of link.places (key_values_at inner key link.in_what)

-- one bind more, where a place is left
abbrev pub with_next : Option ℕ → Leaf → List Bind → List Bind
with_next None value binds = binds
with_next (Some place) value binds = binds ++ bind_of (place, value) ∷ []
