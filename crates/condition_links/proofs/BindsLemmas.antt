-- Binds, one value at a time.
use Rattle.std.proofs.Common.{◌≡◌, ℕ, List, [], ◌∷◌, ◌++◌, length, position, slice_get, Option, Some, None, refl, sym, ap, ◌∙◌}
use Rattle.std.specs.Option.{option_and_then}
use Rattle.atom_record.specs.Sparse.{not_missing}
use Rattle.atom_record.specs.declared.value.Leaf.{Leaf}
use Rattle.atom_record.specs.declared.value.Leaf.TheVariants.{Missing, One, Many}
use Rattle.atom_record.specs.declared.value.Value.{Value}
use Rattle.field_select.specs.declared.leaf.LeafPath.{LeafPath}
use Rattle.field_select.specs.FieldSets.{same_leaf}
use Rattle.predicate_state.specs.declared.bind.Bind.{Bind}
use Rattle.condition_links.specs.LinkBinds.{bind_of, binds_of, with_next, leaf_or_missing, value_at_leaf}

-- no value, no bind
pub binds_none : (places : List ℕ) → [] ≡ binds_of places []
binds_none [] = refl
binds_none (place ∷ places) = refl

first_stays : (first : Bind) (next : Option ℕ) (value : Leaf) (binds : List Bind)
    → first ∷ with_next next value binds ≡ with_next next value (first ∷ binds)
first_stays first None value binds = refl
first_stays first (Some place) value binds = refl

-- one value more binds the place that comes next
pub binds_more : (places : List ℕ) (values : List Leaf) (value : Leaf)
    → binds_of places (values ++ value ∷ [])
    ≡ with_next (slice_get places (length (binds_of places values))) value (binds_of places values)
binds_more [] values value = refl
binds_more (place ∷ []) [] value = refl
binds_more (place ∷ next ∷ places) [] value = refl
binds_more (place ∷ places) (first ∷ values) value =
    ap (λ binds. bind_of (place, first) ∷ binds) (binds_more places values value)
    ∙ first_stays (bind_of (place, first)) (slice_get places (length (binds_of places values))) value
    (binds_of places values)

-- a missing leaf is read as none is
missing_as_none : (leaf : Option Leaf) → leaf_or_missing (not_missing leaf) ≡ leaf_or_missing leaf
missing_as_none None = refl
missing_as_none (Some Missing) = refl
missing_as_none (Some (One value)) = refl
missing_as_none (Some (Many values)) = refl

-- what a key has at the place of a leaf is its value there
pub one_read : (leaves : List LeafPath) (key : List Leaf) (leaf : LeafPath) (place : ℕ) (value : Value)
    → Some place ≡ position (λ other. same_leaf other leaf) leaves
    → Some (One value) ≡ not_missing (slice_get key place)
    → value_at_leaf leaves key leaf ≡ One value
one_read leaves key leaf place value found there =
    ap (λ at. leaf_or_missing (option_and_then (slice_get key) at)) (sym found)
    ∙ sym (missing_as_none (slice_get key place)) ∙ ap leaf_or_missing (sym there)
