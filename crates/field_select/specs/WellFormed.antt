-- Which trees of field numbers are well-formed, and which leaves they have.
use Rattle.std.specs.Prelude.{◌≡◌, ℕ, ℤ, pos, nat_lt, nat_le, ◌==◌, Bool, true, false, not, ◌&&◌, List, [], ◌∷◌, ◌++◌, length, map, Option, Some, is_none, Result, Ok, Err, if◌then◌else◌}
use Rattle.std.specs.List.{flat_map, list_all}
use Rattle.config_types.specs.declared.fields.FieldMatcher.{FieldMatcher}
use Rattle.config_types.specs.declared.fields.FieldMatcher.TheViews.{out-FieldMatcher}
use Rattle.config_types.specs.declared.fields.Position.{Position}
pub use Rattle.config_types.specs.Askable.{greatest_atom_id}
use Rattle.field_select.specs.declared.leaf.LeafPath.{LeafPath}
use Rattle.field_select.specs.declared.leaf.FieldSet.{FieldSet}
use Rattle.field_select.specs.declared.error.SelectError.{SelectError}
use Rattle.field_select.specs.declared.error.SelectError.TheVariants.{BadForm, Memory}
use Rattle.field_select.specs.FieldSets.{greatest_field, has_repeat, may_be_picked}

-- the number of a tree's top
abbrev pub number_in : FieldMatcher → Option ℤ
number_in tree = (out-FieldMatcher tree).field

-- the position of a tree's top
abbrev pub position_in : FieldMatcher → Option Position
position_in tree = (out-FieldMatcher tree).position

-- the trees below a tree's top
abbrev pub child_trees : FieldMatcher → List FieldMatcher
child_trees tree = (out-FieldMatcher tree).children

-- whether a number is there and from 1 to this one
abbrev pub is_number_to : ℕ → Option ℤ → Bool
is_number_to most (Some (pos n)) = nat_lt 0 n && nat_le n most
is_number_to most _ = false

-- the number that is there, or 0
abbrev pub number_or_zero : Option ℤ → ℕ
number_or_zero (Some (pos n)) = n
number_or_zero _ = 0

-- a field of a message: it has a number, no position and no children
abbrev pub is_message_field : FieldMatcher → Bool
is_message_field tree =
    is_number_to greatest_field (number_in tree) && (is_none (position_in tree) && (length (child_trees tree) == 0))

-- a field of an atom: it has a number and no position or FIRST, LAST or ALL, and its children are fields of a message
abbrev pub is_atom_field : FieldMatcher → Bool
is_atom_field tree =
    is_number_to greatest_field (number_in tree)
    && (may_be_picked (position_in tree) && list_all is_message_field (child_trees tree))

-- the leaf at a field of an atom, and at this field of a message there, or 0 for none
abbrev pub path_at : FieldMatcher → ℕ → LeafPath
path_at tree sub = record { field = number_or_zero (number_in tree); position = position_in tree; sub = sub }

-- the leaf at this field of a message at that field of an atom
abbrev pub path_in_message : FieldMatcher → FieldMatcher → LeafPath
path_in_message tree child = path_at tree (number_or_zero (number_in child))

-- a field of an atom without children is a leaf; else each of its children is one
abbrev pub field_leaves : FieldMatcher → List LeafPath
field_leaves tree =
    if length (child_trees tree) == 0 then path_at tree 0 ∷ [] else map (path_in_message tree) (child_trees tree)

-- the leaves of a tree, in their order
abbrev pub leaves_of : FieldMatcher → List LeafPath
leaves_of tree = flat_map field_leaves (child_trees tree)

-- at the top stands the id of an atom without a position, below it stand fields of the atom, and no leaf comes twice
abbrev pub is_well_formed : FieldMatcher → Bool
is_well_formed tree =
    is_number_to greatest_atom_id (number_in tree) && (is_none (position_in tree)
    && (list_all is_atom_field (child_trees tree) && not (has_repeat (leaves_of tree))))

-- the set that a well-formed tree means
abbrev pub set_of : FieldMatcher → FieldSet
set_of tree = record { atom_id = number_or_zero (number_in tree); leaves = leaves_of tree }

-- the call answers what is wanted where the form is good, and else says that it is bad; or memory is wanting
abbrev pub GivesForm : {T : Type 0} → Result T SelectError → Bool → T → Type 0
GivesForm (Ok given) is_good wanted = (is_good ≡ true) × (given ≡ wanted)
GivesForm (Err BadForm) is_good wanted = is_good ≡ false
GivesForm (Err Memory) is_good wanted = Unit {0}

-- the call adds these leaves after the old ones where the form is good, and else says that it is bad; or memory is
-- wanting
abbrev pub AddsLeaves : Result Unit SelectError → Bool → List LeafPath → List LeafPath → List LeafPath → Type 0
AddsLeaves (Ok _) is_good old more new = (is_good ≡ true) × (new ≡ old ++ more)
AddsLeaves (Err BadForm) is_good old more new = is_good ≡ false
AddsLeaves (Err Memory) is_good old more new = Unit {0}
