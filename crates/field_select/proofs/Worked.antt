-- Worked sets of fields, leaf values, keys and filtered atoms, by computing.
use Rattle.std.proofs.Common.{◌≡◌, ℕ, ℤ, pos, true, false, List, [], ◌∷◌, Option, Some, None, refl, rules}
use Rattle.config_types.specs.declared.fields.FieldMatcher.{FieldMatcher}
use Rattle.config_types.specs.declared.fields.FieldMatcher.TheViews.{out-FieldMatcher, roll-FieldMatcher, out-roll-FieldMatcher}
use Rattle.config_types.specs.declared.fields.Position.{Position}
use Rattle.config_types.specs.declared.fields.Position.TheVariants.{First, Last, Any, All}
use Rattle.atom_record.specs.declared.value.Value.{Value}
use Rattle.atom_record.specs.declared.value.Value.TheVariants.{Int}
use Rattle.atom_record.specs.declared.value.Leaf.TheVariants.{Missing, One, Many}
use Rattle.atom_record.specs.declared.atom.Atom.{Atom}
use Rattle.atom_record.specs.declared.atom.AtomField.{AtomField}
use Rattle.field_select.specs.declared.leaf.LeafPath.{LeafPath}
use Rattle.field_select.specs.declared.leaf.FieldSet.{FieldSet}
use Rattle.field_select.specs.FieldSets.{has_no_all}
use Rattle.field_select.specs.WellFormed.{is_well_formed, set_of}
use Rattle.field_select.specs.LeafValues.{key_of, filtered}

-- a tree of field numbers, and one without position or children
abbrev tree : ℕ → Option Position → List FieldMatcher → FieldMatcher
tree number position children = roll-FieldMatcher
    (record { field = Some (pos number); position = position; children = children })

-- the parts of a tree that is made of them
parts_of : (number : Option ℤ) (position : Option Position) (children : List FieldMatcher)
    → out-FieldMatcher (roll-FieldMatcher (record { field = number; position = position; children = children }))
    ≡ record { field = number; position = position; children = children }
parts_of number position children = out-roll-FieldMatcher
    (record { field = number; position = position; children = children })

abbrev plain : ℕ → FieldMatcher
plain number = tree number None []

abbrev leaf : ℕ → Option Position → ℕ → LeafPath
leaf field position sub = record { field = field; position = position; sub = sub }

abbrev five : List LeafPath → FieldSet
five leaves = record { atom_id = 5; leaves = leaves }

-- the atom 5 with its field 1, the last entry of field 2, and fields 1 and 2 of the first message at field 3
abbrev three_fields : FieldMatcher
three_fields = tree 5 None (plain 1 ∷ tree 2 (Some Last) [] ∷ tree 3 (Some First) (plain 1 ∷ plain 2 ∷ []) ∷ [])

has_four_leaves : set_of three_fields ≡ five
    (leaf 1 None 0 ∷ leaf 2 (Some Last) 0 ∷ leaf 3 (Some First) 1 ∷ leaf 3 (Some First) 2 ∷ [])
has_four_leaves = search (rules, parts_of)

is_formed : is_well_formed three_fields ≡ true
is_formed = search (rules, parts_of)

-- an atom's id alone has no leaves
no_leaves : set_of (plain 5) ≡ five []
no_leaves = search (rules, parts_of)

no_leaves_formed : is_well_formed (plain 5) ≡ true
no_leaves_formed = search (rules, parts_of)

-- a leaf with another position is another leaf
other_position : is_well_formed (tree 5 None (tree 2 (Some First) [] ∷ tree 2 (Some Last) [] ∷ [])) ≡ true
other_position = search (rules, parts_of)

-- a leaf comes twice, in two fields or in one message
comes_twice : is_well_formed (tree 5 None (plain 1 ∷ plain 2 ∷ plain 1 ∷ [])) ≡ false
comes_twice = search (rules, parts_of)

twice_in_a_message : is_well_formed (tree 5 None (tree 3 (Some First) (plain 1 ∷ plain 1 ∷ []) ∷ [])) ≡ false
twice_in_a_message = search (rules, parts_of)

-- no atom's id; a position at the top; a field past the last; ANY; a position or a child in a message
no_atom : is_well_formed (plain 0) ≡ false
no_atom = search (rules, parts_of)

great_atom : is_well_formed (plain 2147483648) ≡ false
great_atom = search (rules, parts_of)

top_position : is_well_formed (tree 5 (Some First) []) ≡ false
top_position = search (rules, parts_of)

field_past_the_last : is_well_formed (tree 5 None (plain 128 ∷ [])) ≡ false
field_past_the_last = search (rules, parts_of)

any_in_a_leaf : is_well_formed (tree 5 None (tree 2 (Some Any) [] ∷ [])) ≡ false
any_in_a_leaf = search (rules, parts_of)

position_in_a_message : is_well_formed (tree 5 None (tree 3 None (tree 1 (Some First) [] ∷ []) ∷ [])) ≡ false
position_in_a_message = search (rules, parts_of)

child_in_a_message : is_well_formed (tree 5 None (tree 3 None (tree 1 None (plain 1 ∷ []) ∷ []) ∷ [])) ≡ false
child_in_a_message = search (rules, parts_of)

abbrev entry : ℕ → ℕ → ℕ → ℕ → AtomField
entry field index sub number = record { field = field; index = index; sub = sub; flags = 0; value = Int (pos number) }

-- an atom with a field, a repeated field, and a repeated message whose first has no field 2 and whose last no field 1
abbrev atom : Atom
atom = record {
  id = 5;
  fields =
      entry 1 0 0 7 ∷ entry 2 1 0 10 ∷ entry 2 2 0 20 ∷ entry 2 3 0 30
      ∷ entry 3 1 1 41 ∷ entry 3 2 1 42 ∷ entry 3 2 2 52 ∷ entry 3 3 2 53 ∷ [];
}

abbrev int : ℕ → Value
int number = Int (pos number)

-- each position on a field that isn't repeated, and on one that is
plain_leaves : key_of (five (leaf 1 None 0 ∷ leaf 1 (Some First) 0 ∷ leaf 1 (Some All) 0 ∷ leaf 2 None 0 ∷ leaf 4 None 0
    ∷ [])) atom
    ≡ One (int 7) ∷ Missing ∷ Missing ∷ Missing ∷ Missing ∷ []
plain_leaves = refl

repeated_leaves : key_of (five (leaf 2 (Some First) 0 ∷ leaf 2 (Some Last) 0 ∷ leaf 2 (Some All) 0 ∷ [])) atom
    ≡ One (int 10) ∷ One (int 30) ∷ Many (int 10 ∷ int 20 ∷ int 30 ∷ []) ∷ []
repeated_leaves = refl

-- the index is picked first: where it lacks the field of the message, nothing is there
message_leaves : key_of (five (leaf 3 (Some First) 1 ∷ leaf 3 (Some First) 2 ∷ leaf 3 (Some Last) 1
    ∷ leaf 3 (Some Last) 2 ∷ [])) atom
    ≡ One (int 41) ∷ Missing ∷ Missing ∷ One (int 53) ∷ []
message_leaves = refl

-- with ALL the indexes that lack it are passed over
all_of_a_message : key_of (five (leaf 3 (Some All) 1 ∷ leaf 3 (Some All) 2 ∷ leaf 3 (Some All) 3 ∷ [])) atom
    ≡ Many (int 41 ∷ int 42 ∷ []) ∷ Many (int 52 ∷ int 53 ∷ []) ∷ Missing ∷ []
all_of_a_message = refl

-- an atom of another id
other_atom : key_of (record { atom_id = 6; leaves = leaf 1 None 0 ∷ leaf 2 (Some All) 0 ∷ [] }) atom ≡ Missing ∷ Missing
    ∷ []
other_atom = refl

empty_key : key_of (five []) atom ≡ []
empty_key = refl

-- the entries that some leaf picks stand in the atom's order, each once
filtered_entries : (filtered (five (leaf 3 (Some All) 2 ∷ leaf 2 (Some Last) 0 ∷ leaf 2 (Some All) 0
    ∷ leaf 3 (Some First) 2 ∷ [])) atom).fields
    ≡ entry 2 1 0 10 ∷ entry 2 2 0 20 ∷ entry 2 3 0 30 ∷ entry 3 2 2 52 ∷ entry 3 3 2 53 ∷ []
filtered_entries = refl

filtered_ends : (filtered (five (leaf 2 (Some Last) 0 ∷ leaf 3 (Some First) 1 ∷ [])) atom).fields ≡ entry 2 3 0 30
    ∷ entry 3 1 1 41 ∷ []
filtered_ends = refl

filtered_other : filtered (record { atom_id = 6; leaves = leaf 1 None 0 ∷ [] }) atom ≡ record { id = 5; fields = [] }
filtered_other = refl

-- a set with ALL, and one without
with_all : has_no_all (five (leaf 1 None 0 ∷ leaf 2 (Some All) 0 ∷ [])) ≡ false
with_all = refl

without_all : has_no_all (five (leaf 1 None 0 ∷ leaf 2 (Some Last) 0 ∷ [])) ≡ true
without_all = refl
