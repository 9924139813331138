-- Lemmas on specs/WellFormed.antt: the leaves of a well-formed tree are those of a set.
use Rattle.std.proofs.Common.{◌≡◌, ℕ, ℤ, pos, ◌≤◌, ◌==◌, cond, Bool, true, false, not, ◌&&◌, List, [], ◌∷◌, length, map, Option, Some, is_none, All, IfOk, Result, Ok, Err, refl, sym, subst, arith}
use Rattle.std.specs.List.{flat_map, list_all}
use Rattle.std.proofs.lemmas.List.Elements.{All-append, All-cons}
use Rattle.config_types.specs.declared.fields.FieldMatcher.{FieldMatcher}
use Rattle.field_select.specs.declared.leaf.FieldSet.{FieldSet}
use Rattle.field_select.specs.declared.error.SelectError.{SelectError}
use Rattle.field_select.proofs.RepeatLemmas.{All-none, all_apart}
use Rattle.field_select.specs.FieldSets.{greatest_field, may_be_picked, IsLeaf, IsFieldSet}
use Rattle.field_select.specs.WellFormed.{greatest_atom_id, is_number_to, number_or_zero, number_in, position_in, child_trees, is_message_field, is_atom_field, path_at, path_in_message, field_leaves, leaves_of, is_well_formed, set_of, GivesForm}

-- both tests hold
first_holds : (a b : Bool) → (a && b) ≡ true → a ≡ true
first_holds true b both = refl
first_holds false b both = both

second_holds : (a b : Bool) → (a && b) ≡ true → b ≡ true
second_holds true b both = both
second_holds false b both = cc

-- a number that is from 1 to 127
in_range : (number : Option ℤ) → is_number_to greatest_field number ≡ true
    → (1 ≤ number_or_zero number) × (number_or_zero number ≤ greatest_field)
in_range (Some (pos n)) is = grind arith
in_range _ is = cc

-- the leaf at a field of an atom
path_is_leaf : (tree : FieldMatcher) (sub : ℕ) → is_atom_field tree ≡ true → sub ≤ greatest_field
    → IsLeaf (path_at tree sub)
path_is_leaf tree sub is within =
    let number = in_range (number_in tree) (first_holds _ _ is) in
    record {
      field = number;
      sub = within;
      position =
          first_holds _ _ (second_holds (is_number_to greatest_field (number_in tree)) _ is);
    }

-- the leaves at the fields of a message
message_leaves : (tree : FieldMatcher) (children : List FieldMatcher) → is_atom_field tree ≡ true
    → list_all is_message_field children ≡ true → All IsLeaf (map (path_in_message tree) children)
message_leaves tree [] is each = All-none IsLeaf
message_leaves tree (child ∷ more) is each =
    let number = in_range (number_in child) (first_holds _ _ (first_holds (is_message_field child) _ each)) in
    All-cons IsLeaf (path_in_message tree child) (map (path_in_message tree) more)
    (path_is_leaf tree (number_or_zero (number_in child)) is number.1)
    (message_leaves tree more is (second_holds (is_message_field child) _ each))

-- the leaves at a field of an atom, with children or without
leaves_by : (childless : Bool) (tree : FieldMatcher) → is_atom_field tree ≡ true
    → All IsLeaf (cond childless (path_at tree 0 ∷ []) (map (path_in_message tree) (child_trees tree)))
leaves_by true tree is = All-cons IsLeaf (path_at tree 0) [] (path_is_leaf tree 0 is (omega arith)) (All-none IsLeaf)
leaves_by false tree is =
    message_leaves tree (child_trees tree) is
    (second_holds (may_be_picked (position_in tree)) _
    (second_holds (is_number_to greatest_field (number_in tree)) _ is))

leaves_are : (trees : List FieldMatcher) → list_all is_atom_field trees ≡ true
    → All IsLeaf (flat_map field_leaves trees)
leaves_are [] each = All-none IsLeaf
leaves_are (tree ∷ more) each =
    All-append IsLeaf (field_leaves tree) (flat_map field_leaves more)
    (leaves_by (length (child_trees tree) == 0) tree (first_holds (is_atom_field tree) _ each))
    (leaves_are more (second_holds (is_atom_field tree) _ each))

not_false : (a : Bool) → not a ≡ true → a ≡ false
not_false true is = sym is
not_false false is = refl

set_is : (tree : FieldMatcher) → is_well_formed tree ≡ true → IsFieldSet (set_of tree)
set_is tree good =
    let below = second_holds (is_none (position_in tree)) _
    (second_holds (is_number_to greatest_atom_id (number_in tree)) _ good) in
    record {
      each = leaves_are (child_trees tree) (first_holds (list_all is_atom_field (child_trees tree)) _ below);
      once = all_apart (leaves_of tree) (not_false _
          (second_holds (list_all is_atom_field (child_trees tree)) _ below));
    }

-- for `field_set`: what is answered keeps what every set of leaves keeps
pub answer_is_set : (result : Result FieldSet SelectError) (tree : FieldMatcher)
    → GivesForm result (is_well_formed tree) (set_of tree) → IfOk result IsFieldSet
answer_is_set (Ok set) tree gives = subst IsFieldSet (sym gives.1) (set_is tree gives.0)
answer_is_set (Err error) tree gives = tt
