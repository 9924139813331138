-- Worked rows of `specs/AtomTests.antt`, `specs/ValueTests.antt` and `specs/Combined.antt`, for their readers.
use Rattle.std.proofs.Common.{◌≡◌, ℕ, ℤ, pos, negsuc, true, false, List, [], ◌∷◌, Option, Some, None, refl}
use Rattle.atom_record.specs.declared.value.Value.TheVariants as values
use Rattle.atom_record.specs.declared.atom.AtomField.{AtomField}
use Rattle.atom_record.specs.declared.atom.Atom.{Atom}
use Rattle.config_types.specs.declared.fields.Position.{Position}
use Rattle.config_types.specs.declared.fields.Position.TheVariants.{First, Last, Any, All}
use Rattle.config_types.specs.declared.matcher.SimpleMatcher.{SimpleMatcher}
use Rattle.config_types.specs.declared.matcher.FieldTest.{FieldTest}
use Rattle.config_types.specs.declared.matcher.Operation.TheVariants.{Nand, Nor}
use Rattle.config_types.specs.declared.matcher.Test.{Test}
use Rattle.config_types.specs.declared.matcher.Test.TheVariants as tests
use Rattle.config_types.specs.declared.matcher.Test.TheOpen.{EqBool, EqStr, GtInt, NoneOf}
use Rattle.config_types.specs.declared.matcher.Test.TheViews.{out-Test}
use Rattle.config_types.specs.declared.matcher.Test.TheBlock.{shown-the_row-FieldTest-0}
use Rattle.matcher_eval.specs.ValueTests.{value_passes}
use Rattle.matcher_eval.specs.AtomTests.{matcher_holds}
use Rattle.matcher_eval.specs.Combined.{combined_truth}
use denote.Hole.Carrier.{out, shown, hidden}

-- a truth is a truth, and a number that isn't 0 stands for true
truths_pass : value_passes (EqBool true) (values.Bool true) ≡ true
truths_pass = refl

numbers_are_truths : value_passes (EqBool true) (values.Int (negsuc 0)) ≡ true
numbers_are_truths = refl

zero_is_false : value_passes (EqBool true) (values.Long (pos 0)) ≡ false
zero_is_false = refl

-- a truth is no number
a_truth_is_no_number : value_passes (GtInt (pos 0)) (values.Bool true) ≡ false
a_truth_is_no_number = refl

-- raw bytes are no text, for a list as for one text
raw_is_no_text : value_passes (EqStr (97 ∷ [])) (values.Raw (97 ∷ [])) ≡ false
raw_is_no_text = refl

raw_is_not_outside : value_passes (NoneOf []) (values.Raw (97 ∷ [])) ≡ false
raw_is_not_outside = refl

a_text_is_outside_of_nothing : value_passes (NoneOf []) (values.Str (97 ∷ [])) ≡ true
a_text_is_outside_of_nothing = refl

-- an entry with an Int
abbrev entry : ℕ → ℕ → ℕ → ℤ → AtomField
entry field index sub n = record { field = field; index = index; sub = sub; flags = 0; value = values.Int n }

abbrev atom_of : List AtomField → Atom
atom_of entries = record { id = 5; fields = entries }

-- a matcher of the atoms of id 5, with one test of field 1
abbrev on_field_1 : Option Position → Test → SimpleMatcher
on_field_1 position condition = record {
  atom_id = Some (pos 5);
  tests = (record { field = Some (pos 1); position = position; test = Some condition }) ∷ [];
}

-- without a position index 0 is asked, where an entry of a message is none of the field itself
value_at_0 :
    matcher_holds (on_field_1 None (tests.EqInt (pos 7))) (atom_of (entry 1 0 0 (pos 7) ∷ entry 1 1 0 (pos 8) ∷ []))
    ≡ true
unfolding out-Test out shown-the_row-FieldTest-0 shown hidden
value_at_0 = refl

value_in_a_message :
    matcher_holds (on_field_1 None (tests.EqInt (pos 7))) (atom_of (entry 1 0 1 (pos 7) ∷ [])) ≡ false
unfolding out-Test out shown-the_row-FieldTest-0 shown hidden
value_in_a_message = refl

-- ALL wants an index, and an entry that passes at each
all_without_an_index :
    matcher_holds (on_field_1 (Some All) (tests.EqInt (pos 7))) (atom_of (entry 1 0 0 (pos 7) ∷ [])) ≡ false
unfolding out-Test out shown-the_row-FieldTest-0 shown hidden
all_without_an_index = refl

all_with_a_message_beside :
    matcher_holds (on_field_1 (Some All) (tests.EqInt (pos 7)))
    (atom_of (entry 1 1 0 (pos 7) ∷ entry 1 2 3 (pos 7) ∷ []))
    ≡ false
unfolding out-Test out shown-the_row-FieldTest-0 shown hidden
all_with_a_message_beside = refl

-- FIRST and LAST pick an index, and then look for the entry
last_is_a_message :
    matcher_holds (on_field_1 (Some Last) (tests.EqInt (pos 7)))
    (atom_of (entry 1 1 0 (pos 7) ∷ entry 1 2 3 (pos 7) ∷ []))
    ≡ false
unfolding out-Test out shown-the_row-FieldTest-0 shown hidden
last_is_a_message = refl

first_of_two :
    matcher_holds (on_field_1 (Some First) (tests.EqInt (pos 7)))
    (atom_of (entry 1 1 0 (pos 7) ∷ entry 1 2 0 (pos 8) ∷ []))
    ≡ true
unfolding out-Test out shown-the_row-FieldTest-0 shown hidden
first_of_two = refl

-- whatever the order of the entries, FIRST picks the least index and LAST the greatest
first_is_least :
    matcher_holds (on_field_1 (Some First) (tests.EqInt (pos 7)))
    (atom_of (entry 1 2 0 (pos 8) ∷ entry 1 1 0 (pos 7) ∷ []))
    ≡ true
unfolding out-Test out shown-the_row-FieldTest-0 shown hidden
first_is_least = refl

last_is_greatest :
    matcher_holds (on_field_1 (Some Last) (tests.EqInt (pos 7)))
    (atom_of (entry 1 2 0 (pos 8) ∷ entry 1 1 0 (pos 7) ∷ []))
    ≡ false
unfolding out-Test out shown-the_row-FieldTest-0 shown hidden
last_is_greatest = refl

-- a test of a tuple that a field inside a message is 7
abbrev inner_7 : ℕ → FieldTest
inner_7 sub = record { field = Some (pos sub); position = None; test = Some (tests.EqInt (pos 7)) }

-- a tuple wants both at one index
both_at_one_index :
    matcher_holds (on_field_1 (Some Any) (tests.Tuple (inner_7 1 ∷ inner_7 2 ∷ [])))
    (atom_of (entry 1 1 1 (pos 7) ∷ entry 1 1 2 (pos 7) ∷ [])) ≡ true
unfolding out-Test out shown-the_row-FieldTest-0 shown hidden
both_at_one_index = refl

both_at_two_indexes :
    matcher_holds (on_field_1 (Some Any) (tests.Tuple (inner_7 1 ∷ inner_7 2 ∷ [])))
    (atom_of (entry 1 1 1 (pos 7) ∷ entry 1 2 2 (pos 7) ∷ [])) ≡ false
unfolding out-Test out shown-the_row-FieldTest-0 shown hidden
both_at_two_indexes = refl

-- the empty tuple holds at index 0, where no entry has to be, and at each index that there is
empty_at_0 : matcher_holds (on_field_1 None (tests.Tuple [])) (atom_of []) ≡ true
unfolding out-Test out shown-the_row-FieldTest-0 shown hidden
empty_at_0 = refl

empty_at_none : matcher_holds (on_field_1 (Some Any) (tests.Tuple [])) (atom_of []) ≡ false
unfolding out-Test out shown-the_row-FieldTest-0 shown hidden
empty_at_none = refl

-- an atom of another id passes nothing, and one of the id passes where there is no test
another_atom : matcher_holds (record { atom_id = Some (pos 6); tests = [] }) (atom_of []) ≡ false
another_atom = refl

the_atom : matcher_holds (record { atom_id = Some (pos 5); tests = [] }) (atom_of []) ≡ true
the_atom = refl

-- NAND is false where each child is true, and NOR where some child is
nand_of_two : combined_truth Nand (true ∷ false ∷ []) ≡ true
nand_of_two = refl

nor_of_two : combined_truth Nor (true ∷ false ∷ []) ≡ false
nor_of_two = refl
