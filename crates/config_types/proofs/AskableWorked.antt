-- Worked rows of `specs/Askable.antt`, for its readers.
use Rattle.std.proofs.Common.{◌≡◌, ℤ, pos, true, false, List, [], ◌∷◌, Option, Some, None, refl}
use Rattle.config_types.specs.declared.fields.Position.{Position}
use Rattle.config_types.specs.declared.fields.Position.TheVariants.{First}
use Rattle.config_types.specs.declared.matcher.SimpleMatcher.{SimpleMatcher}
use Rattle.config_types.specs.declared.matcher.FieldTest.{FieldTest}
use Rattle.config_types.specs.declared.matcher.Test.TheVariants.{EqInt, Tuple}
use Rattle.config_types.specs.declared.matcher.Test.TheViews.{out-Test}
use Rattle.config_types.specs.declared.matcher.Test.TheBlock.{shown-the_row-FieldTest-0}
use Rattle.config_types.specs.Askable.{is_askable}
use denote.Hole.Carrier.{out, shown, hidden}

-- a test that a field is 3
abbrev is_3 : Option ℤ → Option Position → FieldTest
is_3 field position = record { field = field; position = position; test = Some (EqInt (pos 3)) }

-- these tests of the first message at field 1
abbrev in_first_message : List FieldTest → FieldTest
in_first_message tests = record { field = Some (pos 1); position = Some First; test = Some (Tuple tests) }

-- a matcher of the atoms of id 5
abbrev of_atom_5 : List FieldTest → SimpleMatcher
of_atom_5 tests = record { atom_id = Some (pos 5); tests = tests }

-- a matcher may ask for a value, and for a message by its fields
value_and_message :
    is_askable (of_atom_5 (is_3 (Some (pos 127)) (Some First) ∷ in_first_message (is_3 (Some (pos 2)) None ∷ []) ∷ []))
    ≡ true
unfolding out-Test out shown-the_row-FieldTest-0 shown hidden
value_and_message = refl

-- a matcher without an atom may not be asked
no_atom : is_askable (record { atom_id = None; tests = [] }) ≡ false
no_atom = refl

-- a field above 127 may not be asked
field_128 : is_askable (of_atom_5 (is_3 (Some (pos 128)) None ∷ [])) ≡ false
field_128 = refl

-- inside a message there is no position
position_inside : is_askable (of_atom_5 (in_first_message (is_3 (Some (pos 2)) (Some First) ∷ []) ∷ [])) ≡ false
unfolding out-Test out shown-the_row-FieldTest-0 shown hidden
position_inside = refl

-- inside a message there is no further message
tuple_inside : is_askable (of_atom_5 (in_first_message (in_first_message [] ∷ []) ∷ [])) ≡ false
unfolding out-Test out shown-the_row-FieldTest-0 shown hidden
tuple_inside = refl
