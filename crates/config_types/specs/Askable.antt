-- Which simple matchers may be asked of an atom: those of which nothing is missing or out of range.
use Rattle.std.specs.Prelude.{ℕ, ℤ, pos, nat_le, Bool, true, false, ◌&&◌, Option, Some, None, is_none, IsTrue}
use Rattle.std.specs.List.{list_all}
use Rattle.config_types.specs.declared.matcher.SimpleMatcher.{SimpleMatcher}
use Rattle.config_types.specs.declared.matcher.FieldTest.{FieldTest}
use Rattle.config_types.specs.declared.matcher.Test.{Test}
use Rattle.config_types.specs.declared.matcher.Test.TheOpen.{Test-F, Tuple}
use Rattle.config_types.specs.declared.matcher.Test.TheViews.{out-Test}

-- the greatest id of an atom
abbrev pub greatest_atom_id : ℕ
greatest_atom_id = 2147483647

-- the greatest number of a field of an atom, or of a message in it
abbrev pub greatest_field : ℕ
greatest_field = 127

-- a number is set, and is from 1 to this
abbrev pub is_set_up_to : ℕ → Option ℤ → Bool
is_set_up_to greatest (Some (pos number)) = nat_le 1 number && nat_le number greatest
is_set_up_to greatest _ = false

-- a condition asks for a value, and not for a message
abbrev pub asks_no_tuple : Test-F Test FieldTest → Bool
asks_no_tuple (Tuple tests) = false
asks_no_tuple _ = true

-- a condition is set, and asks for a value
abbrev pub asks_a_value : Option Test → Bool
asks_a_value None = false
asks_a_value (Some test) = asks_no_tuple (out-Test test)

-- a test inside a tuple names a field and has a condition, and it has neither a position nor a tuple
abbrev pub is_askable_inside : FieldTest → Bool
is_askable_inside test = is_set_up_to greatest_field test.field && (is_none test.position && asks_a_value test.test)

-- of a tuple each test may be asked; what asks for a value may always be asked
abbrev pub is_askable_condition : Test-F Test FieldTest → Bool
is_askable_condition (Tuple tests) = list_all is_askable_inside tests
is_askable_condition _ = true

-- a condition is set, and may be asked
abbrev pub has_askable_condition : Option Test → Bool
has_askable_condition None = false
has_askable_condition (Some test) = is_askable_condition (out-Test test)

-- a test of a field of an atom names the field, and has a condition that may be asked
abbrev pub is_askable_test : FieldTest → Bool
is_askable_test test = is_set_up_to greatest_field test.field && has_askable_condition test.test

-- a simple matcher names its atom, and each of its tests may be asked
abbrev pub is_askable : SimpleMatcher → Bool
is_askable matcher = is_set_up_to greatest_atom_id matcher.atom_id && list_all is_askable_test matcher.tests

-- a simple matcher may be asked
abbrev pub IsAskable : SimpleMatcher → Type 0
IsAskable matcher = IsTrue (is_askable matcher)
