-- What a condition asks of one value. What asks for a message asks for no value.
use Rattle.std.specs.Prelude.{ℕ, ℤ, pos, Bool, true, false, not, ◌==◌, List, int_lt, int_le}
use Rattle.std.specs.Ordering.{int_eq}
use Rattle.std.specs.List.{list_any}
use Rattle.std.specs.Cmp.Lexicographic.{pointwise}
use Rattle.atom_record.specs.declared.value.Value.{Value}
use Rattle.atom_record.specs.declared.value.Value.TheVariants as values
use Rattle.config_types.specs.declared.matcher.FieldTest.{FieldTest}
use Rattle.config_types.specs.declared.matcher.Test.{Test}
use Rattle.config_types.specs.declared.matcher.Test.TheOpen.{Test-F, EqBool, EqStr, EqInt, LtInt, GtInt, LteInt, GteInt, Tuple, AnyOf, NoneOf}

-- both are true, or both are false
abbrev pub is_same_truth : Bool → Bool → Bool
is_same_truth true truth = truth
is_same_truth false truth = not truth

-- a number stands for false where it is 0, and else for true
abbrev pub stands_for_true : ℤ → Bool
stands_for_true number = not (int_eq number (pos 0))

-- both texts have the same bytes
abbrev pub is_same_text : List ℕ → List ℕ → Bool
is_same_text = pointwise (λ x y. x == y)

-- some text of the list is this one
abbrev pub is_listed : List (List ℕ) → List ℕ → Bool
is_listed texts text = list_any (λ listed. is_same_text listed text) texts

-- a truth, or a number that stands for one, is the truth that is wanted
abbrev pub is_truth_wanted : Bool → Value → Bool
is_truth_wanted wanted (values.Int number) = is_same_truth (stands_for_true number) wanted
is_truth_wanted wanted (values.Long number) = is_same_truth (stands_for_true number) wanted
is_truth_wanted wanted (values.Bool truth) = is_same_truth truth wanted
is_truth_wanted wanted _ = false

-- a number passes, and what isn't a number doesn't
abbrev pub is_number_that : (ℤ → Bool) → Value → Bool
is_number_that passes (values.Int number) = passes number
is_number_that passes (values.Long number) = passes number
is_number_that passes _ = false

-- a text passes, and what isn't a text doesn't: a string of raw bytes is no text
abbrev pub is_text_that : (List ℕ → Bool) → Value → Bool
is_text_that passes (values.Str text) = passes text
is_text_that passes _ = false

-- the value passes the condition
abbrev pub value_passes : Test-F Test FieldTest → Value → Bool
value_passes (EqBool wanted) value = is_truth_wanted wanted value
value_passes (EqStr wanted) value = is_text_that (λ text. is_same_text text wanted) value
value_passes (EqInt bound) value = is_number_that (λ number. int_eq number bound) value
value_passes (LtInt bound) value = is_number_that (λ number. int_lt number bound) value
value_passes (GtInt bound) value = is_number_that (λ number. int_lt bound number) value
value_passes (LteInt bound) value = is_number_that (λ number. int_le number bound) value
value_passes (GteInt bound) value = is_number_that (λ number. int_le bound number) value
value_passes (Tuple tests) value = false
value_passes (AnyOf texts) value = is_text_that (is_listed texts) value
value_passes (NoneOf texts) value = is_text_that (λ text. not (is_listed texts text)) value
