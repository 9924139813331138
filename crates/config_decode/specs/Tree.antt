-- Matchers, predicates and states, from the records of their messages.
use Rattle.std.specs.Prelude.{ℕ, zero, suc, Bool, true, false, ◌==◌, List, [], ◌∷◌, map, Option, Some, None, if◌then◌else◌}
use Rattle.std.specs.Option.{option_map, unwrap_or}
use Rattle.proto_wire.specs.Fields.{FieldOf}
use Rattle.config_types.specs.declared.fields.FieldMatcher.{FieldMatcher}
use Rattle.config_types.specs.declared.fields.FieldMatcher.TheViews.{roll-FieldMatcher}
use Rattle.config_types.specs.declared.matcher.MatcherDef.{MatcherDef}
use Rattle.config_types.specs.declared.matcher.MatcherBody.{MatcherBody}
use Rattle.config_types.specs.declared.matcher.MatcherBody.TheVariants as matcher
use Rattle.config_types.specs.declared.matcher.Combo.{Combo}
use Rattle.config_types.specs.declared.matcher.SimpleMatcher.{SimpleMatcher}
use Rattle.config_types.specs.declared.matcher.FieldTest.{FieldTest}
use Rattle.config_types.specs.declared.matcher.Test.{Test}
use Rattle.config_types.specs.declared.matcher.Test.TheVariants.{EqBool, EqStr, EqInt, LtInt, GtInt, LteInt, GteInt, Tuple, AnyOf, NoneOf}
use Rattle.config_types.specs.declared.predicate.PredicateDef.{PredicateDef}
use Rattle.config_types.specs.declared.predicate.PredicateBody.{PredicateBody}
use Rattle.config_types.specs.declared.predicate.PredicateBody.TheVariants as predicate
use Rattle.config_types.specs.declared.predicate.SimplePredicate.{SimplePredicate}
use Rattle.config_types.specs.declared.state.StateDef.{StateDef}
use Rattle.config_types.specs.declared.state.GroupDef.{GroupDef}
use Rattle.config_decode.specs.declared.scalar.InitialValue.{InitialValue}
use Rattle.config_decode.specs.declared.scalar.InitialValue.TheVariants as initial
use Rattle.config_decode.specs.FieldNumbers.{matcher_id, matcher_simple, matcher_combination, combination_operation, combination_operand, simple_matcher_atom_id, simple_matcher_test, test_field, test_position, test_eq_bool, test_eq_string, test_eq_int, test_lt_int, test_gt_int, test_lte_int, test_gte_int, test_matches_tuple, test_eq_any_string, test_neq_any_string, tuple_test, strings_str_value, predicate_id, predicate_simple, predicate_combination, simple_predicate_start, simple_predicate_stop, simple_predicate_count_nesting, simple_predicate_stop_all, simple_predicate_initial_value, simple_predicate_dimensions, leaf_field, leaf_position, leaf_child, state_id, state_atom_id, state_map, state_map_group, state_group_id, state_group_value, key_bound}
use Rattle.config_decode.specs.Profile.{position_of, operation_of, initial_value_of}
use Rattle.config_decode.specs.Walk.{most_levels}
use Rattle.config_decode.specs.Values.{last, int64_field, int32_field, bool_field, enum_field, payloads, int64_fields, int32_fields, messages, message, records_of_all, oneof_run, first_number}

-- a tree of field numbers, whose children are read from their messages by the first argument
abbrev pub field_matcher_with : (List (List FieldOf) → List FieldMatcher) → List FieldOf → FieldMatcher
field_matcher_with children fields =
    roll-FieldMatcher (record {
      field = int32_field leaf_field fields;
      position = enum_field position_of leaf_position fields;
      children = children (messages leaf_child fields);
    })

-- a tree in which so many may stand inside one another
unfoldable pub field_matcher_in : ℕ → List FieldOf → FieldMatcher
field_matcher_in zero = field_matcher_with (λ messages. [])
field_matcher_in (suc levels) = field_matcher_with (map (field_matcher_in levels))

-- the children, in a tree of so many levels
abbrev pub children_in : ℕ → List (List FieldOf) → List FieldMatcher
children_in zero messages = []
children_in (suc levels) messages = map (field_matcher_in levels) messages

-- a tree of field numbers
abbrev pub field_matcher_of : List FieldOf → FieldMatcher
field_matcher_of fields = field_matcher_in most_levels fields

-- the strings of all these payloads
abbrev pub strings_of : List (List ℕ) → List (List ℕ)
strings_of lists = payloads strings_str_value (records_of_all lists)

-- what is asked of a number or a truth value
abbrev pub number_test_of : ℕ → List FieldOf → Option Test
number_test_of number run =
    if number == test_eq_bool then option_map EqBool (bool_field test_eq_bool run)
    else if number == test_eq_int then option_map EqInt (int64_field test_eq_int run)
    else if number == test_lt_int then option_map LtInt (int64_field test_lt_int run)
    else if number == test_gt_int then option_map GtInt (int64_field test_gt_int run)
    else if number == test_lte_int then option_map LteInt (int64_field test_lte_int run)
    else if number == test_gte_int then option_map GteInt (int64_field test_gte_int run)
    else None

-- the messages of a tuple's tests
abbrev pub tuple_messages : List FieldOf → List (List FieldOf)
tuple_messages run = messages tuple_test (records_of_all (payloads test_matches_tuple run))

-- What is asked of a value, by the records of the member that was set last. The tests of a tuple are read from their
-- messages by the first argument.
abbrev pub test_with : (List (List FieldOf) → List FieldTest) → Option ℕ → List FieldOf → Option Test
test_with tests None run = None
test_with tests (Some number) run =
    if number == test_matches_tuple then Some (Tuple (tests (tuple_messages run)))
    else if number == test_eq_any_string then Some (AnyOf (strings_of (payloads test_eq_any_string run)))
    else if number == test_neq_any_string then Some (NoneOf (strings_of (payloads test_neq_any_string run)))
    else if number == test_eq_string then option_map EqStr (last (payloads test_eq_string run))
    else number_test_of number run

-- what is asked of a value that isn't a tuple, for a private clause
abbrev pub plain_test_of : ℕ → List FieldOf → Option Test
plain_test_of number run =
    if number == test_eq_any_string then Some (AnyOf (strings_of (payloads test_eq_any_string run)))
    else if number == test_neq_any_string then Some (NoneOf (strings_of (payloads test_neq_any_string run)))
    else if number == test_eq_string then option_map EqStr (last (payloads test_eq_string run))
    else number_test_of number run

-- what is asked, by the first of these records
abbrev pub test_of : (List (List FieldOf) → List FieldTest) → List FieldOf → Option Test
test_of tests run = test_with tests (first_number run) run

-- the members of a test's oneof
abbrev pub test_members : List ℕ
test_members =
    test_eq_bool ∷ test_eq_string ∷ test_eq_int ∷ test_lt_int ∷ test_gt_int ∷ test_lte_int ∷ test_gte_int
    ∷ test_matches_tuple ∷ test_eq_any_string ∷ test_neq_any_string ∷ []

-- a test of a field, whose tuple is read by the first argument
abbrev pub field_test_with : (List (List FieldOf) → List FieldTest) → List FieldOf → FieldTest
field_test_with tests fields =
    record {
      field = int32_field test_field fields;
      position = enum_field position_of test_position fields;
      test = test_of tests (oneof_run test_members fields);
    }

-- a test of a field, in which so many tuples may stand inside one another
unfoldable pub field_test_in : ℕ → List FieldOf → FieldTest
field_test_in zero = field_test_with (λ messages. [])
field_test_in (suc levels) = field_test_with (map (field_test_in levels))

-- the tests of a tuple, in a test of so many levels
abbrev pub tests_in : ℕ → List (List FieldOf) → List FieldTest
tests_in zero messages = []
tests_in (suc levels) messages = map (field_test_in levels) messages

-- a test of a field
abbrev pub field_test_of : List FieldOf → FieldTest
field_test_of fields = field_test_in most_levels fields

-- a matcher of the atoms of one id
abbrev pub simple_matcher_of : List FieldOf → SimpleMatcher
simple_matcher_of fields = record {
  atom_id = int32_field simple_matcher_atom_id fields;
  tests = map field_test_of (messages simple_matcher_test fields);
}

-- a combination, of matchers or of predicates
abbrev pub combo_of : List FieldOf → Combo
combo_of fields = record {
  op = enum_field operation_of combination_operation fields;
  children = int64_fields combination_operand fields;
}

-- what a matcher asks, by the number of its member that was set last
abbrev pub matcher_body_with : Option ℕ → List FieldOf → Option MatcherBody
matcher_body_with None run = None
matcher_body_with (Some number) run =
    if number == matcher_simple
    then Some (matcher.Simple (simple_matcher_of (records_of_all (payloads matcher_simple run))))
    else Some (matcher.Combo (combo_of (records_of_all (payloads matcher_combination run))))

-- by the records of the member that was set last
abbrev pub matcher_body_of : List FieldOf → Option MatcherBody
matcher_body_of run = matcher_body_with (first_number run) run

-- a matcher
abbrev pub matcher_of : List FieldOf → MatcherDef
matcher_of fields = record {
  id = int64_field matcher_id fields;
  body = matcher_body_of (oneof_run (matcher_simple ∷ matcher_combination ∷ []) fields);
}

-- whether a key that was never started is unknown, and not false
abbrev pub is_unknown : InitialValue → Bool
is_unknown initial.Unknown = true
is_unknown initial.False = false

-- a predicate that atoms start and stop: it counts starts, and is false at first, by default
abbrev pub simple_predicate_of : List FieldOf → SimplePredicate
simple_predicate_of fields = record {
  start = int64_field simple_predicate_start fields;
  stop = int64_field simple_predicate_stop fields;
  stop_all = int64_field simple_predicate_stop_all fields;
  nesting = unwrap_or (bool_field simple_predicate_count_nesting fields) true;
  unknown = is_unknown (unwrap_or (enum_field initial_value_of simple_predicate_initial_value fields) initial.False);
  dims = option_map field_matcher_of (message simple_predicate_dimensions fields);
  bound = int32_field key_bound fields;
}

-- what a predicate is, by the number of its member that was set last
abbrev pub predicate_body_with : Option ℕ → List FieldOf → Option PredicateBody
predicate_body_with None run = None
predicate_body_with (Some number) run =
    if number == predicate_simple
    then Some (predicate.Simple (simple_predicate_of (records_of_all (payloads predicate_simple run))))
    else Some (predicate.Combo (combo_of (records_of_all (payloads predicate_combination run))))

-- by the records of the member that was set last
abbrev pub predicate_body_of : List FieldOf → Option PredicateBody
predicate_body_of run = predicate_body_with (first_number run) run

-- a predicate
abbrev pub predicate_of : List FieldOf → PredicateDef
predicate_of fields = record {
  id = int64_field predicate_id fields;
  body = predicate_body_of (oneof_run (predicate_simple ∷ predicate_combination ∷ []) fields);
}

-- a group of a state's values
abbrev pub state_group_of : List FieldOf → GroupDef
state_group_of fields = record {
  group = int64_field state_group_id fields;
  values = int32_fields state_group_value fields;
}

-- the groups of a state's values
abbrev pub state_groups_of : List FieldOf → List GroupDef
state_groups_of fields = map state_group_of (messages state_map_group fields)

-- a state
abbrev pub state_of : List FieldOf → StateDef
state_of fields = record {
  id = int64_field state_id fields;
  atom_id = int32_field state_atom_id fields;
  map = option_map state_groups_of (message state_map fields);
}
