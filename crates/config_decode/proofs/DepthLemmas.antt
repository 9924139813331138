-- Lemmas on `specs/Laws.antt`, for the law of trees: what the walk passes is no deeper than a tree is read.
use Rattle.std.proofs.Common.{◌≡◌, ℕ, zero, suc, ◌+◌, ◌≤◌, List, [], ◌∷◌, ◌++◌, map, Bool, true, false, Option, None, Some, refl, sym, ap, ap₂, ◌∙◌, subst, arith}
use Rattle.std.specs.Prelude.{if◌then◌else◌, ◌==◌, All}
use Rattle.std.specs.List.{flat_map}
use Rattle.std.specs.Option.{option_map}
use Rattle.std.proofs.lemmas.Bool.{eqb-true}
use Rattle.std.proofs.lemmas.List.Elements.{All-nil, All-cons, All-head, All-tail, All-append, All-weaker, All-map, All-filter}
use Rattle.proto_wire.specs.Fields.{BodyOf, Varint, Fixed64, Bytes, Group, Fixed32, FieldOf, Rest}
use Rattle.proto_wire.specs.WireReading.{walk_from}
use Rattle.config_types.specs.declared.matcher.Test.{Test}
use Rattle.config_types.specs.declared.matcher.Test.TheVariants.{EqStr, Tuple, AnyOf, NoneOf}
use Rattle.config_types.specs.declared.matcher.FieldTest.{FieldTest}
use Rattle.config_types.specs.declared.fields.FieldMatcher.{FieldMatcher}
use Rattle.config_decode.specs.declared.profile.Kind.{Kind}
use Rattle.config_decode.specs.declared.profile.Kind.TheVariants as kind
use Rattle.config_decode.specs.declared.profile.Shape.TheVariants.{Message}
use Rattle.config_decode.specs.FieldNumbers.{leaf_child, tuple_test, test_matches_tuple, test_eq_any_string, test_neq_any_string, test_eq_string}
use Rattle.config_decode.specs.Profile.{shape_of}
use Rattle.config_decode.specs.Values.{bytes_held, with_number, with_numbers, payloads, records_of, records_of_all, messages, all_have, last, last_run, oneof_run, first_number}
use Rattle.config_decode.specs.Tree.{field_matcher_with, field_matcher_in, children_in, field_test_with, field_test_in, tests_in, test_with, test_members, tuple_messages, number_test_of, strings_of}
use Rattle.config_decode.specs.Laws.{content, contents, Passes, PassesInside, PassesRecord, FieldMatchersAreWhole, FieldTestsAreWhole}
use Rattle.config_decode.proofs.JoinLemmas.{same_anywhere}
use Rattle.config_decode.proofs.PassLemmas.{passed_is_whole}
use Rattle.config_decode.proofs.TreeLemmas.{field_matcher_step, field_test_step}
use Rattle.config_decode.proofs.ValuesLemmas.{payloads_append}

-- These bytes are the payload of some record of a message so deep, and the walk goes through them.
record StandsInside (depth : ℕ) (inner : Kind) (payload : List ℕ) : Type 0 where
  above : List ℕ
  field : FieldOf
  inside : PassesInside above depth field inner payload

-- a record of this content, in a message of such a kind and so deep: where it holds a listed message, it stands there
abbrev Holds : Kind → ℕ → ℕ × BodyOf → Type 0
Holds kind depth said = (inner : Kind) (payload : List ℕ) → shape_of kind said.0 ≡ Message inner
    → said.1 ≡ Bytes payload → StandsInside depth inner payload

-- it is so for the records of any fields that say what a passed message says
passed_holds : (above : List ℕ) (kind : Kind) (rest : Rest) → Passes above kind rest → (fields : List FieldOf)
    → contents fields ≡ contents (walk_from rest).fields → All (Holds kind rest.depth) (contents fields)
passed_holds above kind rest passes fields same =
    let there : All (λ field. Holds kind rest.depth (content field)) (walk_from rest).fields =
    All-weaker (PassesRecord above kind rest.depth) (λ field. Holds kind rest.depth (content field))
    (λ field passed inner payload shape body.
    record { above = above; field = field; inside = passed inner payload shape body })
    (walk_from rest).fields (passed_is_whole above kind rest passes).inside in
    subst (All (Holds kind rest.depth)) (sym same)
    (All-map (Holds kind rest.depth) content (walk_from rest).fields there)

-- and so for the records of a payload that stands there
inside_holds : (depth : ℕ) (inner : Kind) (payload : List ℕ) → StandsInside depth inner payload
    → All (Holds inner (depth + 1)) (contents (records_of payload))
inside_holds depth inner payload stands =
    passed_holds (stands.above ++ stands.field.number ∷ []) inner
    (record { bytes = payload; at = stands.field.payload_at; depth = depth + 1 }) stands.inside.passed
    (records_of payload) (same_anywhere payload stands.field.payload_at (depth + 1) stands.inside.whole).same

-- the payloads of a field that holds messages stand there
module _ (kind : Kind) (depth number : ℕ) (inner : Kind) (shape : shape_of kind number ≡ Message inner) where
  body_stands : (own : ℕ) (body : BodyOf) → Holds kind depth (own, body) → own ≡ number
      → All (StandsInside depth inner) (bytes_held body)
  body_stands own (Bytes payload) holds same =
      All-cons (StandsInside depth inner) payload [] (holds inner payload (ap (shape_of kind) same ∙ shape) refl)
      (All-nil (StandsInside depth inner))
  body_stands own (Varint value) holds same = All-nil (StandsInside depth inner)
  body_stands own (Fixed64 value) holds same = All-nil (StandsInside depth inner)
  body_stands own (Fixed32 value) holds same = All-nil (StandsInside depth inner)
  body_stands own (Group bytes) holds same = All-nil (StandsInside depth inner)

  one_stands : (field : FieldOf) (fields : List FieldOf) → Holds kind depth (content field)
      → All (StandsInside depth inner) (payloads number fields)
      → All (StandsInside depth inner) (payloads number (field ∷ fields))
  one_stands field fields holds others = by_test (field.number == number) refl
    where
      by_test : (test : Bool) → (field.number == number) ≡ test → All (StandsInside depth inner)
          (flat_map (λ (f : FieldOf). bytes_held f.body)
          (if test then field ∷ with_number number fields else with_number number fields))
      by_test true is = All-append (StandsInside depth inner) (bytes_held field.body) (payloads number fields)
          (body_stands field.number field.body holds (eqb-true _ _ is)) others
      by_test false is = others

  payloads_stand : (fields : List FieldOf) → All (Holds kind depth) (contents fields)
      → All (StandsInside depth inner) (payloads number fields)
  payloads_stand [] holds = All-nil (StandsInside depth inner)
  payloads_stand (field ∷ fields) holds =
      one_stands field fields (All-head (Holds kind depth) (content field) (contents fields) holds)
      (payloads_stand fields (All-tail (Holds kind depth) (content field) (contents fields) holds))

-- nothing stands inside a message at the last level
none_stand : (depth : ℕ) (inner : Kind) (found : List (List ℕ)) → 100 ≤ depth
    → All (StandsInside depth inner) found → found ≡ []
none_stand depth inner [] deep stand = refl
none_stand depth inner (payload ∷ others) deep stand =
    let first = All-head (StandsInside depth inner) payload others stand in
    absurd (omega (arith, deep, first.inside.shallow))

-- two readings of messages that agree on each that stands there
map_same : {Y : Type 0} (one other : List FieldOf → Y) (depth : ℕ) (inner : Kind)
    → ((payload : List ℕ) → StandsInside depth inner payload → one (records_of payload) ≡ other (records_of payload))
    → (found : List (List ℕ)) → All (StandsInside depth inner) found
    → map one (map records_of found) ≡ map other (map records_of found)
map_same one other depth inner agree [] stand = refl
map_same one other depth inner agree (payload ∷ others) stand =
    ap₂ (λ y ys. y ∷ ys) (agree payload (All-head (StandsInside depth inner) payload others stand))
    (map_same one other depth inner agree others (All-tail (StandsInside depth inner) payload others stand))

-- the children of a tree decide, with the rest of its fields, what it says
of_children : (fields : List FieldOf) (levels more : ℕ)
    → children_in more (messages leaf_child fields) ≡ children_in levels (messages leaf_child fields)
    → field_matcher_in more fields ≡ field_matcher_in levels fields
of_children fields levels more same =
    field_matcher_step more fields
    ∙ ap (λ (children : List FieldMatcher). field_matcher_with (λ messages. children) fields) same
    ∙ sym (field_matcher_step levels fields)

no_children : (levels : ℕ) → children_in levels [] ≡ []
no_children zero = refl
no_children (suc levels) = refl

-- with more levels than are left of a hundred, a tree says the same
tree_same : (levels depth : ℕ) → 100 ≤ depth + levels → (fields : List FieldOf)
    → All (Holds kind.FieldMatcher depth) (contents fields) → (more : ℕ) → levels ≤ more
    → field_matcher_in more fields ≡ field_matcher_in levels fields
tree_same zero depth deep fields holds more above =
    let none : payloads leaf_child fields ≡ [] = none_stand depth kind.FieldMatcher (payloads leaf_child fields)
    (omega (arith, deep)) (payloads_stand kind.FieldMatcher depth leaf_child kind.FieldMatcher refl fields holds) in
    of_children fields zero more
    (ap (λ (found : List (List ℕ)). children_in more (map records_of found)) none ∙ no_children more)
tree_same (suc levels) depth deep fields holds zero above = absurd (omega (arith, above))
tree_same (suc levels) depth deep fields holds (suc more) above =
    of_children fields (suc levels) (suc more)
    (map_same (field_matcher_in more) (field_matcher_in levels) depth kind.FieldMatcher
    (λ payload stands. tree_same levels (depth + 1) (omega (arith, deep)) (records_of payload)
    (inside_holds depth kind.FieldMatcher payload stands) more (omega (arith, above)))
    (payloads leaf_child fields)
    (payloads_stand kind.FieldMatcher depth leaf_child kind.FieldMatcher refl fields holds))

-- a test's tuple decides, with the rest of its fields, what it says
tuple_same : (tests others : List (List FieldOf) → List FieldTest) (run : List FieldOf)
    → tests (tuple_messages run) ≡ others (tuple_messages run) → (number : Option ℕ)
    → test_with tests number run ≡ test_with others number run
tuple_same tests others run same None = refl
tuple_same tests others run same (Some number) =
    ap (λ (inside : List FieldTest).
    if number == test_matches_tuple then Some (Tuple inside)
    else if number == test_eq_any_string then Some (AnyOf (strings_of (payloads test_eq_any_string run)))
    else if number == test_neq_any_string then Some (NoneOf (strings_of (payloads test_neq_any_string run)))
    else if number == test_eq_string then option_map EqStr (last (payloads test_eq_string run))
    else number_test_of number run) same

-- the records of the member of a oneof that was set last, of a test's fields
abbrev run_of : List FieldOf → List FieldOf
run_of fields = oneof_run test_members fields

of_tests : (fields : List FieldOf) (levels more : ℕ)
    → tests_in more (tuple_messages (run_of fields)) ≡ tests_in levels (tuple_messages (run_of fields))
    → field_test_in more fields ≡ field_test_in levels fields
of_tests fields levels more same =
    field_test_step more fields
    ∙ ap (λ (test : Option Test). record (field_test_with (tests_in levels) fields) { test = test })
    (tuple_same (tests_in more) (tests_in levels) (run_of fields) same (first_number (run_of fields)))
    ∙ sym (field_test_step levels fields)

-- what holds of all records holds of those at the end that have one number
run_all : (P : FieldOf → Type 0) (fields : List FieldOf) → All P fields → All P (last_run fields)
run_all P [] each = All-nil P
run_all P (field ∷ fields) each =
    by_test (all_have field.number fields) (run_all P fields (All-tail P field fields each))
  where
    by_test : (test : Bool) → All P (last_run fields) → All P (if test then field ∷ fields else last_run fields)
    by_test true shorter = each
    by_test false shorter = shorter

-- the converse of `All-map`
all_unmapped : (P : ℕ × BodyOf → Type 0) (fields : List FieldOf) → All P (contents fields)
    → All (λ field. P (content field)) fields
all_unmapped P [] each = All-nil (λ field. P (content field))
all_unmapped P (field ∷ fields) each =
    All-cons (λ field. P (content field)) field fields (All-head P (content field) (contents fields) each)
    (all_unmapped P fields (All-tail P (content field) (contents fields) each))

run_holds : (depth : ℕ) (fields : List FieldOf) → All (Holds kind.FieldTest depth) (contents fields)
    → All (Holds kind.FieldTest depth) (contents (run_of fields))
run_holds depth fields holds =
    let P : FieldOf → Type 0 = λ field. Holds kind.FieldTest depth (content field) in
    All-map (Holds kind.FieldTest depth) content (run_of fields)
    (run_all P (with_numbers test_members fields)
    (All-filter _ P fields (all_unmapped (Holds kind.FieldTest depth) fields holds)))

-- the tests of tuples stand one level deeper than the tuples
tests_stand : (depth : ℕ) (tuples : List (List ℕ)) → All (StandsInside depth kind.Tuple) tuples
    → All (StandsInside (depth + 1) kind.FieldTest) (payloads tuple_test (records_of_all tuples))
tests_stand depth [] stand = All-nil (StandsInside (depth + 1) kind.FieldTest)
tests_stand depth (tuple ∷ others) stand =
    subst (All (StandsInside (depth + 1) kind.FieldTest))
    (sym (payloads_append tuple_test (records_of tuple) (records_of_all others)))
    (All-append (StandsInside (depth + 1) kind.FieldTest)
    (payloads tuple_test (records_of tuple)) (payloads tuple_test (records_of_all others))
    (payloads_stand kind.Tuple (depth + 1) tuple_test kind.FieldTest refl (records_of tuple)
    (inside_holds depth kind.Tuple tuple (All-head (StandsInside depth kind.Tuple) tuple others stand)))
    (tests_stand depth others (All-tail (StandsInside depth kind.Tuple) tuple others stand)))

no_tests : (levels : ℕ) → tests_in levels [] ≡ []
no_tests zero = refl
no_tests (suc levels) = refl

-- the tuples of a test stand there
tuples_stand : (depth : ℕ) (fields : List FieldOf) → All (Holds kind.FieldTest depth) (contents fields)
    → All (StandsInside depth kind.Tuple) (payloads test_matches_tuple (run_of fields))
tuples_stand depth fields holds =
    payloads_stand kind.FieldTest depth test_matches_tuple kind.Tuple refl (run_of fields)
    (run_holds depth fields holds)

-- with more levels than are left of a hundred, a test says the same
test_same : (levels depth : ℕ) → 100 ≤ depth + levels → (fields : List FieldOf)
    → All (Holds kind.FieldTest depth) (contents fields) → (more : ℕ) → levels ≤ more
    → field_test_in more fields ≡ field_test_in levels fields
test_same zero depth deep fields holds more above =
    let none : payloads test_matches_tuple (run_of fields) ≡ [] =
    none_stand depth kind.Tuple (payloads test_matches_tuple (run_of fields)) (omega (arith, deep))
    (tuples_stand depth fields holds) in
    of_tests fields zero more
    (ap (λ (found : List (List ℕ)). tests_in more (messages tuple_test (records_of_all found))) none ∙ no_tests more)
test_same (suc levels) depth deep fields holds zero above = absurd (omega (arith, above))
test_same (suc levels) depth deep fields holds (suc more) above =
    of_tests fields (suc levels) (suc more)
    (map_same (field_test_in more) (field_test_in levels) (depth + 1) kind.FieldTest
    (λ payload stands. test_same levels (depth + 1 + 1) (omega (arith, deep)) (records_of payload)
    (inside_holds (depth + 1) kind.FieldTest payload stands) more (omega (arith, above)))
    (payloads tuple_test (records_of_all (payloads test_matches_tuple (run_of fields))))
    (tests_stand depth (payloads test_matches_tuple (run_of fields)) (tuples_stand depth fields holds)))

pub field_matchers_are_whole : FieldMatchersAreWhole
field_matchers_are_whole above rest fields passes same levels more =
    tree_same 100 rest.depth (omega arith) fields (passed_holds above kind.FieldMatcher rest passes fields same)
    levels more

pub field_tests_are_whole : FieldTestsAreWhole
field_tests_are_whole above rest fields passes same levels more =
    test_same 100 rest.depth (omega arith) fields (passed_holds above kind.FieldTest rest passes fields same)
    levels more
