-- Worked parts of trees, by computing. Whole configurations stand in `WorkedConfigs.antt`. Its head says how comments
-- write records.
use Rattle.std.proofs.Common.{◌≡◌, ℕ, pos, negsuc, List, [], ◌∷◌, Some, None, refl}
use Rattle.proto_wire.specs.WireReading.{walk_from, walk_turns, field_at, field_with, tag_at, tag_of, varint_at, taken_at}
use Rattle.config_types.specs.declared.fields.FieldMatcher.{FieldMatcher}
use Rattle.config_types.specs.declared.fields.FieldMatcher.TheViews.{roll-FieldMatcher}
use Rattle.config_types.specs.declared.fields.Position.TheVariants.{First}
use Rattle.config_types.specs.declared.matcher.MatcherBody.TheVariants as matcher
use Rattle.config_types.specs.declared.matcher.Operation.TheVariants.{Or}
use Rattle.config_types.specs.declared.matcher.Test.TheVariants.{LtInt}
use Rattle.config_decode.specs.Walk.{packed_at, packed_in}
use Rattle.config_decode.specs.Values.{records_of, enum_field}
use Rattle.config_decode.specs.Profile.{position_of}
use Rattle.config_decode.specs.Tree.{matcher_of, field_matcher_of, field_matcher_in, field_test_of, field_test_in}

-- {2: {1: 5}, 3: {1: 2}, 2: {1: 6}, 1: 1, 2: {}, 1: -1}: the last simple matcher has two records, after a combination
abbrev begun_anew_bytes : List ℕ
begun_anew_bytes =
    18 ∷ 2 ∷ 8 ∷ 5
    ∷ 26 ∷ 2 ∷ 8 ∷ 2
    ∷ 18 ∷ 2 ∷ 8 ∷ 6
    ∷ 8 ∷ 1
    ∷ 18 ∷ 0
    ∷ 8 ∷ 255 ∷ 255 ∷ 255 ∷ 255 ∷ 255 ∷ 255 ∷ 255 ∷ 255 ∷ 255 ∷ 1 ∷ []

begun_anew : matcher_of (records_of begun_anew_bytes)
    ≡ record {
      id = Some (negsuc 0);
      body = Some (matcher.Simple (record { atom_id = Some (pos 6); tests = [] }));
    }
unfolding packed_at packed_in
    walk_from walk_turns field_at field_with tag_at tag_of varint_at taken_at field_matcher_in field_test_in
begun_anew = refl

-- {3: {1: 2, 2: 1, 2: [3, 4] packed}, 3: {2: 5}}
abbrev combination_bytes : List ℕ
combination_bytes = 26 ∷ 8 ∷ 8 ∷ 2 ∷ 16 ∷ 1 ∷ 18 ∷ 2 ∷ 3 ∷ 4 ∷ 26 ∷ 2 ∷ 16 ∷ 5 ∷ []

combination : matcher_of (records_of combination_bytes)
    ≡ record {
      id = None;
      body = Some (matcher.Combo (record { op = Some Or; children = pos 1 ∷ pos 3 ∷ pos 4 ∷ pos 5 ∷ [] }));
    }
unfolding packed_at packed_in
    walk_from walk_turns field_at field_with tag_at tag_of varint_at taken_at field_matcher_in field_test_in
combination = refl

-- {1: 1, 5: 3, 6: 4}: equal to 3, and then below 4
below : field_test_of (records_of (8 ∷ 1 ∷ 40 ∷ 3 ∷ 48 ∷ 4 ∷ []))
    ≡ record { field = Some (pos 1); position = None; test = Some (LtInt (pos 4)) }
unfolding packed_at packed_in
    walk_from walk_turns field_at field_with tag_at tag_of varint_at taken_at field_matcher_in field_test_in
below = refl

-- the first of a chain, and its uid
abbrev first_of_chain : FieldMatcher
first_of_chain = roll-FieldMatcher (record {
  field = Some (pos 1);
  position = Some First;
  children = roll-FieldMatcher (record { field = Some (pos 1); position = None; children = [] }) ∷ [];
})

-- {1: 10, 3: {1: 1, 2: 1, 3: {1: 1}}}: the uid of the first of a chain
abbrev first_uid_bytes : List ℕ
first_uid_bytes = 8 ∷ 10 ∷ 26 ∷ 8 ∷ 8 ∷ 1 ∷ 16 ∷ 1 ∷ 26 ∷ 2 ∷ 8 ∷ 1 ∷ []

first_uid : field_matcher_of (records_of first_uid_bytes)
    ≡ roll-FieldMatcher (record { field = Some (pos 10); position = None; children = first_of_chain ∷ [] })
unfolding packed_at packed_in
    walk_from walk_turns field_at field_with tag_at tag_of varint_at taken_at field_matcher_in field_test_in
first_uid = refl

-- {2: 1, 2: 9}: a number that stands for no position leaves the one before
unknown_position : enum_field position_of 2 (records_of (16 ∷ 1 ∷ 16 ∷ 9 ∷ [])) ≡ Some First
unfolding packed_at packed_in walk_from walk_turns field_at field_with tag_at tag_of varint_at taken_at
unknown_position = refl
