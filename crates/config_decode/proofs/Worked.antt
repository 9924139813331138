-- Worked walks, by computing. The head of `WorkedConfigs.antt` says how comments write records.
use Rattle.std.proofs.Common.{◌≡◌, [], ◌∷◌, ◌++◌, Some, None, refl}
use Rattle.proto_wire.specs.WireReading.{inside_at, walk_from, walk_turns, field_at, field_with, tag_at, tag_of, varint_at, taken_at}
use Rattle.config_decode.specs.Walk as whole
use Rattle.config_decode.specs.Walk.{packed_at, packed_in, walk_of, first_refused}
use Rattle.config_decode.proofs.WorkedConfigs.{activation_bytes, cut_bytes}

-- {17: {}}, an activation
refused : first_refused (walk_of activation_bytes).records ≡ Some (17 ∷ [])
unfolding walk_of whole.walk_in inside_at
    walk_from walk_turns field_at field_with tag_at tag_of varint_at taken_at
refused = refl

-- a record that is cut
cut : (walk_of cut_bytes).fault ≡ Some (record { offset = 0; cause = 2 })
unfolding walk_of whole.walk_in inside_at
    walk_from walk_turns field_at field_with tag_at tag_of varint_at taken_at
cut = refl

-- {7: {99: 1}}, a matcher with a field that isn't there
nested : first_refused (walk_of (58 ∷ 3 ∷ 152 ∷ 6 ∷ 1 ∷ [])).records ≡ Some (7 ∷ 99 ∷ [])
unfolding walk_of whole.walk_in inside_at
    walk_from walk_turns field_at field_with tag_at tag_of varint_at taken_at
nested = refl

-- {99: 1}, which is ignored at the top
ignored : first_refused (walk_of (152 ∷ 6 ∷ 1 ∷ [])).records ≡ None
unfolding walk_of whole.walk_in inside_at
    walk_from walk_turns field_at field_with tag_at tag_of varint_at taken_at
ignored = refl

-- packed numbers in field 13, of which the last isn't whole
half_packed : (walk_of (106 ∷ 2 ∷ 1 ∷ 128 ∷ [])).fault ≡ Some (record { offset = 0; cause = 2 })
unfolding walk_of whole.walk_in packed_at packed_in inside_at
    walk_from walk_turns field_at field_with tag_at tag_of varint_at taken_at
half_packed = refl

-- a fault after a record that isn't supported
fault_after : (walk_of (activation_bytes ++ cut_bytes)).fault ≡ Some (record { offset = 3; cause = 2 })
unfolding walk_of whole.walk_in inside_at
    walk_from walk_turns field_at field_with tag_at tag_of varint_at taken_at
fault_after = refl
