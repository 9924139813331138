-- Fields and faults whose bytes are known, tried on the definitions.
use Rattle.std.proofs.Common.{◌≡◌, [], ◌∷◌, ◌-◌, ◌^◌, Ok, Err, refl}
use Rattle.proto_wire.specs.WireCauses.{cause_long_varint, cause_cut, cause_unknown_wire_type, cause_zero_number, cause_stray_group_end, cause_too_deep, cause_long_tag}
use Rattle.proto_wire.specs.Fields.{Varint, Bytes, Group}
use Rattle.proto_wire.specs.WireReading.{fault_at, varint_at, taken_at, tag_of, tag_at, field_with, until_end, group_at, field_at, walk_turns, walk_from, fields_of}
use Rattle.proto_wire.specs.Spelling.{varint, varint_field, bytes_field, fixed32_field}

-- an hour in nanoseconds, as field 10
an_hour : varint_field 10 3600000000000 ≡ 80 ∷ 128 ∷ 192 ∷ 226 ∷ 133 ∷ 227 ∷ 104 ∷ []
unfolding varint
an_hour = refl

-- a small number, as field 1
ten : varint_field 1 10 ≡ 8 ∷ 10 ∷ []
unfolding varint
ten = refl

-- the greatest number of 64 bits, which is also how -1 is spelled
all_bits : varint (2 ^ 64 - 1) ≡ 255 ∷ 255 ∷ 255 ∷ 255 ∷ 255 ∷ 255 ∷ 255 ∷ 255 ∷ 255 ∷ 1 ∷ []
unfolding varint
all_bits = refl

-- a text of three bytes, as field 7
a_text : bytes_field 7 (97 ∷ 98 ∷ 99 ∷ []) ≡ 58 ∷ 3 ∷ 97 ∷ 98 ∷ 99 ∷ []
unfolding varint
a_text = refl

-- the float 1.0, as field 16, whose tag has two bytes
a_float : fixed32_field 16 0x3f80_0000 ≡ 133 ∷ 1 ∷ 0 ∷ 0 ∷ 128 ∷ 63 ∷ []
unfolding varint
a_float = refl

-- the hour, read back
hour_read : fields_of (80 ∷ 128 ∷ 192 ∷ 226 ∷ 133 ∷ 227 ∷ 104 ∷ []) ≡ Ok (record {
  number = 10;
  at = 0;
  payload_at = 1;
  body = Varint 3600000000000;
} ∷ [])
unfolding walk_from walk_turns field_at tag_at tag_of varint_at field_with
hour_read = refl

-- a text and a group, in which another group is
group_read : fields_of (58 ∷ 1 ∷ 97 ∷ 11 ∷ 19 ∷ 20 ∷ 12 ∷ []) ≡ Ok (record {
  number = 7;
  at = 0;
  payload_at = 2;
  body = Bytes (97 ∷ []);
} ∷
    record { number = 1; at = 3; payload_at = 4; body = Group (19 ∷ 20 ∷ []) } ∷ [])
unfolding walk_from walk_turns field_at tag_at tag_of varint_at field_with taken_at group_at until_end
group_read = refl

-- a varint of ten bytes whose last has its high bit set
long_varint : fields_of (128 ∷ 128 ∷ 128 ∷ 128 ∷ 128 ∷ 128 ∷ 128 ∷ 128 ∷ 128 ∷ 128 ∷ [])
    ≡ Err (fault_at 0 cause_long_varint)
unfolding walk_from walk_turns field_at tag_at tag_of varint_at field_with
long_varint = refl

-- the bytes end in the second record's payload
cut : fields_of (8 ∷ 1 ∷ 10 ∷ 2 ∷ 97 ∷ []) ≡ Err (fault_at 2 cause_cut)
unfolding walk_from walk_turns field_at tag_at tag_of varint_at field_with taken_at
cut = refl

-- between two records of a group in a group
cut_group : fields_of (11 ∷ 19 ∷ 8 ∷ 1 ∷ []) ≡ Err (fault_at 1 cause_cut)
unfolding walk_from walk_turns field_at tag_at tag_of varint_at field_with taken_at group_at until_end
cut_group = refl

-- number 0 is told before wire type 6, and a long tag before that
zero_number : fields_of (6 ∷ []) ≡ Err (fault_at 0 cause_zero_number)
unfolding walk_from walk_turns field_at tag_at tag_of varint_at field_with
zero_number = refl

unknown : fields_of (14 ∷ []) ≡ Err (fault_at 0 cause_unknown_wire_type)
unfolding walk_from walk_turns field_at tag_at tag_of varint_at field_with
unknown = refl

long_tag : fields_of (134 ∷ 128 ∷ 128 ∷ 128 ∷ 16 ∷ []) ≡ Err (fault_at 0 cause_long_tag)
unfolding walk_from walk_turns field_at tag_at tag_of varint_at field_with
long_tag = refl

-- the end of group 2 in group 1
stray : fields_of (11 ∷ 20 ∷ []) ≡ Err (fault_at 1 cause_stray_group_end)
unfolding walk_from walk_turns field_at tag_at tag_of varint_at field_with taken_at group_at until_end
stray = refl

-- a group in a message of depth 100
too_deep : field_at (record { bytes = 11 ∷ 12 ∷ []; at = 5; depth = 100 }) ≡ Err (fault_at 5 cause_too_deep)
unfolding field_at tag_at tag_of varint_at field_with group_at
too_deep = refl
