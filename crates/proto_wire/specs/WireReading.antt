-- Reading from left to right: the field in front and what is after it, or the first fault.
-- `at` is where the record at fault begins; `end` is where the bytes end. Both count from the start of the whole
-- configuration, so that bytes which reach to the end begin at `end` less their length.
use Rattle.std.specs.Prelude.{◌≡◌, ℕ, zero, suc, ◌+◌, ◌-◌, ◌*◌, ◌/◌, ◌%◌, ◌^◌, List, [], ◌∷◌, length, take, drop, Bool, true, false, ◌&&◌, Option, None, Some, Result, Ok, Err, nat_lt, position, ◌==◌, if◌then◌else◌}
use Rattle.std.specs.Option.{ok_or}
use Rattle.std.specs.Int.{Width, w32, w64}
use Rattle.sd_base.specs.Reads.{◌>>=◌}
use Rattle.sd_base.specs.Numbers.{front_bytes, front_number}
use Rattle.proto_wire.specs.declared.fault.WireFault.{WireFault}
use Rattle.proto_wire.specs.declared.tag.Tag.{Tag}
use Rattle.proto_wire.specs.declared.tag.WireType.{WireType}
use Rattle.proto_wire.specs.declared.tag.WireType.TheVariants as wire
use Rattle.proto_wire.specs.declared.field.Field.{Field}
use Rattle.proto_wire.specs.WireCauses.{cause_long_varint, cause_cut, cause_unknown_wire_type, cause_zero_number, cause_stray_group_end, cause_too_deep, cause_long_tag, most_depth}
use Rattle.proto_wire.specs.WireTypes.{wire_type_of}
use Rattle.proto_wire.specs.Fields.{Varint, Fixed64, Bytes, Group, Fixed32, FieldOf, Rest, inside_of, field_view}

-- a fault of this cause, at this offset
abbrev pub fault_at : ℕ → ℕ → WireFault
fault_at at cause = record { offset = at; cause = cause }

-- the number whose groups of seven bits these bytes hold, the low group first; a byte's high bit is no part of it
abbrev pub groups_value : List ℕ → ℕ
groups_value [] = 0
groups_value (byte ∷ bytes) = byte % 128 + 128 * groups_value bytes

-- the varint that ends with the byte at this place
abbrev pub varint_to : ℕ → List ℕ → Option ℕ → Result (ℕ × List ℕ) WireFault
varint_to at bytes (Some last) = Ok (groups_value (take (last + 1) bytes) % 2 ^ 64, drop (last + 1) bytes)
varint_to at bytes None = Err (fault_at at (if nat_lt (length bytes) 10 then cause_cut else cause_long_varint))

-- A varint ends with the first byte whose high bit isn't set, one of the first ten. Bits past the 64th are dropped.
unfoldable pub varint_at : ℕ → List ℕ → Result (ℕ × List ℕ) WireFault
varint_at at bytes = varint_to at bytes (position (λ byte. nat_lt byte 128) (take 10 bytes))

-- so many bytes
unfoldable pub taken_at : ℕ → ℕ → List ℕ → Result (List ℕ × List ℕ) WireFault
taken_at at count bytes = ok_or (front_bytes count bytes) (fault_at at cause_cut)

-- a number of this width, its low byte first
abbrev pub fixed_at : Width → ℕ → List ℕ → Result (ℕ × List ℕ) WireFault
fixed_at width at bytes = ok_or (front_number width bytes) (fault_at at cause_cut)

-- a tag, if its wire type is known
abbrev pub tag_with : ℕ → ℕ → Option WireType → Result Tag WireFault
tag_with at number None = Err (fault_at at cause_unknown_wire_type)
tag_with at number (Some wire_type) = Ok (record { number = number; wire_type = wire_type })

-- the tag that has this value, in the order in which its faults are judged
unfoldable pub tag_of : ℕ → ℕ → Result Tag WireFault
tag_of at value =
    if nat_lt (2 ^ 32 - 1) value then Err (fault_at at cause_long_tag)
    else if value / 8 == 0 then Err (fault_at at cause_zero_number)
    else tag_with at (value / 8) (wire_type_of (value % 8))

-- the tag in front
unfoldable pub tag_at : ℕ → List ℕ → Result (Tag × List ℕ) WireFault
tag_at at bytes = varint_at at bytes >>= λ value. tag_of at value.0 >>= λ tag. Ok (tag, value.1)

-- How the inside of a group is read, from its number, where it begins, and what is after its tag.
-- It gives what begins with the group's end, and what is after that.
abbrev pub Inside : Type 0
Inside = ℕ → ℕ → List ℕ → Result (List ℕ × List ℕ) WireFault

-- a field of this number that holds a varint, from what is after its tag
abbrev pub varint_record : ℕ → ℕ → ℕ → List ℕ → Result (FieldOf × List ℕ) WireFault
varint_record end at number bytes =
    varint_at at bytes >>= λ value.
    Ok (record { number = number; at = at; payload_at = end - length bytes; body = Varint value.0 }, value.1)

-- one that holds eight bytes
abbrev pub fixed64_record : ℕ → ℕ → ℕ → List ℕ → Result (FieldOf × List ℕ) WireFault
fixed64_record end at number bytes =
    fixed_at w64 at bytes >>= λ value.
    Ok (record { number = number; at = at; payload_at = end - length bytes; body = Fixed64 value.0 }, value.1)

-- one that holds counted bytes, whose payload begins after the count
abbrev pub bytes_record : ℕ → ℕ → ℕ → List ℕ → Result (FieldOf × List ℕ) WireFault
bytes_record end at number bytes =
    varint_at at bytes >>= λ count.
    taken_at at count.0 count.1 >>= λ taken.
    Ok (record { number = number; at = at; payload_at = end - length count.1; body = Bytes taken.0 }, taken.1)

-- one that holds a group
abbrev pub group_record : Inside → ℕ → ℕ → ℕ → List ℕ → Result (FieldOf × List ℕ) WireFault
group_record inside end at number bytes =
    inside number at bytes >>= λ ended.
    let body = Group (take (length bytes - length ended.0) bytes) in
    Ok (record { number = number; at = at; payload_at = end - length bytes; body = body }, ended.1)

-- one that holds four bytes
abbrev pub fixed32_record : ℕ → ℕ → ℕ → List ℕ → Result (FieldOf × List ℕ) WireFault
fixed32_record end at number bytes =
    fixed_at w32 at bytes >>= λ value.
    Ok (record { number = number; at = at; payload_at = end - length bytes; body = Fixed32 value.0 }, value.1)

-- the field of such a tag, from what is after the tag
unfoldable pub field_with : Inside → ℕ → ℕ → ℕ → WireType → List ℕ → Result (FieldOf × List ℕ) WireFault
field_with inside end at number wire.Varint bytes = varint_record end at number bytes
field_with inside end at number wire.Fixed64 bytes = fixed64_record end at number bytes
field_with inside end at number wire.Bytes bytes = bytes_record end at number bytes
field_with inside end at number wire.GroupStart bytes = group_record inside end at number bytes
field_with inside end at number wire.GroupEnd bytes = Err (fault_at at cause_stray_group_end)
field_with inside end at number wire.Fixed32 bytes = fixed32_record end at number bytes

-- the tag is the end of the group with this number
abbrev pub is_group_end : WireType → Bool
is_group_end wire.GroupEnd = true
is_group_end wire.Varint = false
is_group_end wire.Fixed64 = false
is_group_end wire.Bytes = false
is_group_end wire.GroupStart = false
is_group_end wire.Fixed32 = false

-- the tag is the end of the group with this number
abbrev pub ends : ℕ → Tag → Bool
ends number tag = is_group_end tag.wire_type && (tag.number == number)

-- Record after record up to the group's end, in at most so many turns.
-- Where the bytes end between two records before it, the group is at fault.
unfoldable pub until_end : Inside → ℕ → ℕ → Inside
until_end inside end zero number at bytes = Err (fault_at at cause_cut)
until_end inside end (suc turns) number at bytes =
    if length bytes == 0 then Err (fault_at at cause_cut)
    else (tag_at (end - length bytes) bytes >>= λ tag.
    if ends number tag.0 then Ok (bytes, tag.1)
    else (field_with inside end (end - length bytes) tag.0.number tag.0.wire_type tag.1 >>= λ field.
    until_end inside end turns number at field.1))

-- a group, where so many may be open inside one another, it among them
unfoldable pub group_at : ℕ → ℕ → Inside
group_at end zero number at bytes = Err (fault_at at cause_too_deep)
group_at end (suc levels) number at bytes = until_end (group_at end levels) end (length bytes) number at bytes

-- what is left where these bytes are
abbrev pub rest_with : Rest → List ℕ → Rest
rest_with rest bytes = record { bytes = bytes; at = rest.at + length rest.bytes - length bytes; depth = rest.depth }

-- the field in front, and what is left after it
unfoldable pub field_at : Rest → Result (FieldOf × Rest) WireFault
field_at rest =
    let end = rest.at + length rest.bytes in
    let levels = most_depth - rest.depth in
    tag_at rest.at rest.bytes >>= λ tag.
    field_with (group_at end levels) end rest.at tag.0.number tag.0.wire_type tag.1 >>= λ field.
    Ok (field.0, rest_with rest field.1)

-- What a call for the next field answers, by what is read: a field and what is left then, the end, or the first fault.
-- At the end and at a fault as much is left as before.
abbrev pub AnswersNext : Rest → Result (Option Field) WireFault → Rest → Type 0
AnswersNext old (Ok (Some field)) new = field_at old ≡ Ok (field_view field, new)
AnswersNext old (Ok None) new = new ≡ old
AnswersNext old (Err fault) new = (field_at old ≡ Err fault) × (new ≡ old)

-- the records inside a field of a message so deep
unfoldable pub inside_at : ℕ → FieldOf → Result Rest WireFault
inside_at depth field =
    if nat_lt depth most_depth
    then Ok (record { bytes = inside_of field.body; at = field.payload_at; depth = depth + 1 })
    else Err (fault_at field.at cause_too_deep)

-- the fields up to the end or the first fault
pub record Walk : Type 0 where
  pub fields : List FieldOf
  pub fault : Option WireFault

-- a walk with one field more in front
abbrev pub with_field : FieldOf → Walk → Walk
with_field field walk = record { fields = field ∷ walk.fields; fault = walk.fault }

-- a walk that is over
abbrev pub walk_end : Option WireFault → Walk
walk_end fault = record { fields = []; fault = fault }

-- a field and the walk of what is after it, or the fault
abbrev pub walk_on : (Rest → Walk) → Result (FieldOf × Rest) WireFault → Walk
walk_on after (Ok field) = with_field field.0 (after field.1)
walk_on after (Err fault) = walk_end (Some fault)

-- in at most so many turns
unfoldable pub walk_turns : ℕ → Rest → Walk
walk_turns zero rest = walk_end None
walk_turns (suc turns) rest =
    if length rest.bytes == 0 then walk_end None
    else walk_on (walk_turns turns) (field_at rest)

-- all fields of what is left
unfoldable pub walk_from : Rest → Walk
walk_from rest = walk_turns (length rest.bytes) rest

-- the fields of a walk, or its fault
abbrev pub fields_or : Walk → Result (List FieldOf) WireFault
fields_or walk = fields_unless walk.fault walk.fields
  where
    fields_unless : Option WireFault → List FieldOf → Result (List FieldOf) WireFault
    fields_unless None fields = Ok fields
    fields_unless (Some fault) fields = Err fault

-- all fields of what is left, or the first fault
abbrev pub fields_from : Rest → Result (List FieldOf) WireFault
fields_from rest = fields_or (walk_from rest)

-- all fields of a whole configuration, or its first fault
abbrev pub fields_of : List ℕ → Result (List FieldOf) WireFault
fields_of bytes = fields_from (record { bytes = bytes; at = 0; depth = 0 })

-- what a call answers, as the beginning of a walk: a field and the walk of what is left then, the end, or the fault
abbrev pub walk_by : Result (Option Field) WireFault → Rest → Walk
walk_by (Ok (Some field)) new = with_field (field_view field) (walk_from new)
walk_by (Ok None) new = walk_end None
walk_by (Err fault) new = walk_end (Some fault)
