-- How fields are laid out in bytes, whoever wrote them. Nothing here says how they are read.
use Rattle.std.specs.Prelude.{◌≡◌, ℕ, zero, suc, ◌+◌, ◌-◌, ◌*◌, ◌%◌, ◌^◌, ◌<◌, ◌≤◌, List, [], ◌++◌, length, slice_index, Option, None, Some, Result, Ok, Err}
use Rattle.std.specs.List.{AllByRecursion, concat}
use Rattle.std.specs.Int.{w32, w64, from_le_bytes}
use Rattle.proto_wire.specs.declared.fault.WireFault.{WireFault}
use Rattle.proto_wire.specs.declared.field.Field.{Field}
use Rattle.proto_wire.specs.declared.tag.WireType.{WireType}
use Rattle.proto_wire.specs.declared.tag.WireType.TheVariants as wire
use Rattle.proto_wire.specs.WireCauses.{most_depth}
use Rattle.proto_wire.specs.WireTypes.{code_of}
use Rattle.proto_wire.specs.Fields.{BodyOf, Varint, Fixed64, Bytes, Group, Fixed32, FieldOf, Rest, field_view}
use Rattle.proto_wire.specs.WireReading.{groups_value}
use Rattle.proto_wire.specs.Spelling.{varint_field, bytes_field, fixed32_field}

-- a varint of this value: each byte but the last has its high bit set; bits past the 64th are dropped
pub record IsVarint (bytes : List ℕ) (value : ℕ) : Type 0 where
  pub some : 0 < length bytes
  pub short : length bytes ≤ 10
  pub marked : (k : ℕ) → k + 1 < length bytes → 128 ≤ slice_index bytes k
  pub ended : slice_index bytes (length bytes - 1) < 128
  pub holds : value ≡ groups_value bytes % 2 ^ 64

-- a tag of this number and wire type
pub record IsTag (bytes : List ℕ) (number : ℕ) (wire_type : WireType) : Type 0 where
  pub spelled : IsVarint bytes (number * 8 + code_of wire_type)
  pub named : 1 ≤ number
  pub fits : number < 2 ^ 29

-- the wire type under which a field's content is laid out
abbrev pub wire_type_for : BodyOf → WireType
wire_type_for (Varint value) = wire.Varint
wire_type_for (Fixed64 value) = wire.Fixed64
wire_type_for (Bytes bytes) = wire.Bytes
wire_type_for (Group bytes) = wire.GroupStart
wire_type_for (Fixed32 value) = wire.Fixed32

-- what stands before a payload: for bytes their count, and else nothing
abbrev pub IsCount : List ℕ → BodyOf → Type 0
IsCount count (Bytes bytes) = IsVarint count (length bytes)
IsCount count (Varint value) = count ≡ []
IsCount count (Fixed64 value) = count ≡ []
IsCount count (Group bytes) = count ≡ []
IsCount count (Fixed32 value) = count ≡ []

-- the payload, where the first argument says which bytes are a group of this number with this inside
abbrev pub IsPayload : (ℕ → List ℕ → List ℕ → Type 0) → ℕ → List ℕ → BodyOf → Type 0
IsPayload IsGroupOf number payload (Varint value) = IsVarint payload value
IsPayload IsGroupOf number payload (Fixed64 value) = (length payload ≡ 8) × (value ≡ from_le_bytes w64 payload)
IsPayload IsGroupOf number payload (Bytes bytes) = payload ≡ bytes
IsPayload IsGroupOf number payload (Group bytes) = IsGroupOf number bytes payload
IsPayload IsGroupOf number payload (Fixed32 value) = (length payload ≡ 4) × (value ≡ from_le_bytes w32 payload)

-- a field's tag, count and payload
pub record IsLaidOut (IsGroupOf : ℕ → List ℕ → List ℕ → Type 0) (number : ℕ) (body : BodyOf)
    (tag count payload : List ℕ) : Type 0 where
  pub tagged : IsTag tag number (wire_type_for body)
  pub counted : IsCount count body
  pub filled : IsPayload IsGroupOf number payload body

-- the bytes are one record
pub record IsRecord (IsGroupOf : ℕ → List ℕ → List ℕ → Type 0) (bytes : List ℕ) : Type 0 where
  pub number : ℕ
  pub body : BodyOf
  pub tag : List ℕ
  pub count : List ℕ
  pub payload : List ℕ
  pub parts : bytes ≡ tag ++ (count ++ payload)
  pub laid_out : IsLaidOut IsGroupOf number body tag count payload

-- records one after the other, and then the end of a group of this number
pub record IsClosed (IsGroupOf : ℕ → List ℕ → List ℕ → Type 0) (number : ℕ) (inside payload : List ℕ) : Type 0 where
  pub records : List (List ℕ)
  pub last : List ℕ
  pub joined : inside ≡ concat records
  pub parts : payload ≡ inside ++ last
  pub each : AllByRecursion (IsRecord IsGroupOf) records
  pub ended : IsTag last number wire.GroupEnd

-- a group, where so many may be open inside one another, it among them
abbrev pub IsGroup : ℕ → ℕ → List ℕ → List ℕ → Type 0
IsGroup zero number inside payload = ⊥
IsGroup (suc levels) number inside payload = IsClosed (IsGroup levels) number inside payload

-- this field stands in front, and then what is left
pub record StartsWith (old : Rest) (field : FieldOf) (new : Rest) : Type 0 where
  pub tag : List ℕ
  pub count : List ℕ
  pub payload : List ℕ
  pub parts : old.bytes ≡ tag ++ (count ++ (payload ++ new.bytes))
  pub laid_out : IsLaidOut (IsGroup (most_depth - old.depth)) field.number field.body tag count payload
  pub at : field.at ≡ old.at
  pub payload_at : field.payload_at ≡ old.at + length tag + length count
  pub moved : new ≡ record old { bytes = new.bytes; at = old.at + length tag + length count + length payload }

-- the call gave this field, and this is left
abbrev pub GaveField : Result (Option Field) WireFault → Rest → FieldOf → Rest → Type 0
GaveField (Ok (Some given)) left field new = (field_view given ≡ field) × (left ≡ new)
GaveField (Ok None) left field new = ⊥
GaveField (Err fault) left field new = ⊥

-- a field as it is given to the writer
pub data Written : Type 0 where
  AsVarint : ℕ → ℕ → Written
  AsBytes : ℕ → List ℕ → Written
  AsFixed32 : ℕ → ℕ → Written

-- the bytes of a field that a writer wrote
abbrev pub spelling : Written → List ℕ
spelling (AsVarint number value) = varint_field number value
spelling (AsBytes number bytes) = bytes_field number bytes
spelling (AsFixed32 number value) = fixed32_field number value

-- the number of a field that a writer wrote
abbrev pub written_number : Written → ℕ
written_number (AsVarint number value) = number
written_number (AsBytes number bytes) = number
written_number (AsFixed32 number value) = number

-- what a field that a writer wrote holds
abbrev pub written_body : Written → BodyOf
written_body (AsVarint number value) = Varint value
written_body (AsBytes number bytes) = Bytes bytes
written_body (AsFixed32 number value) = Fixed32 value

-- its value fits its type
abbrev pub FitsType : Written → Type 0
FitsType (AsVarint number value) = value < 2 ^ 64
FitsType (AsBytes number bytes) = length bytes < 2 ^ 64
FitsType (AsFixed32 number value) = value < 2 ^ 32

-- the writer takes it
pub record IsWritable (field : Written) : Type 0 where
  pub named : 1 ≤ written_number field
  pub numbered : written_number field < 2 ^ 29
  pub fits : FitsType field

-- the call gave what was written, and this is left
abbrev pub GaveBack : Result (Option Field) WireFault → Rest → Written → List ℕ → Type 0
GaveBack (Ok (Some given)) left field bytes =
    (given.number ≡ written_number field) × ((field_view given).body ≡ written_body field) × (left.bytes ≡ bytes)
GaveBack (Ok None) left field bytes = ⊥
GaveBack (Err fault) left field bytes = ⊥

-- what a writer wrote is given back, where it stands in front of what was left
abbrev pub ReadsBack : Rest → Result (Option Field) WireFault → Rest → Type 0
ReadsBack old result new = (field : Written) (after : List ℕ)
    → IsWritable field
    → old.bytes ≡ spelling field ++ after
    → GaveBack result new field after
