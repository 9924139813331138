-- Fields as contracts see them: bytes as lists, wherever they lie in memory.
use Rattle.std.specs.Prelude.{ℕ, ◌+◌, ◌^◌, ◌<◌, List, [], length, Bool, true, false}
use Rattle.proto_wire.specs.declared.field.Field.{Field}
use Rattle.proto_wire.specs.declared.field.Body.{Body}
use Rattle.proto_wire.specs.declared.field.Body.TheVariants as held

-- what a field holds
pub data BodyOf : Type 0 where
  Varint : ℕ → BodyOf
  Fixed64 : ℕ → BodyOf
  Bytes : List ℕ → BodyOf
  Group : List ℕ → BodyOf
  Fixed32 : ℕ → BodyOf

-- a field, and where its tag and its payload begin in the whole configuration
pub record FieldOf : Type 0 where
  pub number : ℕ
  pub at : ℕ
  pub payload_at : ℕ
  pub body : BodyOf

-- what a field holds, without where its bytes lie in memory
abbrev pub body_view : Body → BodyOf
body_view (held.Varint value) = Varint value
body_view (held.Fixed64 value) = Fixed64 value
body_view (held.Bytes bytes) = Bytes bytes.now
body_view (held.Group bytes) = Group bytes.now
body_view (held.Fixed32 value) = Fixed32 value

-- the field without where its bytes lie in memory
abbrev pub field_view : Field → FieldOf
field_view field =
    record { number = field.number; at = field.at; payload_at = field.payload_at; body = body_view field.body }

-- what a reader has left: the bytes, where they begin in the whole configuration, and how deep their message is
pub record Rest : Type 0 where
  pub bytes : List ℕ
  pub at : ℕ
  pub depth : ℕ

-- the bytes in which further records may stand
abbrev pub inside_of : BodyOf → List ℕ
inside_of (Bytes bytes) = bytes
inside_of (Group bytes) = bytes
inside_of (Varint value) = []
inside_of (Fixed64 value) = []
inside_of (Fixed32 value) = []

-- there are such bytes
abbrev pub has_inside : BodyOf → Bool
has_inside (Bytes bytes) = true
has_inside (Group bytes) = true
has_inside (Varint value) = false
has_inside (Fixed64 value) = false
has_inside (Fixed32 value) = false

-- no place in the payload is past the 32 bits of an offset
abbrev pub FitsOffsets : FieldOf → Type 0
FitsOffsets field = field.payload_at + length (inside_of field.body) < 2 ^ 32

-- a step over a field: less is left, and the field can be entered
pub record StepsOver (old : Rest) (field : FieldOf) (new : Rest) : Type 0 where
  pub shorter : length new.bytes < length old.bytes
  pub within : FitsOffsets field
