-- The shortest spelling of fields, as bytes.
use Rattle.std.specs.Prelude.{ℕ, zero, suc, ◌+◌, ◌*◌, ◌/◌, ◌%◌, List, [], ◌∷◌, ◌++◌, length, take, drop, nat_lt, if◌then◌else◌}
use Rattle.std.specs.Int.{w32, to_le_bytes}
use Rattle.proto_wire.specs.declared.tag.WireType.{WireType}
use Rattle.proto_wire.specs.declared.tag.WireType.TheVariants as wire
use Rattle.proto_wire.specs.WireTypes.{code_of}

-- seven bits a byte, the low ones first, in at most so many bytes; each byte but the last has its high bit set
abbrev pub varint_in : ℕ → ℕ → List ℕ
varint_in zero n = []
varint_in (suc turns) n = if nat_lt n 128 then n ∷ [] else (n % 128 + 128) ∷ varint_in turns (n / 128)

-- the shortest spelling of a number below 2^64
unfoldable pub varint : ℕ → List ℕ
varint n = varint_in 10 n

-- these bytes with the spelling of a number in the place of the one that stands there
abbrev pub with_varint_at : ℕ → ℕ → List ℕ → List ℕ
with_varint_at place value bytes = take place bytes ++ (varint value ++ drop (place + 1) bytes)

-- the tag of a field: its number, and how its payload is laid out
abbrev pub tag_bytes : ℕ → WireType → List ℕ
tag_bytes number wire_type = varint (number * 8 + code_of wire_type)

-- a field that holds a number
abbrev pub varint_field : ℕ → ℕ → List ℕ
varint_field number value = tag_bytes number wire.Varint ++ varint value

-- a field that holds bytes, after their count
abbrev pub bytes_field : ℕ → List ℕ → List ℕ
bytes_field number bytes = tag_bytes number wire.Bytes ++ varint (length bytes) ++ bytes

-- a field that holds bytes, as it is begun: its tag, and a byte where their count goes
abbrev pub begun_field : ℕ → List ℕ
begun_field number = tag_bytes number wire.Bytes ++ 0 ∷ []

-- a field that holds four bytes, the low ones first
abbrev pub fixed32_field : ℕ → ℕ → List ℕ
fixed32_field number value = tag_bytes number wire.Fixed32 ++ to_le_bytes w32 value
