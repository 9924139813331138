-- How payloads are laid out, by the numbers that stand for it in the low three bits of a tag.
use Rattle.std.specs.Prelude.{ℕ, Option, None, Some, ◌==◌, if◌then◌else◌}
use Rattle.proto_wire.specs.declared.tag.WireType.{WireType}
use Rattle.proto_wire.specs.declared.tag.WireType.TheVariants as wire

-- the number of each wire type
abbrev pub code_of : WireType → ℕ
code_of wire.Varint = 0
code_of wire.Fixed64 = 1
code_of wire.Bytes = 2
code_of wire.GroupStart = 3
code_of wire.GroupEnd = 4
code_of wire.Fixed32 = 5

-- the wire type of this number, of those that there are
abbrev pub wire_type_of : ℕ → Option WireType
wire_type_of code =
    if code == code_of wire.Varint then Some wire.Varint
    else if code == code_of wire.Fixed64 then Some wire.Fixed64
    else if code == code_of wire.Bytes then Some wire.Bytes
    else if code == code_of wire.GroupStart then Some wire.GroupStart
    else if code == code_of wire.GroupEnd then Some wire.GroupEnd
    else if code == code_of wire.Fixed32 then Some wire.Fixed32
    else None
