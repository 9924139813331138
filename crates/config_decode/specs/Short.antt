-- What is known of the records of a message: no payload is past the 32 bits of an offset.
use Rattle.std.specs.Prelude.{◌<◌, ◌^◌, List, length}
use Rattle.std.specs.List.{AllByRecursion}
use Rattle.proto_wire.specs.Fields.{FieldOf, inside_of}

-- the payload of this record, if it has one
abbrev pub HasShortPayload : FieldOf → Type 0
HasShortPayload field = length (inside_of field.body) < 2 ^ 32

-- those of all these records
abbrev pub HaveShortPayloads : List FieldOf → Type 0
HaveShortPayloads fields = AllByRecursion HasShortPayload fields
