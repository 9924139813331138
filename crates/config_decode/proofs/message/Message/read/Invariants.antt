-- The records so far and those that are left are all of them.
use Rattle.std.proofs.Common.{◌≡◌, ◌++◌, length, map}
use Rattle.proto_wire.specs.Fields.{field_view}
use Rattle.proto_wire.specs.WireReading.{walk_from}
use Rattle.config_decode.specs.Short.{HaveShortPayloads}
use Rattle.config_decode.specs.Values.{records_of}
use Rattle.config_decode.proofs.message.Message.read.Given as goal

abbrev pub invariant-loop-field : goal.invariant-loop-field
invariant-loop-field l = record {
  read : map field_view l.fields.items ++ (walk_from l.records).fields ≡ records_of l.bytes;
  short : HaveShortPayloads (map field_view l.fields.items);
}

abbrev pub decreases-loop-field : goal.decreases-loop-field
decreases-loop-field l = length l.records.bytes
