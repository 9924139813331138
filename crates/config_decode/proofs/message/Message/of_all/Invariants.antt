-- The records of the messages so far.
use Rattle.std.proofs.Common.{◌≡◌, map, take}
use Rattle.proto_wire.specs.Fields.{field_view}
use Rattle.config_decode.specs.Short.{HaveShortPayloads}
use Rattle.config_decode.specs.Values.{together}
use Rattle.config_decode.proofs.message.Message.of_all.Given as goal

abbrev pub invariant-loop-message : goal.invariant-loop-message
invariant-loop-message l = record {
  read : map field_view l.fields.items ≡ together (take l.message-index l.messages);
  short : HaveShortPayloads (map field_view l.fields.items);
}
