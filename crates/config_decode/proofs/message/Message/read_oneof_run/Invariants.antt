use Rattle.std.proofs.Common.{◌≡◌, map, take}
use Rattle.proto_wire.specs.Fields.{field_view}
use Rattle.config_decode.specs.Values as values
use Rattle.config_decode.proofs.message.Message.read_oneof_run.Given as goal

abbrev pub invariant-loop-field : goal.invariant-loop-field
invariant-loop-field l = l.run ≡ values.oneof_run l.members (map field_view (take l.field-index l.field-items))
