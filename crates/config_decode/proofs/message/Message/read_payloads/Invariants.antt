-- What the payloads so far say.
use Rattle.std.proofs.Common.{◌≡◌, map, take}
use Rattle.proto_wire.specs.Fields.{field_view}
use Rattle.config_decode.specs.Values as values
use Rattle.config_decode.proofs.message.Message.read_payloads.Given as goal

abbrev pub invariant-loop-field : goal.invariant-loop-field
invariant-loop-field g l =
    l.said.items
    ≡ map g.T.FromPayload.said (values.payloads l.number (map field_view (take l.field-index l.field-items)))
