-- Both the wire type and the number are compared.
use Rattle.std.proofs.Common.{rules}
use Rattle.proto_wire.proofs.tag.Tag.is_end_of.Goals as goal

pub returns-then-eq : goal.returns-then-eq
returns-then-eq c = search rules

pub returns-else-eq : goal.returns-else-eq
returns-else-eq c = search rules
