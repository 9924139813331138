-- The bytes in front of the last ones.
use Rattle.std.proofs.Common.{rules}
use Rattle.proto_wire.proofs.group.until.Goals as goal

pub returns : goal.returns
returns c = search rules
