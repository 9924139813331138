-- The number is judged before the wire type.
use Rattle.std.proofs.Common.{rules}
use Rattle.proto_wire.specs.WireReading.{tag_of}
use Rattle.proto_wire.proofs.tag.judge.Goals as goal

pub returns-in-Some : goal.returns-in-Some
unfolding tag_of
returns-in-Some c = search rules

pub returns-in-None : goal.returns-in-None
unfolding tag_of
returns-in-None c = search rules
