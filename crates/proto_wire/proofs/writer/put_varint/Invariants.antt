-- What was put and what is left are the spelling, and the room is what it was.
use Rattle.std.proofs.Common.{◌≡◌, ◌++◌, vec_capacity}
use Rattle.proto_wire.specs.Spelling.{varint}
use Rattle.proto_wire.proofs.writer.put_varint.Given as goal

abbrev pub invariant-loop-rest : goal.invariant-loop-rest
invariant-loop-rest l = record {
  spelled : l.out.items ++ varint l.rest ≡ l.fn.out.items ++ varint l.value;
  room : vec_capacity l.out ≡ vec_capacity l.fn.out;
}

abbrev pub decreases-loop-rest : goal.decreases-loop-rest
decreases-loop-rest l = l.rest
