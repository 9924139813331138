-- What stands before the place, what is left of the number, and what is after the place are all that is to be.
use Rattle.std.proofs.Common.{◌≡◌, ◌++◌, ◌+◌, ◌<◌, take, drop, vec_len}
use Rattle.proto_wire.specs.Spelling.{varint}
use Rattle.proto_wire.proofs.writer.put_varint_at.Given as goal

abbrev pub invariant-loop-rest : goal.invariant-loop-rest
invariant-loop-rest l = record {
  spelled : take l.at l.bytes.items ++ (varint l.rest ++ drop (l.at + 1) l.bytes.items)
      ≡ take l.place l.fn.bytes.items ++ (varint l.value ++ drop (l.place + 1) l.fn.bytes.items);
  there : l.at < vec_len l.bytes;
}

abbrev pub decreases-loop-rest : goal.decreases-loop-rest
decreases-loop-rest l = l.rest
