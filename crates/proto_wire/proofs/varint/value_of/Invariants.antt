-- The groups that were taken, from the high one down, make the value so far.
use Rattle.std.proofs.Common.{◌≡◌, ◌%◌, ◌^◌, reverse, map}
use Rattle.proto_wire.specs.WireReading.{groups_value}
use Rattle.proto_wire.proofs.varint.value_of.Given as goal

abbrev pub invariant-loop-byte : goal.invariant-loop-byte
invariant-loop-byte l = l.value ≡ groups_value (reverse (map (λ byte. byte.now) l.yielded)) % 2 ^ 64
