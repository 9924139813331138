-- A group's records are one level deeper; what is left of them leads to the same end.
use Rattle.std.proofs.Common.{◌≡◌, ◌≤◌, length, ◌+◌, ◌-◌, ◌*◌}
use Rattle.proto_wire.specs.WireReading.{until_end, group_at}
use Rattle.proto_wire.proofs.group.+group.Given as goal

abbrev pub decreases-field_of : goal.decreases-field_of
decreases-field_of l = 3 * l.levels + 2

abbrev pub decreases-group_field : goal.decreases-group_field
decreases-group_field l = 3 * l.levels + 1

abbrev pub decreases-group_of : goal.decreases-group_of
decreases-group_of l = 3 * l.levels

abbrev pub invariant-group_of-loop-rest : goal.invariant-group_of-loop-rest
invariant-group_of-loop-rest l = record {
  within : length l.rest ≤ length l.bytes;
  leads : until_end (group_at l.end (l.levels - 1)) l.end (length l.rest) l.number l.at l.rest
      ≡ until_end (group_at l.end (l.levels - 1)) l.end (length l.bytes) l.number l.at l.bytes;
}

abbrev pub decreases-group_of-loop-rest : goal.decreases-group_of-loop-rest
decreases-group_of-loop-rest l = length l.rest
