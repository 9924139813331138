-- A message inside is one level deeper, and what is left of a message gets shorter.
use Rattle.std.proofs.Common.{◌≡◌, Result, length, ◌+◌, ◌-◌, ◌*◌}
use Rattle.config_decode.specs.declared.fault.DecodeFault.{DecodeFault}
use Rattle.config_decode.specs.declared.walk.Walker.{Walker}
use Rattle.config_decode.specs.Walk.{walk_in}
use Rattle.config_decode.specs.Walks.{Walks}
use Rattle.config_decode.proofs.walk.Walker.+walk.Given as goal

abbrev pub decreases-message : goal.decreases-message
decreases-message l = 3 * (100 - l.records.depth) + 2

abbrev pub decreases-record : goal.decreases-record
decreases-record l = 3 * (100 - l.records.now.depth) + 1

abbrev pub decreases-inside : goal.decreases-inside
decreases-inside l = 3 * (100 - l.records.now.depth)

-- what ends the walk of the rest ends the walk of the whole
abbrev pub invariant-message-loop-field : goal.invariant-message-loop-field
invariant-message-loop-field l = record {
  depth : l.records.depth ≡ l.fn.records.depth;
  path : l.self.path.items ≡ l.fn.self.path.items;
  leads : (last : Walker) (result : Result Unit DecodeFault)
      → Walks (walk_in (100 - l.fn.records.depth) l.fn.self.path.items l.kind l.records) l.self last result
      → Walks (walk_in (100 - l.fn.records.depth) l.fn.self.path.items l.kind l.fn.records) l.fn.self last result;
}

abbrev pub decreases-message-loop-field : goal.decreases-message-loop-field
decreases-message-loop-field l = length l.records.bytes
