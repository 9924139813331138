-- The slots before this place are released.
use Rattle.std.proofs.Common.{take}
use Rattle.matcher_table.specs.Contents.{contents_of}
use Rattle.held_slots.specs.HoldingSteps.{ReleasesAll}
use Rattle.held_slots.proofs.held.HeldSlots.release.Given as goal

abbrev pub invariant-loop-number : goal.invariant-loop-number
invariant-loop-number l =
    ReleasesAll (contents_of l.fn.table) (take l.number-index l.self) (contents_of l.table)
