use Rattle.std.proofs.Common.{◌≢◌, ◌<◌, ℕ, None, get_or}
use Rattle.matcher_table.specs.declared.table.Slot.{Slot}
use Rattle.matcher_table.specs.Slots.{matcher_at}
use Rattle.matcher_table.specs.Contents.{contents_of}
use Rattle.matcher_table_tests.proofs.shared.are_live.Given as goal

-- the slots up to here are live
abbrev pub invariant-loop-slot : goal.invariant-loop-slot
invariant-loop-slot l = (k : ℕ) (default : Slot) → k < l.slot-index
    → matcher_at (contents_of l.table).slots (get_or l.slots k default).number ≢ None
