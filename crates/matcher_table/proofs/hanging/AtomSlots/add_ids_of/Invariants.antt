use Rattle.std.proofs.Common.{◌≤◌, ℕ, take}
use Rattle.matcher_table.specs.Slots.{times_among}
use Rattle.matcher_table.specs.Hanging.{IsUnderAll}
use Rattle.matcher_table.proofs.hanging.AtomSlots.add_ids_of.Given as goal

abbrev pub invariant-loop-slot : goal.invariant-loop-slot
invariant-loop-slot l = record {
  once : (id : ℕ) → times_among id l.ids ≤ 1;
  added : IsUnderAll l.self (take l.slot-index l.slots) l.ids;
}
