use Rattle.std.proofs.Common.{◌≡◌, ◌<◌, ℕ, take}
use Rattle.matcher_table.specs.Slots.{times_among}
use Rattle.matcher_table.specs.Hanging.{slots_under, LeavesList}
use Rattle.matcher_table.proofs.hanging.AtomSlots.leave_all.Given as goal

abbrev pub invariant-loop-id : goal.invariant-loop-id
invariant-loop-id l = record {
  left : (id : ℕ) → 0 < times_among id (take l.id-index l.ids)
      → LeavesList l.slot (slots_under l.fn.self id) (slots_under l.self id);
  apart : (id : ℕ) → times_among id (take l.id-index l.ids) ≡ 0 → slots_under l.self id ≡ slots_under l.fn.self id;
  ids : l.self.ids ≡ l.fn.self.ids;
}
