use Rattle.std.proofs.Common.{◌≡◌, ◌≤◌, ℕ, length}
use Rattle.matcher_table.specs.Hanging.{slots_at}
use Rattle.matcher_table.proofs.low_lists.make_room.Given as goal

abbrev pub invariant-loop-turn : goal.invariant-loop-turn
invariant-loop-turn l = record {
  same : (other : ℕ) → slots_at l.lists.items other ≡ slots_at l.fn.lists.items other;
  room : l._turn ≤ length l.lists.items;
}
