use Rattle.std.proofs.Common.{◌<◌, ◌≤◌, ℕ, take}
use Rattle.matcher_table.specs.Slots.{times_among}
use Rattle.matcher_table.proofs.id_lists.add_missing.Given as goal

abbrev pub invariant-loop-id : goal.invariant-loop-id
invariant-loop-id l = record {
  once : (id : ℕ) → times_among id l.ids ≤ 1;
  kept : (id : ℕ) → 0 < times_among id l.fn.ids → 0 < times_among id l.ids;
  added : (id : ℕ) → 0 < times_among id (take l.id-index l.more) → 0 < times_among id l.ids;
}
