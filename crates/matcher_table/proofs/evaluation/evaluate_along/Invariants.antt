use Rattle.std.proofs.Common.{◌≡◌, ◌≢◌, ◌<◌, ℕ, cond, get_or, take, false, None}
use Rattle.std.specs.List.{sum_by}
use Rattle.matcher_table.specs.Slots.{matcher_at, times_among}
use Rattle.matcher_table.specs.Trees.{slot_tree}
use Rattle.matcher_table.specs.Truths.{tree_truth, asks_about, HaveRisen}
use Rattle.matcher_table.proofs.evaluation.evaluate_along.Given as goal

abbrev pub invariant-loop-slot : goal.invariant-loop-slot
invariant-loop-slot g l = record {
  done : (y : ℕ) → 0 < times_among y (take l.slot-index l.group)
      → get_or l.results y false ≡ tree_truth g.J.Judge.says l.atom (slot_tree l.bodies.slots y);
  rest : (y : ℕ) → matcher_at l.bodies.slots y ≢ None → times_among y l.group ≡ 0
      → get_or l.results y false ≡ tree_truth g.J.Judge.says l.atom (slot_tree l.bodies.slots y);
  asked : HaveRisen (sum_by (λ s. cond (asks_about l.atom (matcher_at l.bodies.slots s)) 1 0)
      (take l.slot-index l.group))
      (g.J.Judge.ticks l.fn.judge) (g.J.Judge.ticks l.judge);
}
