use Rattle.std.proofs.Common.{◌≡◌, ◌+◌, ◌-◌, ◌≤◌, ℕ, length, get_or, false}
use Rattle.matcher_table.proofs.counts.lengthen_truths.Given as goal

abbrev pub decreases-loop-truths : goal.decreases-loop-truths
decreases-loop-truths l = l.place + 1 - length l.truths.items

abbrev pub invariant-loop-truths : goal.invariant-loop-truths
invariant-loop-truths l = record {
  same : (s : ℕ) → get_or l.truths.items s false ≡ get_or l.fn.truths.items s false;
  longer : length l.fn.truths.items ≤ length l.truths.items;
}
