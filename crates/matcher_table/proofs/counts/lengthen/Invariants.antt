use Rattle.std.proofs.Common.{◌≡◌, ◌+◌, ◌-◌, ◌≤◌, ℕ, length, get_or}
use Rattle.matcher_table.proofs.counts.lengthen.Given as goal

abbrev pub decreases-loop-counts : goal.decreases-loop-counts
decreases-loop-counts l = l.place + 1 - length l.counts.items

abbrev pub invariant-loop-counts : goal.invariant-loop-counts
invariant-loop-counts l = record {
  same : (s : ℕ) → get_or l.counts.items s 0 ≡ get_or l.fn.counts.items s 0;
  longer : length l.fn.counts.items ≤ length l.counts.items;
}
