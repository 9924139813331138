-- The rows so far weigh what was taken away, and each of them one at least.
use Rattle.std.proofs.Common.{◌≡◌, ◌+◌, ◌≤◌, sum_by, take}
use Rattle.kept_rows.proofs.kept.weigh_together.Given as goal

abbrev pub invariant-loop-row : goal.invariant-loop-row
invariant-loop-row g l = record {
  weighs : l.left + sum_by g.R.Weighed.weigh (take l.row-index l.rows) ≡ l.used;
  some : l.row-index + l.left ≤ l.used;
}
