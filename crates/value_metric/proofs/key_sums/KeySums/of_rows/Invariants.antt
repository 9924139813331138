-- The sums are the rows so far, and no key of these comes twice.
use Rattle.std.proofs.Common.{◌≡◌}
use Rattle.value_metric.specs.SumsItems.{HaveOwnKeys}
use Rattle.value_metric.proofs.key_sums.KeySums.of_rows.Given as goal

abbrev pub invariant-loop-key : goal.invariant-loop-key
invariant-loop-key l = (l.sums ≡ l.yielded) × HaveOwnKeys l.yielded
