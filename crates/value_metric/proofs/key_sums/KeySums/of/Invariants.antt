-- The sums are those of the integers so far.
use Rattle.std.proofs.Common.{◌≡◌}
use Rattle.metric_kinds.specs.Diffs.{key_sums}
use Rattle.value_metric.specs.PulledValues.{keyed_ints}
use Rattle.value_metric.proofs.key_sums.KeySums.of.Given as goal

abbrev pub invariant-loop-integer : goal.invariant-loop-integer
invariant-loop-integer l = l.sums ≡ key_sums (keyed_ints l.yielded)
