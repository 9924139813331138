-- The sums that were seen are some.
use Rattle.std.proofs.Common.{All, take}
use Rattle.value_metric.specs.SumsItems.{IsSum}
use Rattle.value_metric.proofs.sums_flat.show_sums.Given as goal

abbrev pub invariant-loop-place : goal.invariant-loop-place
invariant-loop-place l = All IsSum (take l.place l.sums)
