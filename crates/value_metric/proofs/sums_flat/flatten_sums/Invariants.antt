-- What was added are the items of the sums that were seen, and each is one.
use Rattle.std.proofs.Common.{◌≡◌, ◌++◌, All, take}
use Rattle.std.specs.List.{flat_map}
use Rattle.value_metric.specs.SumsItems.{sum_items, IsSum}
use Rattle.value_metric.proofs.sums_flat.flatten_sums.Given as goal

abbrev pub invariant-loop-place : goal.invariant-loop-place
invariant-loop-place l =
    (l.out ≡ l.fn.out ++ flat_map sum_items (take l.place l.sums)) × All IsSum (take l.place l.sums)
