-- The bytes of the leaves so far.
use Rattle.std.proofs.Common.{◌≡◌, ◌-◌, ◌^◌, length, take}
use Rattle.std.specs.Prelude.{min}
use Rattle.std.specs.List.{flat_map}
use Rattle.flat_form.specs.ItemSpelling.{spelled_leaf}
use Rattle.flat_form.proofs.measure.measure_leaves.Given as goal

abbrev pub invariant-loop-at : goal.invariant-loop-at
invariant-loop-at l = l.bytes ≡ min (length (flat_map spelled_leaf (take l.at l.dims))) (2 ^ 64 - 1)
