-- The bytes of those that were seen.
use Rattle.std.proofs.Common.{◌≡◌, ◌-◌, ◌^◌, length, take}
use Rattle.std.specs.Prelude.{min}
use Rattle.std.specs.List.{flat_map}
use Rattle.flat_form.proofs.measure.measure_all.Given as goal

abbrev pub invariant-loop-one : goal.invariant-loop-one
invariant-loop-one g l = l.bytes ≡ min (length (flat_map g.T.Measure.spelling (take l.one-index l.all))) (2 ^ 64 - 1)
