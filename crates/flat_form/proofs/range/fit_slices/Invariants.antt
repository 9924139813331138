-- Those that were seen fit.
use Rattle.std.proofs.Common.{take, All}
use Rattle.flat_form.specs.ItemRange.{IsSliceInRange}
use Rattle.flat_form.proofs.range.fit_slices.Given as goal

abbrev pub invariant-loop-one : goal.invariant-loop-one
invariant-loop-one l = All IsSliceInRange (take l.one-index l.slices)
