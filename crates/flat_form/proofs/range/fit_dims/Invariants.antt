-- Those that were seen fit.
use Rattle.std.proofs.Common.{take, All}
use Rattle.flat_form.specs.ItemRange.{IsLeafInRange}
use Rattle.flat_form.proofs.range.fit_dims.Given as goal

abbrev pub invariant-loop-at : goal.invariant-loop-at
invariant-loop-at l = All IsLeafInRange (take l.at l.dims)
