-- The leaves that were seen are short.
use Rattle.std.proofs.Common.{take, All}
use Rattle.flat_form.specs.Savable.{IsShortLeaf}
use Rattle.flat_form.proofs.fits.has_short_leaves.Given as goal

abbrev pub invariant-loop-at : goal.invariant-loop-at
invariant-loop-at l = All IsShortLeaf (take l.at l.dims)
