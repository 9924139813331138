-- Those that were seen are short.
use Rattle.std.proofs.Common.{take, All}
use Rattle.flat_form.proofs.fits.are_short.Given as goal

abbrev pub invariant-loop-one : goal.invariant-loop-one
invariant-loop-one g l = All g.T.Short.short (take l.one-index l.all)
