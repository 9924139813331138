-- The items that were seen can be spelled.
use Rattle.std.proofs.Common.{take}
use Rattle.flat_form.specs.Savable.{AreSavable}
use Rattle.flat_form.proofs.fits.are_savable.Given as goal

abbrev pub invariant-loop-item : goal.invariant-loop-item
invariant-loop-item l = AreSavable (take l.item-index l.all)
