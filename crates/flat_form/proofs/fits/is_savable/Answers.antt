-- An item that is an atom can be spelled where the atom has no fault.
use Rattle.flat_form.proofs.fits.is_savable.Goals as goal

pub returns-in-AtomItem : goal.returns-in-AtomItem
returns-in-AtomItem c = rw c.in-AtomItem.is c.has_no_fault.ensures
