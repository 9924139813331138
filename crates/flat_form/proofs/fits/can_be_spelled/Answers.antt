-- All can be spelled where those can that are held as they are.
use Rattle.flat_form.specs.Savable.{IsSavable}
use Rattle.flat_form.proofs.FitsLemmas.{if_later}
use Rattle.flat_form.proofs.fits.can_be_spelled.Goals as goal

pub returns : goal.returns
returns c =
    rw c.parts.ensures (if_later IsSavable c.are_savable.result c.parts.result.0.now c.parts.result.1.now
    c.show_spelled.ensures.0 c.are_savable.ensures)
