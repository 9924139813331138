-- One more can be spelled, and in the end all can.
use Rattle.atom_record.proofs.LoopLemmas.{holds_one}
use Rattle.flat_form.specs.Savable.{IsSavable}
use Rattle.flat_form.proofs.FitsLemmas.{all_pass}
use Rattle.flat_form.proofs.fits.are_savable.Goals as goal

pub loop-item-preserved : goal.loop-item-preserved
loop-item-preserved c =
    holds_one c.args.all.now c.loop-item.item-index c.item-item.result c.loop-item-test.true c.item-item.is IsSavable
    c.loop-item.invariant (c.in_ok-can.ensures.0 c.if-not-can.false)

pub returns : goal.returns
returns c = all_pass IsSavable c.args.all.now c.loop-item.item-index c.loop-item-test.false c.loop-item.invariant
