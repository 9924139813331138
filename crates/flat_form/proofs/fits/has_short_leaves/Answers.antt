-- One more leaf is short, and in the end all are.
use Rattle.atom_record.specs.declared.value.Leaf.TheVariants.{Missing}
use Rattle.flat_form.specs.Savable.{IsShortLeaf}
use Rattle.flat_form.proofs.FitsLemmas.{one_passes, all_pass}
use Rattle.flat_form.proofs.fits.has_short_leaves.Goals as goal

pub loop-at-preserved : goal.loop-at-preserved
loop-at-preserved c =
    one_passes IsShortLeaf c.args.dims.now c.loop-at.at Missing (rw c.len-at-end.ensures at c.loop-at-test.true)
    c.loop-at.invariant (c.is_short_at.ensures.0 c.if-not-is_short_at.false)

pub returns : goal.returns
returns c =
    all_pass IsShortLeaf c.args.dims.now c.loop-at.at (rw c.len-at-end.ensures at c.loop-at-test.false)
    c.loop-at.invariant
