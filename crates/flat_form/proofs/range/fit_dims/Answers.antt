-- One more leaf fits, and in the end all do.
use Rattle.std.proofs.lemmas.List.{get_or_default}
use Rattle.std.proofs.Common.{get_or}
use Rattle.atom_record.specs.declared.value.Leaf.TheVariants.{Missing}
use Rattle.atom_record.proofs.LoopLemmas.{holds_one, holds_all}
use Rattle.flat_form.specs.ItemRange.{IsLeafInRange}
use Rattle.flat_form.proofs.range.fit_dims.Goals as goal

pub loop-at-preserved : goal.loop-at-preserved
loop-at-preserved c =
    let below = rw c.len-at-end.ensures at c.loop-at-test.true in
    holds_one c.args.dims.now c.loop-at.at (get_or c.args.dims.now c.loop-at.at Missing) below
    (get_or_default c.args.dims.now c.loop-at.at Missing (get_or c.args.dims.now c.loop-at.at Missing) below)
    IsLeafInRange c.loop-at.invariant c.fit_leaf_at.ensures

pub returns : goal.returns
returns c =
    holds_all c.args.dims.now c.loop-at.at (rw c.len-at-end.ensures at c.loop-at-test.false) IsLeafInRange
    c.loop-at.invariant
