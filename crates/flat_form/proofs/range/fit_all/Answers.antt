-- One more fits, and in the end all do.
use Rattle.atom_record.proofs.LoopLemmas.{holds_one, holds_all}
use Rattle.flat_form.specs.ItemRange.{IsItemInRange}
use Rattle.flat_form.proofs.range.fit_all.Goals as goal

pub loop-item-preserved : goal.loop-item-preserved
loop-item-preserved c =
    holds_one c.args.items.now c.loop-item.item-index c.item-item.result c.loop-item-test.true c.item-item.is
    IsItemInRange c.loop-item.invariant
    c.fit_item.ensures

pub returns : goal.returns
returns c = holds_all c.args.items.now c.loop-item.item-index c.loop-item-test.false IsItemInRange c.loop-item.invariant
