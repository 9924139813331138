-- One more fits, and in the end all do.
use Rattle.atom_record.proofs.LoopLemmas.{holds_one, holds_all}
use Rattle.atom_record.specs.AtomSound.{IsInRange}
use Rattle.flat_form.proofs.range.fit_values.Goals as goal

pub loop-value-preserved : goal.loop-value-preserved
loop-value-preserved c =
    holds_one c.args.values.now c.loop-value.value-index c.value-item.result c.loop-value-test.true c.value-item.is
    IsInRange c.loop-value.invariant
    c.fit_value.ensures

pub returns : goal.returns
returns c =
    holds_all c.args.values.now c.loop-value.value-index c.loop-value-test.false IsInRange c.loop-value.invariant
