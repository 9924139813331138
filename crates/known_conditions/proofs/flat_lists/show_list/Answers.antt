-- One more is valid, and in the end all are.
use Rattle.atom_record.proofs.LoopLemmas.{holds_one, holds_all}
use Rattle.known_conditions.proofs.flat_lists.show_list.Goals as goal

pub loop-value-preserved : goal.loop-value-preserved
loop-value-preserved g c =
    holds_one c.args.all.now c.loop-value.value-index c.value-item.result c.loop-value-test.true c.value-item.is
    g.T.Flat.valid c.loop-value.invariant c.show_valid.ensures

pub returns : goal.returns
returns g c = holds_all c.args.all.now c.loop-value.value-index c.loop-value-test.false g.T.Flat.valid
    c.loop-value.invariant
