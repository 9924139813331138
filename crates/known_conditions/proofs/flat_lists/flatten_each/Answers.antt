-- The items of one more come after those of the others.
use Rattle.known_conditions.proofs.SavedListsLemmas.{front_before, on_failure}
use Rattle.atom_record.proofs.LoopLemmas.{adds_one, adds_all}
use Rattle.known_conditions.proofs.flat_lists.flatten_each.Goals as goal

pub loop-value-preserved : goal.loop-value-preserved
loop-value-preserved g c =
    adds_one c.args.all.now c.loop-value.value-index c.value-item.result c.loop-value-test.true c.value-item.is
    g.T.Flat.flat _ _ _ c.loop-value.invariant c.in_ok-flatten.ensures.added

pub returns-clause-added : goal.returns-clause-added
returns-clause-added g c = adds_all c.args.all.now c.loop-value.value-index c.loop-value-test.false g.T.Flat.flat _ _
    c.loop-value.invariant

-- some of the items of one stand after those of the others
pub returns-in_err-flatten-clause-err : goal.returns-in_err-flatten-clause-err
returns-in_err-flatten-clause-err g c =
    on_failure c.from_residual.result (front_before _ _ _ _ c.loop-value.invariant c.in_err-flatten.ensures.err)
