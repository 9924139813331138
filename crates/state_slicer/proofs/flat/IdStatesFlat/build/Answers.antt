-- The states of an id are built from their head and their rows.
use Rattle.std.proofs.Common.{arith}
use Rattle.std.proofs.lemmas.Result.{err_from_is_err_and}
use Rattle.state_slicer.proofs.StateItemsLemmas.{states_fail, states_built}
use Rattle.state_slicer.proofs.flat.IdStatesFlat.build.Goals as goal

-- no head stands there
pub returns-in_err-head : goal.returns-in_err-head
returns-in_err-head c =
    let p = err_from_is_err_and c.from_residual.result c.from_residual.ensures.1 in
    rw (p.1, p.2) (states_fail c.args.items.now c.args.place c.in_err-head.field-0.0 c.in_err-head.ensures)

-- the rows stand after the head
pub returns : goal.returns
returns c =
    states_built c.args.items.now c.args.place c.in_ok-head.head c.in_ok-head.middle c.in_ok-head.ensures
    c.restore-empty.result (omega (arith, c.if-bound.false)) (omega (arith, c.if-count-bound.false))
    c.restore-empty.ensures c.build_rows.result c.build_rows.ensures
