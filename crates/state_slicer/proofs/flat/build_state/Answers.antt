-- A state is built from the number of its bits.
use Rattle.std.proofs.lemmas.Result.{err_from_is_err_and}
use Rattle.state_slicer.proofs.StateItemsLemmas.{state_fails}
use Rattle.state_slicer.proofs.flat.build_state.Goals as goal

-- no number stands there
pub returns-in_err-number : goal.returns-in_err-number
returns-in_err-number c =
    let p = err_from_is_err_and c.from_residual.result c.from_residual.ensures.1 in
    rw (p.1, p.2) (state_fails c.args.items.now c.args.place c.in_err-number.field-0.0 c.in_err-number.ensures)
