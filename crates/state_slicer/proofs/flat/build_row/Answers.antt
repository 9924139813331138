-- A key and a state are built from their parts.
use Rattle.std.proofs.Common.{sym, subst, w32}
use Rattle.std.proofs.lemmas.Int.{to_z-of_z}
use Rattle.std.proofs.lemmas.Result.{err_from_is_err_and}
use Rattle.flat_form.specs.Flat.{Anything, IsBuilt, dims_items}
use Rattle.flat_form.proofs.FlatLaws.{pair_built, first_fails, second_fails}
use Rattle.state_slicer.specs.StateItems.{state_items, FitsState, state_row_items, IsStateRow}
use Rattle.state_slicer.proofs.flat.build_row.Goals as goal

-- no key stands there
pub returns-in_err-key : goal.returns-in_err-key
returns-in_err-key c =
    let p = err_from_is_err_and c.from_residual.result c.from_residual.ensures.1 in
    rw (p.1, p.2) (first_fails Anything FitsState dims_items state_items c.args.items.now c.args.place
    c.in_err-key.field-0.0 c.in_err-key.ensures)

-- the state has a fault
pub returns-in_err-state : goal.returns-in_err-state
returns-in_err-state c =
    let p = err_from_is_err_and c.from_residual-in_err-state.result c.from_residual-in_err-state.ensures.1 in
    rw (p.1, p.2) (second_fails Anything FitsState dims_items state_items c.args.items.now c.args.place
    c.in_ok-key.key c.in_ok-key.middle c.in_ok-key.ensures c.in_err-state.field-0.0 c.in_err-state.ensures)

-- the state stands after the key
pub returns : goal.returns
returns c =
    subst
    (λ s. IsBuilt IsStateRow state_row_items c.args.items.now c.args.place (c.in_ok-key.key, s) c.in_ok-state.next)
    (sym (to_z-of_z w32 c.in_ok-state.state c.in_ok-state.ensures.is_valid))
    (pair_built Anything FitsState dims_items state_items c.args.items.now c.args.place c.in_ok-key.key
    c.in_ok-state.state c.in_ok-key.middle c.in_ok-state.next c.in_ok-key.ensures c.in_ok-state.ensures)
