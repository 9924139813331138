-- A client is built from the number of its bits.
use Rattle.std.proofs.lemmas.Result.{err_from_is_err_and}
use Rattle.hub_core.proofs.SavedConfigsLemmas.{uid_fails}
use Rattle.hub_core.proofs.carried.saved.build_uid.Goals as goal

-- no number stands there
pub returns-in_err-bits : goal.returns-in_err-bits
returns-in_err-bits c =
    let p = err_from_is_err_and c.from_residual.result c.from_residual.ensures.1 in
    rw (p.1, p.2) (uid_fails c.args.items.now c.args.place c.in_err-bits.field-0.0 c.in_err-bits.ensures)
