-- A name is built from its client and its id.
use Rattle.std.proofs.Common.{w32, w64}
use Rattle.std.proofs.lemmas.Int.{to_z-of_z}
use Rattle.std.proofs.lemmas.Result.{err_from_is_err_and}
use Rattle.hub_core.proofs.SavedConfigsLemmas.{name_fails, id_fails, name_built}
use Rattle.hub_core.proofs.carried.saved.build_name.Goals as goal

-- no client stands there
pub returns-in_err-uid : goal.returns-in_err-uid
returns-in_err-uid c =
    let p = err_from_is_err_and c.from_residual.result c.from_residual.ensures.1 in
    rw (p.1, p.2) (name_fails c.args.items.now c.args.place c.in_err-uid.field-0.0 c.in_err-uid.ensures)

-- no id stands after it
pub returns-in_err-id : goal.returns-in_err-id
returns-in_err-id c =
    let p = err_from_is_err_and c.from_residual-in_err-id.result c.from_residual-in_err-id.ensures.1 in
    rw (p.1, p.2) (id_fails c.args.items.now c.args.place c.in_ok-uid.uid c.in_ok-uid.middle c.in_ok-uid.ensures
    c.in_err-id.field-0.0 c.in_err-id.ensures)

-- the id stands after the client
pub returns : goal.returns
returns c =
    name_built c.args.items.now c.args.place c.in_ok-uid.uid c.in_ok-uid.middle c.in_ok-uid.ensures c.in_ok-id.id
    c.in_ok-id.next c.in_ok-id.ensures (to_z-of_z w32 c.in_ok-uid.uid c.in_ok-uid.ensures.is_valid)
    (to_z-of_z w64 c.in_ok-id.id c.in_ok-id.ensures.is_valid)
