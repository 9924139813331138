-- A live configuration is built from its name, its bytes, and the instance of what they say.
use Rattle.std.proofs.Common.{Ok, Err, w32}
use Rattle.std.proofs.lemmas.Int.{to_z-of_z}
use Rattle.std.proofs.lemmas.Result.{err_from_is_err_and}
use Rattle.hub_core.proofs.SavedConfigsLemmas.{no_name, no_bytes, no_instance, carried_built, built_as}
use Rattle.hub_core.proofs.carried.saved.CarriedFlat.build.Goals as goal

pub returns-in_err-name : goal.returns-in_err-name
returns-in_err-name c =
    let p = err_from_is_err_and c.from_residual.result c.from_residual.ensures.1 in
    rw (p.1, p.2) (no_name c.args.items.now c.args.place c.in_err-name.field-0.0 c.in_err-name.ensures)

pub returns-in_err-config : goal.returns-in_err-config
returns-in_err-config c =
    let p = err_from_is_err_and c.from_residual-in_err-config.result c.from_residual-in_err-config.ensures.1 in
    rw (p.1, p.2) (no_bytes c.args.items.now c.args.place c.in_ok-name.name c.in_ok-name.middle c.in_ok-name.ensures
    c.in_err-config.field-0.0 c.in_err-config.ensures)

pub returns-in_err-instance : goal.returns-in_err-instance
returns-in_err-instance c =
    let p = err_from_is_err_and c.from_residual-in_err-instance.result c.from_residual-in_err-instance.ensures.1 in
    rw (p.1, p.2) (no_instance c.args.items.now c.args.place c.in_ok-name.name c.in_ok-name.middle
    c.in_ok-name.ensures c.in_ok-config.config c.in_ok-config.after c.in_ok-config.ensures
    c.in_err-instance.field-0.0 (built_as (to_z-of_z w32 c.in_ok-name.name.uid c.in_ok-name.ensures.is_valid.0)
    c.as_slice.ensures c.args.items.now c.in_ok-config.after (Err c.in_err-instance.field-0.0)
    c.in_err-instance.ensures))

pub returns : goal.returns
returns c =
    carried_built c.args.items.now c.args.place c.in_ok-name.name c.in_ok-name.middle c.in_ok-name.ensures
    c.in_ok-config.config c.in_ok-config.after c.in_ok-config.ensures c.in_ok-instance.instance c.in_ok-instance.next
    (built_as (to_z-of_z w32 c.in_ok-name.name.uid c.in_ok-name.ensures.is_valid.0) c.as_slice.ensures
    c.args.items.now c.in_ok-config.after (Ok (c.in_ok-instance.instance, c.in_ok-instance.next))
    c.in_ok-instance.ensures)
