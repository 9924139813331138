-- An instance is built of what was saved of it.
use Rattle.std.proofs.lemmas.Result.{err_from_is_err_and}
use Rattle.client_engine.proofs.SavedInstancesLemmas.{instance_fails, no_instance, instance_built}
use Rattle.client_engine.proofs.instance.Instance.build.Goals as goal

-- nothing of the kind stands there
pub returns-in_err-form : goal.returns-in_err-form
returns-in_err-form c =
    let p = err_from_is_err_and c.from_residual.result c.from_residual.ensures.1 in
    rw (p.1, p.2) (instance_fails c.args.linked c.args.items.now c.args.place c.in_err-form.field-0.0
    c.in_err-form.ensures)

-- it was saved of no instance of this configuration
pub returns-in_err-instance : goal.returns-in_err-instance
returns-in_err-instance c =
    let p = err_from_is_err_and c.from_residual-in_err-instance.result c.from_residual-in_err-instance.ensures.1 in
    rw (p.1, p.2) (no_instance c.args.linked c.args.items.now c.args.place c.in_ok-form.form c.in_ok-form.next
    c.in_ok-form.ensures c.in_err-instance.field-0.0 c.in_err-instance.ensures)

-- it was saved of this one
pub returns : goal.returns
returns c =
    instance_built c.args.linked c.args.items.now c.args.place c.in_ok-form.form c.in_ok-form.next c.in_ok-form.ensures
    c.in_ok-instance.instance c.in_ok-instance.ensures
