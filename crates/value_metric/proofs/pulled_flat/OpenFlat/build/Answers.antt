-- An interval is built from its form.
use Rattle.std.proofs.lemmas.Result.{err_from_is_err_and}
use Rattle.value_metric.proofs.PulledValueItemsLemmas.{open_fails, open_built}
use Rattle.value_metric.proofs.pulled_flat.OpenFlat.build.Goals as goal

-- no form stands there
pub returns-in_err-form : goal.returns-in_err-form
returns-in_err-form c =
    let p = err_from_is_err_and c.from_residual.result c.from_residual.ensures.1 in
    rw (p.1, p.2) (open_fails c.args.items.now c.args.place c.in_err-form.field-0.0 c.in_err-form.ensures)

-- the interval of the form
pub returns : goal.returns
returns c =
    open_built c.args.items.now c.args.place c.in_ok-form.form c.in_ok-form.next c.in_ok-form.ensures c.open_by.result
    c.open_by.ensures
