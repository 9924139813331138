-- It is built from its parts.
use Rattle.std.proofs.lemmas.Result.{err_from_is_err_and}
use Rattle.duration_metric.proofs.InnerItemsLemmas.{inner_fails, inner_none, inner_built}
use Rattle.duration_metric.proofs.flat.InnerFlat.build.Goals as goal

-- no such parts stand there
pub returns-in_err-form : goal.returns-in_err-form
returns-in_err-form c =
    let p = err_from_is_err_and c.from_residual.result c.from_residual.ensures.1 in
    rw (p.1, p.2) (inner_fails c.args.items.now c.args.place c.in_err-form.field-0.0 c.in_err-form.ensures)

-- the number that stands there is no flag's
pub returns-in_default : goal.returns-in_default
returns-in_default c =
    inner_none c.args.items.now c.args.place c.in_ok-form.form c.in_ok-form.next c.in_ok-form.ensures
    c.in_default.ensures

-- what the parts make
pub returns : goal.returns
returns c =
    inner_built c.args.items.now c.args.place c.in_ok-form.form c.in_ok-form.next c.in_ok-form.ensures
    c.in-Some.tallied c.in-Some.ensures
