-- A table is built from its parts.
use Rattle.std.proofs.lemmas.Result.{err_from_is_err_and}
use Rattle.predicate_state.proofs.FormLemmas.{parts_fail, table_made, none_made}
use Rattle.predicate_state.proofs.flat.PredTableFlat.build.Goals as goal

-- the parts don't stand there
pub returns-in_err-form : goal.returns-in_err-form
returns-in_err-form c =
    let p = err_from_is_err_and c.from_residual.result c.from_residual.ensures.1 in
    rw (p.1, p.2) (parts_fail c.args.items.now c.args.place c.in_err-form.field-0.0 c.in_err-form.ensures)

-- no table has the parts that stand there
pub returns-in_default : goal.returns-in_default
returns-in_default c =
    none_made c.args.items.now c.args.place c.in_ok-form.form c.in_ok-form.next c.in_ok-form.ensures
    c.in_default.ensures

-- the table has the parts that stand there
pub returns : goal.returns
returns c =
    table_made c.args.items.now c.args.place c.in_ok-form.form c.in_ok-form.next c.in_ok-form.ensures
    c.in-Some.table c.in-Some.ensures
