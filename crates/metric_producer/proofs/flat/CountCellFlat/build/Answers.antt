-- What a row of counts holds is built from its parts.
use Rattle.std.proofs.lemmas.Result.{err_from_is_err_and}
use Rattle.metric_producer.proofs.CellItemsLemmas.{cell_fails, cell_none, cell_built}
use Rattle.metric_producer.proofs.flat.CountCellFlat.build.Goals as goal

-- no such parts stand there
pub returns-in_err-form : goal.returns-in_err-form
returns-in_err-form c =
    let p = err_from_is_err_and c.from_residual.result c.from_residual.ensures.1 in
    rw (p.1, p.2) (cell_fails c.args.items.now c.args.place c.in_err-form.field-0.0 c.in_err-form.ensures)

-- the number that stands there doesn't say whether it is an overflow row
pub returns-in_default : goal.returns-in_default
returns-in_default c =
    cell_none c.args.items.now c.args.place c.in_ok-form.form c.in_ok-form.next c.in_ok-form.ensures
    c.in_default.ensures

-- what the parts make
pub returns : goal.returns
returns c =
    cell_built c.args.items.now c.args.place c.in_ok-form.form c.in_ok-form.next c.in_ok-form.ensures
    c.in-Some.overflow c.in-Some.ensures
