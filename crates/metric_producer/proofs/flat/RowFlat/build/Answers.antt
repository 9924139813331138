-- A row is built from its parts.
use Rattle.std.proofs.lemmas.Result.{err_from_is_err_and}
use Rattle.metric_producer.proofs.RowItemsLemmas.{row_fails, row_built}
use Rattle.metric_producer.proofs.flat.RowFlat.build.Goals as goal

-- no such parts stand there
pub returns-in_err-form : goal.returns-in_err-form
returns-in_err-form g c =
    let p = err_from_is_err_and c.from_residual.result c.from_residual.ensures.1 in
    rw (p.1, p.2) (row_fails g.V.Flat.valid g.V.Flat.flat c.args.items.now c.args.place c.in_err-form.field-0.0
    c.in_err-form.ensures)

-- the row of the parts
pub returns : goal.returns
returns g c = row_built g.V.Flat.valid g.V.Flat.flat c.args.items.now c.args.place c.in_ok-form.form c.in_ok-form.next
    c.in_ok-form.ensures
