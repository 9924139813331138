use Rattle.std.proofs.lemmas.Result.{err_from_is_err_and}
use Rattle.flat_form.proofs.FlatLaws.{list_built, count_fails}
use Rattle.flat_form.proofs.flat.SeqFlat.build.Goals as goal

-- no number stands there
pub returns-in_err-count : goal.returns-in_err-count
returns-in_err-count g c =
    let p = err_from_is_err_and c.from_residual.result c.from_residual.ensures.1 in
    rw (p.1, p.2) (count_fails g.T.Flat.valid g.T.Flat.flat c.args.items.now c.args.place c.in_err-count.field-0.0
    c.in_err-count.ensures)

-- the elements stand after their number
pub returns : goal.returns
returns g c = list_built g.T.Flat.valid g.T.Flat.flat c.args.items.now c.args.place c.in_ok-count.count
    c.in_ok-count.middle c.in_ok-count.ensures c.build_all.result c.build_all.ensures
