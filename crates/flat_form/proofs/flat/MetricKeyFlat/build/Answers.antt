use Rattle.std.proofs.lemmas.Result.{err_from_is_err_and}
use Rattle.flat_form.proofs.FlatLaws.{key_built, key_dims_fails, key_slices_fails}
use Rattle.flat_form.proofs.flat.MetricKeyFlat.build.Goals as goal

-- no dimensions stand there
pub returns-in_err-dims : goal.returns-in_err-dims
returns-in_err-dims c =
    let p = err_from_is_err_and c.from_residual.result c.from_residual.ensures.1 in
    rw (p.1, p.2) (key_dims_fails c.args.items.now c.args.place c.in_err-dims.field-0.0 c.in_err-dims.ensures)

-- no slices stand after them
pub returns-in_err-slices : goal.returns-in_err-slices
returns-in_err-slices c =
    let p = err_from_is_err_and c.from_residual-in_err-slices.result c.from_residual-in_err-slices.ensures.1 in
    rw (p.1, p.2) (key_slices_fails c.args.items.now c.args.place c.in_ok-dims.middle c.in_ok-dims.dims
    c.in_ok-dims.ensures c.in_err-slices.field-0.0 c.in_err-slices.ensures)

pub returns : goal.returns
returns c = key_built c.args.items.now c.args.place c.in_ok-dims.middle c.in_ok-slices.next c.in_ok-dims.dims
    c.in_ok-slices.slices c.in_ok-dims.ensures c.in_ok-slices.ensures
