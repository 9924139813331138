use Rattle.std.proofs.lemmas.Result.{err_from_is_err_and}
use Rattle.flat_form.proofs.FlatLaws.{option_fails, found_built, found_fails}
use Rattle.flat_form.proofs.flat.OptionFlat.build.Goals as goal

-- no number stands there
pub returns-in_err-count : goal.returns-in_err-count
returns-in_err-count g c =
    let p = err_from_is_err_and c.from_residual.result c.from_residual.ensures.1 in
    rw (p.1, p.2) (option_fails g.T.Flat.valid g.T.Flat.flat c.args.items.now c.args.place c.in_err-count.field-0.0
    c.in_err-count.ensures)

-- no value stands after the 1
pub returns-in_err-value-in-1 : goal.returns-in_err-value-in-1
returns-in_err-value-in-1 g c =
    let p = err_from_is_err_and c.from_residual-in_err-value-in-1.result
    c.from_residual-in_err-value-in-1.ensures.1 in
    rw (p.1, p.2) (found_fails g.T.Flat.valid g.T.Flat.flat c.args.items.now c.args.place c.in_ok-count.count
    c.in_ok-count.middle c.in_ok-count.ensures c.in-1.is c.in_err-value-in-1.field-0.0 c.in_err-value-in-1.ensures)

-- a value stands after it
pub returns-in_ok-value-in-1 : goal.returns-in_ok-value-in-1
returns-in_ok-value-in-1 g c =
    found_built g.T.Flat.valid g.T.Flat.flat c.args.items.now c.args.place c.in_ok-count.count c.in_ok-count.middle
    c.in_ok-count.ensures c.in-1.is c.in_ok-value-in-1.value c.in_ok-value-in-1.next c.in_ok-value-in-1.ensures
