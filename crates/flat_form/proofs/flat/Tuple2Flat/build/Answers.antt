use Rattle.std.proofs.lemmas.Result.{err_from_is_err_and}
use Rattle.flat_form.proofs.FlatLaws.{pair_built, first_fails, second_fails}
use Rattle.flat_form.proofs.flat.Tuple2Flat.build.Goals as goal

-- the first part has a fault
pub returns-in_err-first : goal.returns-in_err-first
returns-in_err-first g c =
    let p = err_from_is_err_and c.from_residual.result c.from_residual.ensures.1 in
    rw (p.1, p.2) (first_fails g.A.Flat.valid g.B.Flat.valid g.A.Flat.flat g.B.Flat.flat c.args.items.now
    c.args.place c.in_err-first.field-0.0 c.in_err-first.ensures)

-- the second part has a fault
pub returns-in_err-second : goal.returns-in_err-second
returns-in_err-second g c =
    let p = err_from_is_err_and c.from_residual-in_err-second.result c.from_residual-in_err-second.ensures.1 in
    rw (p.1, p.2) (second_fails g.A.Flat.valid g.B.Flat.valid g.A.Flat.flat g.B.Flat.flat c.args.items.now
    c.args.place c.in_ok-first.first c.in_ok-first.middle c.in_ok-first.ensures c.in_err-second.field-0.0
    c.in_err-second.ensures)

pub returns : goal.returns
returns g c =
    pair_built g.A.Flat.valid g.B.Flat.valid g.A.Flat.flat g.B.Flat.flat c.args.items.now c.args.place
    c.in_ok-first.first c.in_ok-second.second c.in_ok-first.middle c.in_ok-second.next c.in_ok-first.ensures
    c.in_ok-second.ensures
