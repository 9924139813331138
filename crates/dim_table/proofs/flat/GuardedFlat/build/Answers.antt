use Rattle.std.proofs.lemmas.Result.{err_from_is_err_and}
use Rattle.std.proofs.Common.{refl}
use Rattle.dim_table.specs.Table.{IsBounded}
use Rattle.dim_table.proofs.TableItemsLemmas.{head_fails, table_built}
use Rattle.dim_table.proofs.flat.GuardedFlat.build.Goals as goal

-- no head stands there
pub returns-in_err-head : goal.returns-in_err-head
returns-in_err-head g c =
    let p = err_from_is_err_and c.from_residual.result c.from_residual.ensures.1 in
    rw (p.1, p.2) (head_fails g.K.Flat.valid g.V.Flat.valid g.K.Flat.flat g.V.Flat.flat c.args.items.now c.args.place
    c.in_err-head.field-0.0 c.in_err-head.ensures)

-- the rows stand after the head
pub returns : goal.returns
returns g c =
    let fits : IsBounded c.in_ok-head.head.1 c.in_ok-head.head.0.0 = c.if-not-may_hold.ensures.0 refl in
    table_built g.K.Flat.valid g.V.Flat.valid g.K.Flat.flat g.V.Flat.flat c.args.items.now c.args.place
    c.in_ok-head.head c.in_ok-head.middle c.in_ok-head.ensures fits c.restore-empty.result
    c.restore-empty.ensures c.build_rows.result c.build_rows.ensures
