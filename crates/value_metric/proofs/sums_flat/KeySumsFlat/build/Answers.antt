-- Sums are built from their rows.
use Rattle.std.proofs.Common.{subst}
use Rattle.std.proofs.lemmas.Result.{err_from_is_err_and}
use Rattle.value_metric.specs.SumsItems.{IsSumsOf}
use Rattle.value_metric.proofs.SumsItemsLemmas.{sums_fails, sums_twice, sums_built}
use Rattle.value_metric.proofs.sums_flat.KeySumsFlat.build.Goals as goal

-- no rows stand there
pub returns-in_err-rows : goal.returns-in_err-rows
returns-in_err-rows c =
    let p = err_from_is_err_and c.from_residual.result c.from_residual.ensures.1 in
    rw (p.1, p.2) (sums_fails c.args.items.now c.args.place c.in_err-rows.field-0.0 c.in_err-rows.ensures)

-- a key comes twice
pub returns-in-None : goal.returns-in-None
returns-in-None c =
    sums_twice c.args.items.now c.args.place c.in_ok-rows.rows c.in_ok-rows.next c.in_ok-rows.ensures
    (subst (IsSumsOf c.in_ok-rows.rows) c.in-None.is c.in_ok-found.ensures)

-- the sums of the rows
pub returns-in-Some : goal.returns-in-Some
returns-in-Some c =
    sums_built c.args.items.now c.args.place c.in_ok-rows.rows c.in_ok-rows.next c.in_ok-rows.ensures c.in-Some.sums
    (subst (IsSumsOf c.in_ok-rows.rows) c.in-Some.is c.in_ok-found.ensures)
