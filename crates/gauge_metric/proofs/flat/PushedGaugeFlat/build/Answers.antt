-- A pushed gauge is built from its parts.
use Rattle.std.proofs.lemmas.Result.{err_from_is_err_and}
use Rattle.gauge_metric.proofs.ItemsLemmas.{gauge_fails, gauge_built}
use Rattle.gauge_metric.proofs.flat.PushedGaugeFlat.build.Goals as goal

-- no such parts stand there
pub returns-in_err-parts : goal.returns-in_err-parts
returns-in_err-parts c =
    let p = err_from_is_err_and c.from_residual.result c.from_residual.ensures.1 in
    rw (p.1, p.2) (gauge_fails c.args.items.now c.args.place c.in_err-parts.field-0.0 c.in_err-parts.ensures)

-- the gauge of the parts
pub returns : goal.returns
returns c = gauge_built c.args.items.now c.args.place c.in_ok-parts.parts c.in_ok-parts.next c.in_ok-parts.ensures
