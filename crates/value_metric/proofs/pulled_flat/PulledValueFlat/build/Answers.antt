-- A producer of pulled values is built from its parts.
use Rattle.std.proofs.Common.{sym}
use Rattle.std.proofs.lemmas.Result.{err_from_is_err_and}
use Rattle.value_metric.proofs.PulledValueItemsLemmas.{pulled_value_fails, pulled_value_none, pulled_value_built}
use Rattle.value_metric.proofs.pulled_flat.PulledValueFlat.build.Goals as goal

-- no such parts stand there
pub returns-in_err-parts : goal.returns-in_err-parts
returns-in_err-parts c =
    let p = err_from_is_err_and c.from_residual.result c.from_residual.ensures.1 in
    rw (p.1, p.2) (pulled_value_fails c.args.items.now c.args.place c.in_err-parts.field-0.0 c.in_err-parts.ensures)

-- the parts are those of no producer
pub returns-in_default : goal.returns-in_default
returns-in_default c =
    pulled_value_none c.args.items.now c.args.place c.in_ok-parts.parts c.in_ok-parts.next c.in_ok-parts.ensures
    (sym c.in_default.ensures)

-- the producer of the parts
pub returns : goal.returns
returns c =
    pulled_value_built c.args.items.now c.args.place c.in_ok-parts.parts c.in_ok-parts.next c.in_ok-parts.ensures
    c.in-Some.values (sym c.in-Some.ensures)
