-- A producer of events is built from its kept rows.
use Rattle.std.proofs.lemmas.Result.{err_from_is_err_and}
use Rattle.gauge_metric.proofs.ItemsLemmas.{events_fail, events_built}
use Rattle.gauge_metric.proofs.flat.EventProducerFlat.build.Goals as goal

-- no such rows stand there
pub returns-in_err-kept : goal.returns-in_err-kept
returns-in_err-kept c =
    let p = err_from_is_err_and c.from_residual.result c.from_residual.ensures.1 in
    rw (p.1, p.2) (events_fail c.args.items.now c.args.place c.in_err-kept.field-0.0 c.in_err-kept.ensures)

-- the producer of the rows
pub returns : goal.returns
returns c = events_built c.args.items.now c.args.place c.in_ok-kept.kept c.in_ok-kept.next c.in_ok-kept.ensures
