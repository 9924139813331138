-- A lane is built of the number of its kind, and what stands after it.
use Rattle.std.proofs.lemmas.Result.{err_from_is_err_and}
use Rattle.client_engine.proofs.SavedLanesLemmas.{kind_fails}
use Rattle.client_engine.proofs.saved.lanes.MetricLaneFlat.build.Goals as goal

-- no number stands there
pub returns-in_err-kind : goal.returns-in_err-kind
returns-in_err-kind c =
    let p = err_from_is_err_and c.from_residual.result c.from_residual.ensures.1 in
    rw (p.1, p.2) (kind_fails c.args.items.now c.args.place c.in_err-kind.field-0.0 c.in_err-kind.ensures)
