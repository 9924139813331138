use Rattle.std.proofs.lemmas.Result.{err_from_is_err_and}
use Rattle.metric_lane.proofs.LaneItemsLemmas.{lane_fails, lane_built}
use Rattle.metric_lane.proofs.flat.LaneFlat.build.Goals as goal

-- no such parts stand there
pub returns-in_err-parts : goal.returns-in_err-parts
returns-in_err-parts g c =
    let p = err_from_is_err_and c.from_residual.result c.from_residual.ensures.1 in
    rw (p.1, p.2) (lane_fails _ _ _ g.P.Flat.valid g.P.Flat.flat c.args.items.now c.args.place
    c.in_err-parts.field-0.0 c.in_err-parts.ensures)

-- the lane of the parts that stand there
pub returns : goal.returns
returns g c = lane_built g.P.Flat.valid g.P.Flat.flat c.args.items.now c.args.place c.in_ok-parts.parts
    c.in_ok-parts.next c.in_ok-parts.ensures
