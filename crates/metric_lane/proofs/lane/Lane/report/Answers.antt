use Rattle.std.proofs.Common.{refl}
use Rattle.metric_lane.proofs.LaneStandsLemmas.{report_on}
use Rattle.metric_lane.proofs.lane.Lane.report.Goals as goal

-- the cut first, and then what is kept
pub returns : goal.returns
returns g c = report_on _ _ _ _ _ _ _ c.in_ok-close.ensures refl c.take.ensures.gives
    c.take.ensures.moves
