use Rattle.std.proofs.lemmas.Result.{on_ok_weaker}
use Rattle.metric_lane.proofs.LaneStandsLemmas.{crossing_on}
use Rattle.metric_lane.proofs.lane.Lane.cross.Goals as goal

-- what the clock answered is handed on
pub returns-in-Some : goal.returns-in-Some
returns-in-Some g c = on_ok_weaker _ (crossing_on _ _ _ _ _ c.in-Some.ensures) c.cross.ensures
