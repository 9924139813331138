use Rattle.std.proofs.lemmas.Result.{on_ok_weaker}
use Rattle.metric_lane.proofs.LaneStepsLemmas.{event_logs}
use Rattle.metric_lane.proofs.lane.Lane.log_of.Goals as goal

-- the crossing first, and then the event
pub returns : goal.returns
returns g c = on_ok_weaker _ (event_logs _ _ _ _ _ _ c.in_ok-cross.ensures) c.tell_of.ensures
