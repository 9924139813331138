use Rattle.metric_lane.proofs.LaneJoiningLemmas.{catches_up}
use Rattle.metric_lane.proofs.laws.frames_join.Goals as goal

pub returns : goal.returns
returns g c joins = catches_up _ joins
