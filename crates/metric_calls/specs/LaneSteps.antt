-- The steps of an installed configuration, as the lane of a metric sees them.
use Rattle.std.specs.Prelude.{List, [], ◌∷◌}
use Rattle.sd_base.specs.Outputs.{outputs}
use Rattle.metric_producer.specs.LaneCalls as lane
use Rattle.metric_meaning.specs.Histories.{What, Logged, Reported, Step, moment_of}

-- a step as the lane of a metric sees it: a frame with what it brings to the metric, or a report
abbrev pub lane_step : {News : Type 0} → (Step → News) → Step → lane.LaneStep News
lane_step {News} news step = of_what step.what where
  of_what : What → lane.LaneStep News
  of_what (Logged frame) = lane.Logged (moment_of frame step.at) (news step)
  of_what (Reported include_current) = lane.Reported step.at include_current

-- all steps as the lane of a metric sees them, where what a frame brings hangs on the steps before it
abbrev pub lane_steps : {News : Type 0} → (List Step → Step → News) → List Step → List (lane.LaneStep News)
lane_steps news steps = outputs (λ before step. lane_step (news before) step ∷ []) steps
