-- The lane of a metric that sums durations: what it stands for.
use Rattle.std.specs.Prelude.{◌≡◌, ℕ, List}
use Rattle.config_types.specs.declared.parameters.PredSpec.{PredSpec}
use Rattle.config_links.specs.declared.linked.LMetric.{LMetric}
use Rattle.config_links.specs.declared.linked.LKind.TheVariants as kinds
use Rattle.duration_metric.specs.declared.change.InnerEvent.{InnerEvent}
use Rattle.duration_metric.specs.declared.change.InnerDelta.{InnerDelta}
use Rattle.duration_metric.specs.SumParts.{Summing}
use Rattle.duration_metric.specs.SumStands.{sum_law}
use Rattle.metric_lane.specs.declared.lane.Lane.{Lane}
use Rattle.metric_meaning.specs.Histories.{Step, Installation}
use Rattle.metric_calls.specs.DurationCalls.{sum_asking, IsTimedWell}
use Rattle.client_engine.specs.Along.{Along}

-- a lane of a producer of sums
abbrev pub SumLane : Type 0
SumLane = Lane Summing InnerEvent InnerDelta ℕ

-- The metric sums durations, its inner keys are kept as it says, and the lane collects for it, after these steps of
-- what was installed. What the last step told of each inner key is in the calls that the lane's producer got.
pub record SumsAlong (metric : LMetric) (installed : Installation) (steps : List Step) (lane : SumLane) : Type 0 where
  pub spec : PredSpec
  pub sums : metric.kind ≡ kinds.SumDuration spec
  pub timed : IsTimedWell installed metric spec
  pub along : Along (sum_asking installed metric spec) sum_law steps lane
