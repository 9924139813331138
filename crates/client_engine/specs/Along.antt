-- A lane that collects for its metric, for every kind of metric.
use Rattle.std.specs.Prelude.{◌<◌, List}
use Rattle.bucket_meaning.specs.Limits.{time_limit}
use Rattle.metric_producer.specs.declared.row.Row.{Row}
use Rattle.metric_producer.specs.Collecting.{Law}
use Rattle.metric_lane.specs.LaneStands.{OpenedStandsFor}
use Rattle.metric_lane.specs.declared.lane.Lane.{Lane}
use Rattle.metric_meaning.specs.Histories.{Step}
use Rattle.metric_calls.specs.Askings.{Asking, own_demands, steps_seen}

-- The lane got the opening calls of its metric and all calls of these steps, by what the metric asks.
pub record Along {P Params News Event After X K C Value : Type 0}
    (asking : Asking Params News Event After X K C (Row Value)) (law : Law P Params Event After X K C (Row Value))
    (steps : List Step) (lane : Lane P Event After Value) : Type 0 where
  pub fits : (own_demands asking law.collecting).base < time_limit
  pub collects : OpenedStandsFor law asking.asks asking.opens lane asking.params (steps_seen asking steps)
