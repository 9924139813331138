-- The items of a metric's lane, and which lanes there are.
use Rattle.std.specs.Prelude.{ℕ, List, ◌∷◌, ◌++◌, All}
use Rattle.alert_watch.specs.WatchItems.{watch_items, IsWholeWatch}
use Rattle.count_metric.specs.CountItems.{count_items, HasBounds}
use Rattle.duration_metric.specs.SparseItems.{longest_items, IsLongest}
use Rattle.duration_metric.specs.SumItems.{sum_producer_items, IsSumProducer}
use Rattle.flat_form.specs.declared.item.Item.{Item}
use Rattle.flat_form.specs.declared.item.Item.TheVariants.{Num}
use Rattle.flat_form.specs.Flat.{list_items}
use Rattle.gauge_metric.specs.EventItems.{events_items, IsEvents}
use Rattle.gauge_metric.specs.GaugeItems.{gauge_items, IsGauge}
use Rattle.gauge_metric.specs.PulledItems.{pulled_items, IsPulledGauge}
use Rattle.metric_lane.specs.LaneItems.{lane_items, IsLane}
use Rattle.value_metric.specs.BooksItems.{pushed_value_items, IsPushedValue}
use Rattle.value_metric.specs.PulledValueItems.{pulled_value_items, IsPulledValue}
use Rattle.client_engine.specs.CountsAlong.{WatchedLane}
use Rattle.client_engine.specs.declared.lanes.MetricLane.{MetricLane}
use Rattle.client_engine.specs.declared.lanes.MetricLane.TheVariants.{Counts, Values, PulledValues, Gauges, PulledGauges, Events, Sums, Longest}

-- a lane of counts is the lane, and the watches of its metric's alerts
abbrev pub watched_items : WatchedLane → List Item
watched_items it = lane_items count_items it.lane ++ list_items watch_items it.watches

-- both are valid
abbrev pub IsWatchedLane : WatchedLane → Type 0
IsWatchedLane it = IsLane HasBounds it.lane × All IsWholeWatch it.watches

-- the number of a lane's kind
abbrev pub kind_number : MetricLane → ℕ
kind_number (Counts lane) = 0
kind_number (Values lane) = 1
kind_number (PulledValues lane) = 2
kind_number (Gauges lane) = 3
kind_number (PulledGauges lane) = 4
kind_number (Events lane) = 5
kind_number (Sums lane) = 6
kind_number (Longest lane) = 7

-- what a lane has by its kind
abbrev pub kind_items : MetricLane → List Item
kind_items (Counts lane) = watched_items lane
kind_items (Values lane) = lane_items pushed_value_items lane
kind_items (PulledValues lane) = lane_items pulled_value_items lane
kind_items (Gauges lane) = lane_items gauge_items lane
kind_items (PulledGauges lane) = lane_items pulled_items lane
kind_items (Events lane) = lane_items events_items lane
kind_items (Sums lane) = lane_items sum_producer_items lane
kind_items (Longest lane) = lane_items longest_items lane

-- a lane is the number of its kind, and what it has by it
abbrev pub metric_lane_items : MetricLane → List Item
metric_lane_items lane = Num (kind_number lane) ∷ kind_items lane

-- what it has is valid
abbrev pub IsMetricLane : MetricLane → Type 0
IsMetricLane (Counts lane) = IsWatchedLane lane
IsMetricLane (Values lane) = IsLane IsPushedValue lane
IsMetricLane (PulledValues lane) = IsLane IsPulledValue lane
IsMetricLane (Gauges lane) = IsLane IsGauge lane
IsMetricLane (PulledGauges lane) = IsLane IsPulledGauge lane
IsMetricLane (Events lane) = IsLane IsEvents lane
IsMetricLane (Sums lane) = IsLane IsSumProducer lane
IsMetricLane (Longest lane) = IsLane IsLongest lane
