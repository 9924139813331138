-- How large a saved lane is, and where its items can be spelled.
use Rattle.std.specs.Prelude.{ℕ, ◌≤◌, length, All}
use Rattle.std.proofs.Common.{arith}
use Rattle.std.proofs.lemmas.List.Elements.{All-append}
use Rattle.alert_watch.specs.WatchItems.{watch_items, IsWholeWatch, IsSavableWatch}
use Rattle.alert_watch.specs.WatchItemLaws.{watch_savable}
use Rattle.count_metric.specs.CountItems.{count_items, HasBounds, IsSavableCount, count_savable}
use Rattle.duration_metric.specs.SparseItems.{longest_items, IsLongest, IsSavableLongest, longest_savable}
use Rattle.duration_metric.specs.SumItems.{sum_producer_items, IsSumProducer, IsSavableSum, sum_savable}
use Rattle.flat_form.specs.declared.item.Item.TheVariants.{Num}
use Rattle.flat_form.specs.Flat.{list_items}
use Rattle.flat_form.specs.Savable.{IsSavable, AreSavable}
use Rattle.flat_form.specs.SavableLaws.{items_savable, list_savable}
use Rattle.flat_form.specs.Weight.{most_items, entries_for}
use Rattle.gauge_metric.specs.EventItems.{events_items, IsEvents, AreSavableEvents, events_savable}
use Rattle.gauge_metric.specs.GaugeItems.{gauge_items, IsGauge, IsSavableGauge, gauge_savable}
use Rattle.gauge_metric.specs.PulledItems.{pulled_items, IsPulledGauge, IsSavablePulled, pulled_savable}
use Rattle.metric_lane.specs.LaneItems.{lane_items, IsSavableLane, lane_savable}
use Rattle.value_metric.specs.BooksItems.{pushed_value_items, IsPushedValue, IsSavablePushedValue, pushed_value_savable}
use Rattle.value_metric.specs.PulledValueItems.{pulled_value_items, IsPulledValue, IsSavablePulledValue, pulled_value_savable}
use Rattle.client_engine.specs.CountsAlong.{WatchedLane}
use Rattle.client_engine.specs.SavedLanes.{watched_items, IsWatchedLane, kind_number, kind_items, metric_lane_items, IsMetricLane}
use Rattle.client_engine.specs.declared.lanes.MetricLane.{MetricLane}
use Rattle.client_engine.specs.declared.lanes.MetricLane.TheVariants.{Counts, Values, PulledValues, Gauges, PulledGauges, Events, Sums, Longest}

-- so many items are eight at most for each eight that are begun
items_bounded : (count : ℕ) → count ≤ most_items 0 (entries_for count)
items_bounded count = omega arith

-- no more are begun than there are
items_few : (count : ℕ) → entries_for count ≤ count
items_few count = omega arith

-- an entry for each eight items of a lane of counts
abbrev pub watched_entries : WatchedLane → ℕ
watched_entries it = entries_for (length (watched_items it))

-- it has eight items at most for each entry
pub watched_bounded : (it : WatchedLane) → IsWatchedLane it
    → length (watched_items it) ≤ most_items 0 (watched_entries it)
watched_bounded it is = items_bounded (length (watched_items it))

-- an entry is an item at least
pub watched_few : (it : WatchedLane) → watched_entries it ≤ length (watched_items it)
watched_few it = items_few (length (watched_items it))

-- its producer and its watches can be spelled
abbrev pub IsSavableWatched : WatchedLane → Type 0
IsSavableWatched it = IsSavableLane IsSavableCount it.lane × All IsSavableWatch it.watches

-- its items can be spelled where they can
pub watched_savable : (it : WatchedLane) → IsWatchedLane it → IsSavableWatched it → AreSavable (watched_items it)
watched_savable it is can =
    All-append IsSavable (lane_items count_items it.lane) (list_items watch_items it.watches)
    (lane_savable count_items HasBounds IsSavableCount count_savable it.lane is.0 can.0)
    (list_savable watch_items IsWholeWatch IsSavableWatch watch_savable it.watches is.1 can.1)

-- an entry for each eight items of a lane
abbrev pub metric_lane_entries : MetricLane → ℕ
metric_lane_entries lane = entries_for (length (metric_lane_items lane))

-- a lane has eight items at most for each entry
pub metric_lane_bounded : (lane : MetricLane) → IsMetricLane lane
    → length (metric_lane_items lane) ≤ most_items 0 (metric_lane_entries lane)
metric_lane_bounded lane is = items_bounded (length (metric_lane_items lane))

-- an entry is an item at least
pub metric_lane_few : (lane : MetricLane) → metric_lane_entries lane ≤ length (metric_lane_items lane)
metric_lane_few lane = items_few (length (metric_lane_items lane))

-- what a lane has by its kind can be spelled
abbrev pub IsSavableMetricLane : MetricLane → Type 0
IsSavableMetricLane (Counts lane) = IsSavableWatched lane
IsSavableMetricLane (Values lane) = IsSavableLane IsSavablePushedValue lane
IsSavableMetricLane (PulledValues lane) = IsSavableLane IsSavablePulledValue lane
IsSavableMetricLane (Gauges lane) = IsSavableLane IsSavableGauge lane
IsSavableMetricLane (PulledGauges lane) = IsSavableLane IsSavablePulled lane
IsSavableMetricLane (Events lane) = IsSavableLane AreSavableEvents lane
IsSavableMetricLane (Sums lane) = IsSavableLane IsSavableSum lane
IsSavableMetricLane (Longest lane) = IsSavableLane IsSavableLongest lane

-- its items by its kind can be spelled then
kind_savable : (lane : MetricLane) → IsMetricLane lane → IsSavableMetricLane lane → AreSavable (kind_items lane)
kind_savable (Counts lane) is can = watched_savable lane is can
kind_savable (Values lane) is can =
    lane_savable pushed_value_items IsPushedValue IsSavablePushedValue pushed_value_savable lane is can
kind_savable (PulledValues lane) is can =
    lane_savable pulled_value_items IsPulledValue IsSavablePulledValue pulled_value_savable lane is can
kind_savable (Gauges lane) is can = lane_savable gauge_items IsGauge IsSavableGauge gauge_savable lane is can
kind_savable (PulledGauges lane) is can =
    lane_savable pulled_items IsPulledGauge IsSavablePulled pulled_savable lane is can
kind_savable (Events lane) is can = lane_savable events_items IsEvents AreSavableEvents events_savable lane is can
kind_savable (Sums lane) is can =
    lane_savable sum_producer_items IsSumProducer IsSavableSum sum_savable lane is can
kind_savable (Longest lane) is can =
    lane_savable longest_items IsLongest IsSavableLongest longest_savable lane is can

-- and so can all of its items
pub metric_lane_savable : (lane : MetricLane) → IsMetricLane lane → IsSavableMetricLane lane
    → AreSavable (metric_lane_items lane)
metric_lane_savable lane is can =
    items_savable (Num (kind_number lane)) (kind_items lane) tt (kind_savable lane is can)
