-- The kinds of lanes by their numbers.
use Rattle.std.specs.Prelude.{◌≡◌}
use Rattle.std.proofs.Common.{refl, arith}
use Rattle.duration_metric.specs.SparseItems.{IsLongest}
use Rattle.duration_metric.specs.SumItems.{IsSumProducer}
use Rattle.gauge_metric.specs.EventItems.{IsEvents}
use Rattle.gauge_metric.specs.GaugeItems.{IsGauge}
use Rattle.gauge_metric.specs.PulledItems.{IsPulledGauge}
use Rattle.metric_lane.specs.LaneItems.{IsLane}
use Rattle.value_metric.specs.BooksItems.{IsPushedValue}
use Rattle.value_metric.specs.PulledValueItems.{IsPulledValue}
use Rattle.client_engine.specs.CountsAlong.{WatchedLane}
use Rattle.client_engine.specs.EventsAlong.{EventLane}
use Rattle.client_engine.specs.GaugesAlong.{GaugeLane}
use Rattle.client_engine.specs.LongestAlong.{LongestLane}
use Rattle.client_engine.specs.PulledGaugesAlong.{PulledGaugeLane}
use Rattle.client_engine.specs.PulledValuesAlong.{PulledValueLane}
use Rattle.client_engine.specs.SumsAlong.{SumLane}
use Rattle.client_engine.specs.ValuesAlong.{ValueLane}
use Rattle.client_engine.specs.SavedLanes.{kind_number, IsMetricLane, IsWatchedLane}
use Rattle.client_engine.specs.declared.lanes.MetricLane.{MetricLane}
use Rattle.client_engine.specs.declared.lanes.MetricLane.TheVariants.{Counts, Values, PulledValues, Gauges, PulledGauges, Events, Sums, Longest}

-- a lane of kind 0 is one of counts
pub of_counts : (lane : MetricLane) → IsMetricLane lane → kind_number lane ≡ 0
    → (held : WatchedLane) × (IsWatchedLane held × (lane ≡ Counts held))
of_counts (Counts lane) is same = (lane, (is, refl))
of_counts (Values lane) is same = absurd (omega (arith, same))
of_counts (PulledValues lane) is same = absurd (omega (arith, same))
of_counts (Gauges lane) is same = absurd (omega (arith, same))
of_counts (PulledGauges lane) is same = absurd (omega (arith, same))
of_counts (Events lane) is same = absurd (omega (arith, same))
of_counts (Sums lane) is same = absurd (omega (arith, same))
of_counts (Longest lane) is same = absurd (omega (arith, same))

-- a lane of kind 1 is one of pushed values
pub of_values : (lane : MetricLane) → IsMetricLane lane → kind_number lane ≡ 1
    → (held : ValueLane) × (IsLane IsPushedValue held × (lane ≡ Values held))
of_values (Counts lane) is same = absurd (omega (arith, same))
of_values (Values lane) is same = (lane, (is, refl))
of_values (PulledValues lane) is same = absurd (omega (arith, same))
of_values (Gauges lane) is same = absurd (omega (arith, same))
of_values (PulledGauges lane) is same = absurd (omega (arith, same))
of_values (Events lane) is same = absurd (omega (arith, same))
of_values (Sums lane) is same = absurd (omega (arith, same))
of_values (Longest lane) is same = absurd (omega (arith, same))

-- a lane of kind 2 is one of pulled values
pub of_pulled_values : (lane : MetricLane) → IsMetricLane lane → kind_number lane ≡ 2
    → (held : PulledValueLane) × (IsLane IsPulledValue held × (lane ≡ PulledValues held))
of_pulled_values (Counts lane) is same = absurd (omega (arith, same))
of_pulled_values (Values lane) is same = absurd (omega (arith, same))
of_pulled_values (PulledValues lane) is same = (lane, (is, refl))
of_pulled_values (Gauges lane) is same = absurd (omega (arith, same))
of_pulled_values (PulledGauges lane) is same = absurd (omega (arith, same))
of_pulled_values (Events lane) is same = absurd (omega (arith, same))
of_pulled_values (Sums lane) is same = absurd (omega (arith, same))
of_pulled_values (Longest lane) is same = absurd (omega (arith, same))

-- a lane of kind 3 is one of pushed gauges
pub of_gauges : (lane : MetricLane) → IsMetricLane lane → kind_number lane ≡ 3
    → (held : GaugeLane) × (IsLane IsGauge held × (lane ≡ Gauges held))
of_gauges (Counts lane) is same = absurd (omega (arith, same))
of_gauges (Values lane) is same = absurd (omega (arith, same))
of_gauges (PulledValues lane) is same = absurd (omega (arith, same))
of_gauges (Gauges lane) is same = (lane, (is, refl))
of_gauges (PulledGauges lane) is same = absurd (omega (arith, same))
of_gauges (Events lane) is same = absurd (omega (arith, same))
of_gauges (Sums lane) is same = absurd (omega (arith, same))
of_gauges (Longest lane) is same = absurd (omega (arith, same))

-- a lane of kind 4 is one of pulled gauges
pub of_pulled_gauges : (lane : MetricLane) → IsMetricLane lane → kind_number lane ≡ 4
    → (held : PulledGaugeLane) × (IsLane IsPulledGauge held × (lane ≡ PulledGauges held))
of_pulled_gauges (Counts lane) is same = absurd (omega (arith, same))
of_pulled_gauges (Values lane) is same = absurd (omega (arith, same))
of_pulled_gauges (PulledValues lane) is same = absurd (omega (arith, same))
of_pulled_gauges (Gauges lane) is same = absurd (omega (arith, same))
of_pulled_gauges (PulledGauges lane) is same = (lane, (is, refl))
of_pulled_gauges (Events lane) is same = absurd (omega (arith, same))
of_pulled_gauges (Sums lane) is same = absurd (omega (arith, same))
of_pulled_gauges (Longest lane) is same = absurd (omega (arith, same))

-- a lane of kind 5 is one of events
pub of_events : (lane : MetricLane) → IsMetricLane lane → kind_number lane ≡ 5
    → (held : EventLane) × (IsLane IsEvents held × (lane ≡ Events held))
of_events (Counts lane) is same = absurd (omega (arith, same))
of_events (Values lane) is same = absurd (omega (arith, same))
of_events (PulledValues lane) is same = absurd (omega (arith, same))
of_events (Gauges lane) is same = absurd (omega (arith, same))
of_events (PulledGauges lane) is same = absurd (omega (arith, same))
of_events (Events lane) is same = (lane, (is, refl))
of_events (Sums lane) is same = absurd (omega (arith, same))
of_events (Longest lane) is same = absurd (omega (arith, same))

-- a lane of kind 6 is one of sums
pub of_sums : (lane : MetricLane) → IsMetricLane lane → kind_number lane ≡ 6
    → (held : SumLane) × (IsLane IsSumProducer held × (lane ≡ Sums held))
of_sums (Counts lane) is same = absurd (omega (arith, same))
of_sums (Values lane) is same = absurd (omega (arith, same))
of_sums (PulledValues lane) is same = absurd (omega (arith, same))
of_sums (Gauges lane) is same = absurd (omega (arith, same))
of_sums (PulledGauges lane) is same = absurd (omega (arith, same))
of_sums (Events lane) is same = absurd (omega (arith, same))
of_sums (Sums lane) is same = (lane, (is, refl))
of_sums (Longest lane) is same = absurd (omega (arith, same))

-- a lane of kind 7 is one of longest durations
pub of_longest : (lane : MetricLane) → IsMetricLane lane → kind_number lane ≡ 7
    → (held : LongestLane) × (IsLane IsLongest held × (lane ≡ Longest held))
of_longest (Counts lane) is same = absurd (omega (arith, same))
of_longest (Values lane) is same = absurd (omega (arith, same))
of_longest (PulledValues lane) is same = absurd (omega (arith, same))
of_longest (Gauges lane) is same = absurd (omega (arith, same))
of_longest (PulledGauges lane) is same = absurd (omega (arith, same))
of_longest (Events lane) is same = absurd (omega (arith, same))
of_longest (Sums lane) is same = absurd (omega (arith, same))
of_longest (Longest lane) is same = (lane, (is, refl))
