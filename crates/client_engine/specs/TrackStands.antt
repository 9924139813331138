-- What a metric with its lane and its book of activations stands for: the metric after these steps of its
-- configuration. Each kind of metric says in a file of its own what its lane stands for.
use Rattle.std.specs.Prelude.{List}
use Rattle.config_links.specs.declared.linked.LMetric.{LMetric}
use Rattle.metric_meaning.specs.Histories.{Step, Installation}
use Rattle.client_engine.specs.Activity.{ActsAlong}
use Rattle.client_engine.specs.CountsAlong.{CountsAlong}
use Rattle.client_engine.specs.ValuesAlong.{ValuesAlong}
use Rattle.client_engine.specs.PulledValuesAlong.{PulledValuesAlong}
use Rattle.client_engine.specs.GaugesAlong.{GaugesAlong}
use Rattle.client_engine.specs.PulledGaugesAlong.{PulledGaugesAlong}
use Rattle.client_engine.specs.EventsAlong.{EventsAlong}
use Rattle.client_engine.specs.SumsAlong.{SumsAlong}
use Rattle.client_engine.specs.LongestAlong.{LongestAlong}
use Rattle.client_engine.specs.declared.lanes.MetricLane.{MetricLane}
use Rattle.client_engine.specs.declared.lanes.MetricLane.TheVariants.{Counts, Values, PulledValues, Gauges, PulledGauges, Events, Sums, Longest}
use Rattle.client_engine.specs.declared.track.Track.{Track}

-- a lane collects for its metric, as the metric's kind has it
abbrev pub LaneAlong : LMetric → Installation → List Step → MetricLane → Type 0
LaneAlong metric installed steps (Counts lane) = CountsAlong metric installed steps lane
LaneAlong metric installed steps (Values lane) = ValuesAlong metric installed steps lane
LaneAlong metric installed steps (PulledValues lane) = PulledValuesAlong metric installed steps lane
LaneAlong metric installed steps (Gauges lane) = GaugesAlong metric installed steps lane
LaneAlong metric installed steps (PulledGauges lane) = PulledGaugesAlong metric installed steps lane
LaneAlong metric installed steps (Events lane) = EventsAlong metric installed steps lane
LaneAlong metric installed steps (Sums lane) = SumsAlong metric installed steps lane
LaneAlong metric installed steps (Longest lane) = LongestAlong metric installed steps lane

-- A metric is what these steps make of it: its lane, and the book of its activations.
pub record TrackStandsFor (installed : Installation) (steps : List Step) (track : Track) : Type 0 where
  pub lane : LaneAlong track.metric installed steps track.lane
  pub acts : ActsAlong track.metric steps track.acts
