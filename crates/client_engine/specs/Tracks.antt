-- The metrics of a configuration with their lanes, all together.
use Rattle.std.specs.Prelude.{◌≡◌, ℕ, List, [], length, map, filter, All}
use Rattle.config_links.specs.SoundConfig.{IsSoundMetric, MayBeWithin}
use Rattle.config_links.specs.declared.linked.Linked.{Linked}
use Rattle.config_links.specs.declared.linked.LMetric.{LMetric}
use Rattle.metric_meaning.specs.Histories.{Step, Installation}
use Rattle.report_writer.specs.Writable.{IsWritableMetric}
use Rattle.report_writer.specs.declared.tree.MetricTree.{MetricTree}
use Rattle.client_engine.specs.NextSteps.{MayReport, with_reported, requested_tree}
use Rattle.client_engine.specs.TrackStands.{TrackStandsFor}
use Rattle.client_engine.specs.SoundMetrics.{AreInstalled}
use Rattle.known_conditions.specs.Known.{Known}
use Rattle.client_engine.specs.Opens.{IsOpeningOf}
use Rattle.client_engine.specs.declared.opening.Opening.{Opening}
use Rattle.client_engine.specs.declared.track.Track.{Track}
use Rattle.client_engine.specs.declared.request.ReportRequest.{ReportRequest}

-- A metric is sound in a configuration.
pub record CanBeTracked (metric : LMetric) : Type 0 where
  pub linked : Linked
  pub sound : IsSoundMetric linked metric

-- a metric's condition, if it has one, is one of so many predicates
abbrev pub AsksWithin : ℕ → LMetric → Type 0
AsksWithin count metric = MayBeWithin count metric.condition

-- the metric of a track
abbrev pub metric_in : Track → LMetric
metric_in track = track.metric

-- the conditions of all metrics are among these predicates
abbrev pub AllAskWithin : Known → List Track → Type 0
AllAskWithin known tracks = All (AsksWithin (length known.predicates)) (map metric_in tracks)

-- all stand for their metrics after these steps of what was installed
abbrev pub AllStandFor : Installation → List Step → List Track → Type 0
AllStandFor installed steps tracks = All (TrackStandsFor installed steps) tracks

-- tracks of just these metrics, which found this where they were installed, and have seen no step
pub record AreNew (opening : Opening) (known : Known) (metrics : List LMetric) (tracks : List Track) : Type 0 where
  pub metrics_are : map metric_in tracks ≡ metrics
  pub stand : (installed : Installation) → IsOpeningOf installed opening known
      → AreInstalled installed.linked metrics → AllStandFor installed [] tracks

-- a report of all: one step more, and what it shows of those that are shown
pub record AllReport (base : ℕ) (request : ReportRequest) (old new : List Track) (trees : List MetricTree)
    : Type 0 where
  pub stand : (installed : Installation) (steps : List Step) → AllStandFor installed steps old
      → MayReport installed steps base request
      → AllStandFor installed (with_reported steps request) new
  pub shown : (installed : Installation) (steps : List Step) → AllStandFor installed steps old
      → MayReport installed steps base request
      → trees ≡ map (requested_tree installed steps request)
      (filter (λ (metric : LMetric). metric.shown) (map metric_in old))
  pub writable : All IsWritableMetric trees
