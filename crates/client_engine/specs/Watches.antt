-- The watches of a metric's alerts: which there are, and what a step tells them. For private clauses.
use Rattle.std.specs.Prelude.{◌≡◌, ℕ, ◌<◌, ◌==◌, List, [], ◌++◌, map, filter, length, get_or, slice_get, Option, Some, All}
use Rattle.alert_watch.specs.Watches.{WatchContents, WatchStandsFor}
use Rattle.alert_watch.specs.Windows.{Notice}
use Rattle.bucket_clock.specs.Clock.{Told, moments_told}
use Rattle.bucket_clock.specs.Sound.{Times}
use Rattle.bucket_meaning.specs.Ends.{Moment, ends_at}
use Rattle.config_links.specs.declared.linked.LAlert.{LAlert}
use Rattle.config_links.specs.declared.linked.LMetric.{LMetric}
use Rattle.config_types.specs.AlertSpecs.{IsAlertSpec}
use Rattle.config_types.specs.declared.parameters.AlertSpec.{AlertSpec}
use Rattle.metric_lane.specs.LaneClock.{HasClock, MayCross}
use Rattle.metric_meaning.specs.AlertSteps.{ended_notices, notices_by}
use Rattle.metric_meaning.specs.Histories.{Step, Installation}

-- an alert's numbers are in their ranges
abbrev pub CanBeWatched : LAlert → Type 0
CanBeWatched alert = IsAlertSpec alert.spec

-- the alerts on the metric at a place, in their order
abbrev pub alerts_at : ℕ → List LAlert → List LAlert
alerts_at place alerts = filter (λ (alert : LAlert). alert.metric == place) alerts

-- what the alerts on the metric at a place watch for
abbrev pub specs_at : ℕ → List LAlert → List AlertSpec
specs_at place alerts = map (λ (alert : LAlert). alert.spec) (alerts_at place alerts)

-- what watches watch for
abbrev pub specs_of : List WatchContents → List AlertSpec
specs_of watches = map (λ (watch : WatchContents). watch.spec) watches

-- each was told this
abbrev pub AllStandFor : List Notice → List WatchContents → Type 0
AllStandFor notices watches = All (λ watch. WatchStandsFor watch notices) watches

-- these are watches of the alerts on the metric at a place, which were told nothing
pub record AreNewWatches (alerts : List LAlert) (place : ℕ) (watches : List WatchContents) : Type 0 where
  pub specs : specs_of watches ≡ specs_at place alerts
  pub stand : AllStandFor [] watches

-- whatever a watch was told, it was told these notices after that, and it watches for the same
pub record TakesNotices (notices : List Notice) (old new : WatchContents) : Type 0 where
  pub spec : new.spec ≡ old.spec
  pub stands : (before : List Notice) → WatchStandsFor old before → WatchStandsFor new (before ++ notices)

-- each of these watches was told these notices
pub record AllTakeNotices (notices : List Notice) (old new : List WatchContents) : Type 0 where
  pub len : length new ≡ length old
  pub each : (place : ℕ) (none : WatchContents) → place < length old
      → TakesNotices notices (get_or old place none) (get_or new place none)

-- whatever a lane's clock was told, the watches beside it were told the ends that a frame then crosses
abbrev pub TakeEnds : Option Times → Moment → List WatchContents → List WatchContents → Type 0
TakeEnds clock moment old new =
    (base size : ℕ) (told : List Told) → HasClock clock base size told → MayCross clock moment.at
    → AllTakeNotices (ended_notices (length (ends_at base size (moments_told told) moment))) old new

-- These are the watches of a metric's alerts, in the order of the file, after these steps of what was installed. The
-- metric has buckets.
pub record WatchesAlong (metric : LMetric) (installed : Installation) (steps : List Step)
    (watches : List WatchContents) : Type 0 where
  pub sized : 0 < metric.size
  pub specs : (place : ℕ) → slice_get installed.linked.metrics place ≡ Some metric
      → specs_of watches ≡ specs_at place installed.linked.alerts
  pub stand : AllStandFor (notices_by installed metric steps) watches
