-- The watch of each alert, and what a report shows of all. For private clauses.
use Rattle.std.specs.Prelude.{◌≡◌, ℕ, List, [], ◌++◌, length, map, take, slice_get, Option, Some, None}
use Rattle.std.specs.List.{flat_map}
use Rattle.std.specs.Option.{option_and_then}
use Rattle.alert_watch.specs.Watches.{WatchContents}
use Rattle.alert_watch.specs.declared.alarm.Alarms.{Alarms}
use Rattle.config_links.specs.declared.linked.LAlert.{LAlert}
use Rattle.metric_meaning.specs.AlarmTrees.{no_alarms, alarm_tree, drops_shown, alarm_trees, alarm_drops}
use Rattle.metric_meaning.specs.Histories.{Step, Installation}
use Rattle.client_engine.specs.Tracks.{metric_in, AllStandFor}
use Rattle.client_engine.specs.Watches.{alerts_at}
use Rattle.client_engine.specs.declared.alarms.AlarmsShown.{AlarmsShown}
use Rattle.client_engine.specs.declared.lanes.MetricLane.{MetricLane}
use Rattle.client_engine.specs.declared.lanes.MetricLane.TheVariants.{Counts}
use Rattle.client_engine.specs.declared.track.Track.{Track}

-- the watches beside a lane: a metric that doesn't count has none
abbrev pub watches_in : MetricLane → List WatchContents
watches_in (Counts lane) = lane.watches
watches_in _ = []

-- the watch of an alert on a metric, after so many other alerts on it
abbrev pub watch_in : List Track → ℕ → ℕ → Option WatchContents
watch_in tracks metric turn =
    option_and_then (λ (track : Track). slice_get (watches_in track.lane) turn) (slice_get tracks metric)

-- the watch of the alert at a place: there is one for each alert on a metric, in their order
abbrev pub watch_at : List LAlert → ℕ → List Track → Option WatchContents
watch_at alerts place tracks =
    option_and_then (λ (alert : LAlert).
    watch_in tracks alert.metric (length (alerts_at alert.metric (take place alerts))))
    (slice_get alerts place)

-- what the next report tells of a watch, which may be missing
abbrev pub untold_of : Option WatchContents → Alarms
untold_of None = no_alarms
untold_of (Some watch) = record { listed = watch.listed; not_kept = watch.not_kept }

-- these alarms of an alert are added to what is shown
pub record AddsAlarms (alert : LAlert) (alarms : Alarms) (old new : AlarmsShown) : Type 0 where
  pub listed : new.listed ≡ old.listed ++ map (alarm_tree alert.id) alarms.listed
  pub not_kept : new.not_kept ≡ old.not_kept ++ drops_shown alert.id alarms.not_kept

-- so are those of the alert at a place, as its watch tells them
abbrev pub ShowsAlert : List LAlert → ℕ → List Track → AlarmsShown → AlarmsShown → Type 0
ShowsAlert alerts place tracks old new =
    (alert : LAlert) → slice_get alerts place ≡ Some alert
    → AddsAlarms alert (untold_of (watch_at alerts place tracks)) old new

-- what a report shows of the first alerts, after these steps of what was installed
pub record ShowsFirst (installed : Installation) (steps : List Step) (alerts : List LAlert) (shown : AlarmsShown)
    : Type 0 where
  pub listed : shown.listed ≡ flat_map (alarm_trees installed steps) alerts
  pub not_kept : shown.not_kept ≡ flat_map (alarm_drops installed steps) alerts

-- whatever steps these tracks stand for, this is what a report shows of the alerts on their metrics
abbrev pub AreAlarmsOf : List LAlert → List Track → AlarmsShown → Type 0
AreAlarmsOf alerts tracks shown =
    (installed : Installation) (steps : List Step) → AllStandFor installed steps tracks
    → installed.linked.alerts ≡ alerts → installed.linked.metrics ≡ map metric_in tracks
    → ShowsFirst installed steps alerts shown
