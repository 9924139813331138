-- What a report shows of the alerts, one by one: lemmas on `specs/Alarms.antt`.
use Rattle.std.proofs.Common.{◌≡◌, ℕ, zero, suc, pos, ◌+◌, ◌<◌, ◌≤◌, ◌==◌, Bool, true, false, cond, List, [], ◌∷◌, ◌++◌, map, take, length, get_or, Option, Some, None, slice_get, refl, sym, ap, subst, ◌∙◌, arith}
use Rattle.std.proofs.lemmas.List.{length-map, append-nil, take_more, take_all}
use Rattle.std.proofs.lemmas.List.Concat.{flat_map-append}
use Rattle.std.proofs.lemmas.Option.{none-some, same_Some, slice_get-map, slice_get_within, slice_get-get_or, get_or_from_slice_get}
use Rattle.std.specs.List.{flat_map}
use Rattle.std.specs.Option.{option_map, option_and_then}
use Rattle.alert_watch.specs.Watches.{WatchContents, WatchStandsFor}
use Rattle.alert_watch.proofs.WatchLemmas.{tells_untold}
use Rattle.alert_watch.specs.Windows.{alarms_told}
use Rattle.alert_watch.specs.declared.alarm.Alarms.{Alarms}
use Rattle.config_links.specs.declared.linked.LAlert.{LAlert}
use Rattle.config_links.specs.declared.linked.LMetric.{LMetric}
use Rattle.config_types.specs.declared.parameters.AlertSpec.{AlertSpec}
use Rattle.metric_meaning.specs.AlarmTrees.{alarms_of, alarms_of_found, alarms_on, alarm_tree, drops_shown, alarm_trees, alarm_drops}
use Rattle.metric_meaning.specs.AlertSteps.{notices_by, alarms_by}
use Rattle.metric_meaning.specs.Histories.{Step, Installation}
use Rattle.client_engine.specs.Alarms.{AddsAlarms, watches_in, watch_in, watch_at, untold_of, ShowsAlert, ShowsFirst, AreAlarmsOf}
use Rattle.client_engine.specs.TrackStands.{LaneAlong, TrackStandsFor}
use Rattle.client_engine.specs.Tracks.{metric_in, AllStandFor}
use Rattle.client_engine.specs.Watches.{alerts_at, WatchesAlong}
use Rattle.client_engine.specs.declared.alarms.AlarmsShown.{AlarmsShown}
use Rattle.client_engine.specs.declared.lanes.MetricLane.{MetricLane}
use Rattle.client_engine.specs.declared.lanes.MetricLane.TheVariants.{Counts, Values, PulledValues, Gauges, PulledGauges, Events, Sums, Longest}
use Rattle.client_engine.specs.declared.track.Track.{Track}
use Rattle.known_conditions.proofs.ListsLemmas.{same_number}
use Rattle.client_engine.proofs.UntouchingLemmas.{of_found}
use Rattle.client_engine.proofs.WatchesLemmas.{no_watch}

-- an alert comes among those on its metric after as many as there are before it
in_turn : (alerts : List LAlert) (place : ℕ) (alert : LAlert) → slice_get alerts place ≡ Some alert
    → slice_get (alerts_at alert.metric alerts) (length (alerts_at alert.metric (take place alerts))) ≡ Some alert
in_turn [] place alert is = absurd (none-some alert is)
in_turn (one ∷ alerts) zero alert is =
    let here : (one.metric == alert.metric) ≡ true =
    ap (λ (a : LAlert). a.metric == alert.metric) (same_Some one alert is) ∙ same_number alert.metric in
    let rest = alerts_at alert.metric alerts in
    ap (λ b. slice_get (cond b (one ∷ rest) rest) 0) here ∙ is
in_turn (one ∷ alerts) (suc place) alert is =
    by (one.metric == alert.metric) (in_turn alerts place alert is)
  where
    rest : List LAlert
    rest = alerts_at alert.metric alerts

    before : List LAlert
    before = alerts_at alert.metric (take place alerts)

    by : (b : Bool) → slice_get rest (length before) ≡ Some alert
        → slice_get (cond b (one ∷ rest) rest) (length (cond b (one ∷ before) before)) ≡ Some alert
    by true found = found
    by false found = found

module _ (installed : Installation) (steps : List Step) (alert : LAlert) (turn : ℕ) where
  -- a watch that stands with its metric tells the alarms of its alert
  watched : (metric : LMetric) (watches : List WatchContents) (found : Option WatchContents)
      → slice_get watches turn ≡ found → slice_get installed.linked.metrics alert.metric ≡ Some metric
      → slice_get (alerts_at alert.metric installed.linked.alerts) turn ≡ Some alert
      → WatchesAlong metric installed steps watches → untold_of found ≡ alarms_by installed metric alert.spec steps
  watched metric watches None found here is along =
      let spec : WatchContents → AlertSpec = λ watch. watch.spec in
      let asked : LAlert → AlertSpec = λ one. one.spec in
      let alerts = alerts_at alert.metric installed.linked.alerts in
      let size : length watches ≡ length alerts =
      sym (length-map watches spec) ∙ ap length (along.specs alert.metric here) ∙ length-map alerts asked in
      let within = slice_get_within alerts turn alert is in
      absurd (none-some (get_or watches turn no_watch)
      (sym found ∙ slice_get-get_or watches turn no_watch (omega (arith, size, within))))
  watched metric watches (Some watch) found here is along =
      let spec : WatchContents → AlertSpec = λ w. w.spec in
      let asked : LAlert → AlertSpec = λ one. one.spec in
      let alerts = alerts_at alert.metric installed.linked.alerts in
      let same : watch.spec ≡ alert.spec =
      same_Some watch.spec alert.spec (sym (slice_get-map spec watches turn ∙ ap (option_map spec) found)
      ∙ ap (λ specs. slice_get specs turn) (along.specs alert.metric here)
      ∙ slice_get-map asked alerts turn ∙ ap (option_map asked) is) in
      tells_untold watch (notices_by installed metric steps)
      (of_found (λ w. WatchStandsFor w (notices_by installed metric steps)) watches turn watch along.stand found)
      ∙ ap (λ s. alarms_told s (notices_by installed metric steps)) same

  -- a lane without watches has a metric that sets off no alarms
  by_lane : (metric : LMetric) (lane : MetricLane) → slice_get installed.linked.metrics alert.metric ≡ Some metric
      → slice_get (alerts_at alert.metric installed.linked.alerts) turn ≡ Some alert
      → LaneAlong metric installed steps lane
      → untold_of (slice_get (watches_in lane) turn) ≡ alarms_of installed steps alert.spec metric
  by_lane metric (Counts lane) here is along =
      watched metric lane.watches (slice_get lane.watches turn) refl here is along.watches
      ∙ ap (λ kind. alarms_of installed steps alert.spec (record metric { kind = kind })) (sym along.counts)
  by_lane metric (Values lane) here is along =
      ap (λ kind. alarms_of installed steps alert.spec (record metric { kind = kind })) (sym along.values)
  by_lane metric (PulledValues lane) here is along =
      ap (λ kind. alarms_of installed steps alert.spec (record metric { kind = kind })) (sym along.values)
  by_lane metric (Gauges lane) here is along =
      ap (λ kind. alarms_of installed steps alert.spec (record metric { kind = kind })) (sym along.gauge)
  by_lane metric (PulledGauges lane) here is along =
      ap (λ kind. alarms_of installed steps alert.spec (record metric { kind = kind })) (sym along.gauge)
  by_lane metric (Events lane) here is along =
      ap (λ kind. alarms_of installed steps alert.spec (record metric { kind = kind })) (sym along.events)
  by_lane metric (Sums lane) here is along =
      ap (λ kind. alarms_of installed steps alert.spec (record metric { kind = kind })) (sym along.sums)
  by_lane metric (Longest lane) here is along =
      ap (λ kind. alarms_of installed steps alert.spec (record metric { kind = kind })) (sym along.longest)

  -- the watch of an alert tells its alarms, where its metric has a track
  by_track : (tracks : List Track) (found : Option Track) → slice_get tracks alert.metric ≡ found
      → AllStandFor installed steps tracks
      → slice_get installed.linked.metrics alert.metric ≡ option_map metric_in found
      → slice_get (alerts_at alert.metric installed.linked.alerts) turn ≡ Some alert
      → untold_of (option_and_then (λ (track : Track). slice_get (watches_in track.lane) turn) found)
      ≡ alarms_of_found installed steps alert.spec (option_map metric_in found)
  by_track tracks None found all here is = refl
  by_track tracks (Some track) found all here is =
      by_lane track.metric track.lane here is
      (of_found (TrackStandsFor installed steps) tracks alert.metric track all found).lane

-- the watch of the alert at a place tells its alarms
tells_there : (installed : Installation) (steps : List Step) (alerts : List LAlert) (tracks : List Track) (place : ℕ)
    (alert : LAlert) → AllStandFor installed steps tracks → installed.linked.alerts ≡ alerts
    → installed.linked.metrics ≡ map metric_in tracks → slice_get alerts place ≡ Some alert
    → untold_of (watch_at alerts place tracks) ≡ alarms_on installed steps alert
tells_there installed steps alerts tracks place alert all alerts_are metrics_are there =
    let turn = length (alerts_at alert.metric (take place alerts)) in
    let metrics = ap (λ l. slice_get l alert.metric) metrics_are ∙ slice_get-map metric_in tracks alert.metric in
    ap (λ found. untold_of (option_and_then (λ (one : LAlert).
    watch_in tracks one.metric (length (alerts_at one.metric (take place alerts)))) found)) there
    ∙ by_track installed steps alert turn tracks (slice_get tracks alert.metric) refl all metrics
    (subst (λ l. slice_get (alerts_at alert.metric l) turn ≡ Some alert) (sym alerts_are)
    (in_turn alerts place alert there))
    ∙ ap (alarms_of_found installed steps alert.spec) (sym metrics)

-- So many of the alerts are shown.
pub record AreShown (alerts : List LAlert) (tracks : List Track) (place : ℕ) (shown : AlarmsShown) : Type 0 where
  pub first : (installed : Installation) (steps : List Step) → AllStandFor installed steps tracks
      → installed.linked.alerts ≡ alerts → installed.linked.metrics ≡ map metric_in tracks
      → ShowsFirst installed steps (take place alerts) shown

-- none is
pub none_shown : (alerts : List LAlert) (tracks : List Track)
    → AreShown alerts tracks 0 (record { listed = []; not_kept = [] })
none_shown alerts tracks = record {
  first = λ installed steps all alerts_are metrics_are. record { listed = refl; not_kept = refl };
}

-- one more of a list
take_found : {X : Type 0} (xs : List X) (place : ℕ) (x : X) → slice_get xs place ≡ Some x
    → take (place + 1) xs ≡ take place xs ++ x ∷ []
take_found xs place x is =
    take_more xs place x (slice_get_within xs place x is)
    ∙ ap (λ one. take place xs ++ one ∷ []) (get_or_from_slice_get xs place x x is)

module _ (alerts : List LAlert) (tracks : List Track) (place : ℕ) (alert : LAlert)
    (there : slice_get alerts place ≡ Some alert) (shown : AlarmsShown) (are : AreShown alerts tracks place shown) where
  -- what one more alert adds
  adds : {X : Type 0} (f : LAlert → List X)
      → flat_map f (take (place + 1) alerts) ≡ flat_map f (take place alerts) ++ f alert
  adds f =
      ap (flat_map f) (take_found alerts place alert there)
      ∙ flat_map-append f (take place alerts) (alert ∷ [])
      ∙ ap (λ l. flat_map f (take place alerts) ++ l) (append-nil (f alert))

  -- one more, with the alarms that its watch tells
  one_found : (next : AlarmsShown) → AddsAlarms alert (untold_of (watch_at alerts place tracks)) shown next
      → AreShown alerts tracks (place + 1) next
  one_found next added = record {
    first = λ installed steps all alerts_are metrics_are.
        let alarms = untold_of (watch_at alerts place tracks) in
        let before = are.first installed steps all alerts_are metrics_are in
        let is = tells_there installed steps alerts tracks place alert all alerts_are metrics_are there in
        let trees = alarm_trees installed steps in
        let drops = alarm_drops installed steps in
        record {
          listed = added.listed ∙ ap (λ l. l ++ map (alarm_tree alert.id) alarms.listed) before.listed
              ∙ ap (λ (a : Alarms). flat_map trees (take place alerts) ++ map (alarm_tree alert.id) a.listed) is
              ∙ sym (adds trees);
          not_kept = added.not_kept ∙ ap (λ l. l ++ drops_shown alert.id alarms.not_kept) before.not_kept
              ∙ ap (λ (a : Alarms). flat_map drops (take place alerts) ++ drops_shown alert.id a.not_kept) is
              ∙ sym (adds drops);
        };
  }

-- the alert at the place is
pub one_shown : (alerts : List LAlert) (tracks : List Track) (place : ℕ) → place < length alerts → (shown : AlarmsShown)
    → AreShown alerts tracks place shown → (next : AlarmsShown) → ShowsAlert alerts place tracks shown next
    → AreShown alerts tracks (place + 1) next
one_shown alerts tracks place within shown are next shows =
    let none : LAlert = record {
      id = pos 0;
      metric = 0;
      spec = record { bound = 0; parts = 0; threshold = 0; refractory = 0 };
    } in
    let alert = get_or alerts place none in
    let there = slice_get-get_or alerts place none within in
    one_found alerts tracks place alert there shown are next (shows alert there)

-- all are
pub all_shown : (alerts : List LAlert) (tracks : List Track) (place : ℕ) (shown : AlarmsShown) → length alerts ≤ place
    → AreShown alerts tracks place shown → AreAlarmsOf alerts tracks shown
all_shown alerts tracks place shown ends are installed steps all alerts_are metrics_are =
    subst (λ l. ShowsFirst installed steps l shown) (take_all place alerts ends)
    (are.first installed steps all alerts_are metrics_are)
