-- The saved form of an instance is no longer than its history weighs.
use Rattle.std.proofs.Common.{◌≡◌, ℕ, suc, ◌+◌, ◌*◌, ◌≤◌, List, [], ◌∷◌, ◌++◌, map, length, Some, refl, sym, ap, subst, ◌∙◌, append_assoc, arith}
use Rattle.std.specs.Prelude.{nat_le, slice_get, All}
use Rattle.std.specs.List.{sum_by}
use Rattle.std.proofs.lemmas.List.{length-append, length-map}
use Rattle.std.proofs.lemmas.List.Elements.{All-head, All-tail}
use Rattle.std.proofs.lemmas.List.Sums.{sum_by-cons}
use Rattle.client_engine.specs.Activity.{ActsAlong}
use Rattle.client_engine.specs.InstanceStands.{InstanceStandsFor}
use Rattle.client_engine.specs.NextSteps.{ComeInTime}
use Rattle.client_engine.specs.Running.{Running}
use Rattle.client_engine.specs.SavedInstances.{track_items, IsSavedTrack, instance_items}
use Rattle.client_engine.specs.SavedLanes.{metric_lane_items, IsMetricLane}
use Rattle.client_engine.specs.TrackStands.{LaneAlong, TrackStandsFor}
use Rattle.client_engine.specs.Tracks.{metric_in, AllStandFor}
use Rattle.client_engine.specs.Watches.{alerts_at}
use Rattle.client_engine.specs.declared.lanes.MetricLane.{MetricLane}
use Rattle.client_engine.specs.declared.lanes.MetricLane.TheVariants.{Counts, Values, PulledValues, Gauges, PulledGauges, Events, Sums, Longest}
use Rattle.client_engine.specs.declared.track.Track.{Track}
use Rattle.config_links.specs.declared.linked.LActivation.{LActivation}
use Rattle.config_links.specs.declared.linked.LAlert.{LAlert}
use Rattle.config_links.specs.declared.linked.LMetric.{LMetric}
use Rattle.config_links.specs.declared.linked.LPredicate.{LPredicate}
use Rattle.config_links.specs.declared.linked.Linked.{Linked}
use Rattle.flat_form.specs.Bounded.{items_bounded}
use Rattle.flat_form.specs.Flat.{list_items}
use Rattle.flat_form.specs.ItemSpelling.{spelled_items}
use Rattle.flat_form.specs.declared.item.Item.{Item}
use Rattle.flat_form.specs.declared.item.Item.TheVariants.{Num}
use Rattle.metric_activation.specs.BookItems.{act_book_items}
use Rattle.metric_activation.specs.declared.timer.Timer.{Timer}
use Rattle.metric_meaning.specs.Histories.{Step, Installation, History}
use Rattle.metric_meaning.specs.PredicateSteps.{table_after, tables_after}
use Rattle.predicate_state.specs.PredicateItems.{predicate_items}
use Rattle.predicate_state.specs.PredicateTable.{PredicateTable}
use Rattle.saved_length.proofs.AlertsWithin.{alert_room, lane_watches_within, alerts_from, alerts_split}
use Rattle.saved_length.proofs.LanesWithin.{watches_in, watches_size, lane_room, metric_lane_within}
use Rattle.saved_weight.proofs.EachLaws.{filter_within}
use Rattle.saved_weight.proofs.SizeLaws.{full_size, full-number, full-append, full-list}
use Rattle.saved_weight.proofs.TablesWithin.{predicate_within, activations_within}
use Rattle.saved_weight.specs.AlertWeights.{alert_weight}
use Rattle.saved_weight.specs.HistoryWeights.{predicate_weight, activations_weight, history_weight}
use Rattle.saved_weight.specs.KindWeights.{metric_weight}

-- the metrics of tracks, with others before
metrics_at : (before : List Track) (track : Track) (later : List Track)
    → slice_get (map metric_in (before ++ track ∷ later)) (length before) ≡ Some track.metric
metrics_at [] track later = refl
metrics_at (first ∷ before) track later = metrics_at before track later

-- a metric has as many timers as activations
timers_are : (metric : LMetric) (steps : List Step) (acts : List Timer) → ActsAlong metric steps acts
    → length acts ≡ length metric.activations
timers_are metric steps acts along =
    let timers = length-map acts (λ (timer : Timer). timer.ttl) in
    let activations = length-map metric.activations (λ (activation : LActivation). activation.ttl) in
    let same = ap length along.ttls in
    omega (arith, timers, activations, same)

module _ (installed : Installation) (steps : List Step) (in_time : ComeInTime installed.base steps) where
  -- the watches of a lane take no more than the alerts on its metric may
  watches_fit : (metric : LMetric) (place : ℕ) → slice_get installed.linked.metrics place ≡ Some metric
      → (lane : MetricLane) → LaneAlong metric installed steps lane → IsMetricLane lane
      → watches_size (watches_in lane) ≤ sum_by (alert_room installed steps) (alerts_at place installed.linked.alerts)
  watches_fit metric place at (Counts lane) along is =
      lane_watches_within installed steps metric along.overflow place along.counts at lane along is.1
  watches_fit metric place at (Values lane) along is = omega arith
  watches_fit metric place at (PulledValues lane) along is = omega arith
  watches_fit metric place at (Gauges lane) along is = omega arith
  watches_fit metric place at (PulledGauges lane) along is = omega arith
  watches_fit metric place at (Events lane) along is = omega arith
  watches_fit metric place at (Sums lane) along is = omega arith
  watches_fit metric place at (Longest lane) along is = omega arith

  -- what a metric may take: twenty-eight numbers, what it weighs, and its activations
  abbrev metric_room : LMetric → ℕ
  metric_room metric = lane_room + 9 + metric_weight installed steps metric + activations_weight metric

  -- a track takes no more than its metric and the alerts on it may
  track_within : (track : Track) (place : ℕ) → slice_get installed.linked.metrics place ≡ Some track.metric
      → TrackStandsFor installed steps track → IsSavedTrack track
      → full_size (track_items track)
      ≤ metric_room track.metric + sum_by (alert_room installed steps) (alerts_at place installed.linked.alerts)
  track_within track place at stands is =
      let lane = metric_lane_within track.metric installed steps in_time track.lane stands.lane in
      let watches = watches_fit track.metric place at track.lane stands.lane is.0 in
      let acts = activations_within track.acts in
      let as_many = timers_are track.metric steps track.acts stands.acts in
      let both = full-append (metric_lane_items track.lane) (act_book_items track.acts) in
      omega (arith, lane, watches, acts, as_many, both)

  -- tracks that stand behind others take no more than their metrics, and the alerts on these, may
  tracks_within : (before tracks : List Track) → installed.linked.metrics ≡ map metric_in (before ++ tracks)
      → AllStandFor installed steps tracks → All IsSavedTrack tracks
      → sum_by (λ track. full_size (track_items track)) tracks
      ≤ sum_by metric_room (map metric_in tracks)
      + sum_by (alert_room installed steps) (alerts_from (length before) installed.linked.alerts)
  tracks_within before [] are stand is = omega arith
  tracks_within before (track ∷ tracks) are stand is =
      let place = length before in
      let alerts = installed.linked.alerts in
      let size : Track → ℕ = λ track. full_size (track_items track) in
      let at = ap (λ metrics. slice_get metrics place) are ∙ metrics_at before track tracks in
      let here = track_within track place at (All-head (TrackStandsFor installed steps) track tracks stand)
      (All-head IsSavedTrack track tracks is) in
      let rest = tracks_within (before ++ track ∷ []) tracks
      (are ∙ ap (map metric_in) (sym (append_assoc before (track ∷ []) tracks)))
      (All-tail (TrackStandsFor installed steps) track tracks stand) (All-tail IsSavedTrack track tracks is) in
      let next = length-append before (track ∷ []) in
      let moved = ap (λ p. sum_by (alert_room installed steps) (alerts_from p alerts)) (next ∙ one_more place) in
      let split = alerts_split (alert_room installed steps) place alerts in
      let sizes = sum_by-cons size track tracks in
      let rooms = sum_by-cons metric_room track.metric (map metric_in tracks) in
      omega (arith, here, rest, moved, split, sizes, rooms)
    where
      one_more : (n : ℕ) → n + 1 ≡ suc n
      one_more n = omega arith

  -- the rooms of metrics, counted
  rooms_are : (metrics : List LMetric)
      → sum_by metric_room metrics
      ≡ (lane_room + 9) * length metrics + sum_by (metric_weight installed steps) metrics
      + sum_by activations_weight metrics
  rooms_are [] = omega arith
  rooms_are (metric ∷ metrics) =
      let rest = rooms_are metrics in
      let one = sum_by-cons metric_room metric metrics in
      let two = sum_by-cons (metric_weight installed steps) metric metrics in
      let three = sum_by-cons activations_weight metric metrics in
      omega (arith, rest, one, two, three)

  -- those of alerts
  alert_rooms_are : (alerts : List LAlert)
      → sum_by (alert_room installed steps) alerts
      ≡ 171 * length alerts + sum_by (alert_weight installed steps) alerts
  alert_rooms_are [] = omega arith
  alert_rooms_are (alert ∷ alerts) =
      let rest = alert_rooms_are alerts in
      let one = sum_by-cons (alert_room installed steps) alert alerts in
      let two = sum_by-cons (alert_weight installed steps) alert alerts in
      omega (arith, rest, one, two)

-- what predicates know takes seven numbers each, and what it weighs
predicates_within : (predicates : List LPredicate) (steps : List Step)
    → sum_by (λ table. full_size (predicate_items table)) (tables_after predicates steps)
    ≤ 63 * length predicates + sum_by (predicate_weight steps) predicates
predicates_within [] steps = omega arith
predicates_within (predicate ∷ predicates) steps =
    let size : PredicateTable → ℕ = λ table. full_size (predicate_items table) in
    let rest = predicates_within predicates steps in
    let here = predicate_within (table_after predicate steps) in
    let one = sum_by-cons size (table_after predicate steps) (tables_after predicates steps) in
    let other = sum_by-cons (predicate_weight steps) predicate predicates in
    omega (arith, rest, here, one, other)

-- an instance takes four numbers, and what its history weighs
pub instance_size : (it : Running) (history : History) → InstanceStandsFor it history → All IsSavedTrack it.tracks
    → full_size (instance_items it) ≤ 36 + history_weight history
instance_size it history stands saved =
    let installed = history.installed in
    let steps = history.steps in
    let linked = installed.linked in
    let tables = list_items predicate_items it.known.tables in
    let tracks = list_items track_items it.tracks in
    let last : List Item = Num it.last ∷ (tables ++ tracks) in
    let one = full-number it.last (tables ++ tracks) in
    let two = full-number it.base last in
    let both = full-append tables tracks in
    let table_list = full-list predicate_items it.known.tables in
    let known = ap (sum_by (λ table. full_size (predicate_items table))) stands.knows in
    let same_predicates : it.known.predicates ≡ linked.predicates =
    ap (λ (l : Linked). l.predicates) stands.linked in
    let tables_known = tables_after it.known.predicates steps in
    let predicates = subst (λ ps. sum_by (λ table. full_size (predicate_items table)) tables_known
    ≤ 63 * length ps + sum_by (predicate_weight steps) ps) same_predicates
    (predicates_within it.known.predicates steps) in
    let metrics_are : linked.metrics ≡ map metric_in it.tracks = sym (ap (λ (l : Linked). l.metrics) stands.linked) in
    let track_list = full-list track_items it.tracks in
    let each = tracks_within installed steps stands.in_time [] it.tracks metrics_are stands.tracks saved in
    let rooms = ap (sum_by (metric_room installed steps stands.in_time)) metrics_are in
    let counted = rooms_are installed steps stands.in_time linked.metrics in
    let fewer = filter_within (alert_room installed steps) (λ (alert : LAlert). nat_le 0 alert.metric) linked.alerts in
    let alerts = alert_rooms_are installed steps stands.in_time linked.alerts in
    omega (arith, one, two, both, table_list, known, predicates, track_list, each, rooms, counted, fewer, alerts)

-- so its saved form has no more bytes
pub instance_within : (it : Running) (history : History) → InstanceStandsFor it history → All IsSavedTrack it.tracks
    → length (spelled_items (instance_items it)) ≤ 36 + history_weight history
instance_within it history stands saved =
    let spelled = items_bounded (instance_items it) in
    let size = instance_size it history stands saved in
    omega (arith, spelled, size)
