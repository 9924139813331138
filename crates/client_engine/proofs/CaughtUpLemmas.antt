-- The metrics of a configuration take a run that leaves each alone, one by one, and so does the configuration.
use Rattle.std.proofs.Common.{◌≡◌, ℕ, ◌+◌, ◌<◌, List, ◌++◌, length, set, get_or, take, drop, map, All, refl, sym, ap, subst, ◌∙◌, arith}
use Rattle.std.proofs.lemmas.List.{length-set, length-map, get_or-map, take_more_set, take_all, drop-set-lt, drop-drop}
use Rattle.std.proofs.lemmas.List.Elements.{All-nil, All-push, All-get_or}
use Rattle.bucket_meaning.specs.Ends.{Moment}
use Rattle.config_links.specs.declared.linked.Linked.{Linked}
use Rattle.config_links.specs.declared.linked.LMetric.{LMetric}
use Rattle.count_metric.specs.CountStands.{count_law}
use Rattle.value_metric.specs.PushedStands.{pushed_law}
use Rattle.value_metric.specs.PulledStands as pulled_values
use Rattle.gauge_metric.specs.GaugeStands.{gauge_law}
use Rattle.gauge_metric.specs.PulledStands as pulled_gauges
use Rattle.gauge_metric.specs.EventStands.{event_law}
use Rattle.duration_metric.specs.SumStands.{sum_law}
use Rattle.duration_metric.specs.SparseStands.{sparse_law}
use Rattle.metric_lane.specs.LaneClock.{NoEndBefore}
use Rattle.metric_lane.proofs.LaneStandsLemmas.{frame_before_end}
use Rattle.metric_meaning.specs.Histories.{Step, Installation}
use Rattle.metric_meaning.specs.PredicateSteps.{tables_after}
use Rattle.client_engine.specs.Asleep.{IsCaughtUp}
use Rattle.client_engine.specs.CaughtUp.{AllLeaveAlone, MayCatchUp, TakesRun, TrackTakesRun, AllTakeRun}
use Rattle.known_conditions.specs.Known.{KnowsAfter}
use Rattle.client_engine.specs.Running.{Running, linked_of}
use Rattle.client_engine.specs.Tracks.{metric_in, AllStandFor}
use Rattle.client_engine.specs.TrackStands.{LaneAlong, TrackStandsFor}
use Rattle.client_engine.specs.Woken.{clock_of_lane, IsDue, AllDue}
use Rattle.client_engine.specs.declared.lanes.MetricLane.{MetricLane}
use Rattle.client_engine.specs.declared.lanes.MetricLane.TheVariants.{Counts, Values, PulledValues, Gauges, PulledGauges, Events, Sums, Longest}
use Rattle.client_engine.specs.declared.track.Track.{Track}
use Rattle.client_engine.proofs.AloneLemmas.{counts_run, values_run, pulled_values_run, gauges_run, pulled_gauges_run, events_run, sums_run, longest_run, track_run}
use Rattle.client_engine.proofs.TracksLemmas.{same_here}
use Rattle.known_conditions.proofs.ListsLemmas.{map-set_same}
use Rattle.client_engine.proofs.WatchesLemmas.{ends_none}
use Rattle.client_engine.proofs.UntouchingLemmas.{run_leaves_alone, run_tables, run_reports_none}

-- a lane takes a run where it does as it was found
pub lane_takes : (metric : LMetric) (moment : Moment) (old found new : MetricLane) → old ≡ found
    → TakesRun (LaneAlong metric) metric moment found new → TakesRun (LaneAlong metric) metric moment old new
lane_takes metric moment old found new is takes =
    subst (λ lane. TakesRun (LaneAlong metric) metric moment lane new) (sym is) takes

-- the lane of a metric of any kind none of whose buckets ends before a time takes a run for which an earlier frame
-- stands, as it is
lane_stays : (moment : Moment) (time : ℕ) → moment.at < time → (metric : LMetric) (lane : MetricLane)
    → NoEndBefore time (clock_of_lane lane) → TakesRun (LaneAlong metric) metric moment lane lane
lane_stays moment time early metric (Counts lane) later =
    counts_run metric moment lane lane (
      frame_before_end count_law lane.lane moment time later early,
      ends_none lane.lane.clock moment time lane.watches later early,
    )
lane_stays moment time early metric (Values lane) later =
    values_run metric moment lane lane (frame_before_end pushed_law lane moment time later early)
lane_stays moment time early metric (PulledValues lane) later =
    pulled_values_run metric moment lane lane (frame_before_end pulled_values.pulled_law lane moment time later early)
lane_stays moment time early metric (Gauges lane) later =
    gauges_run metric moment lane lane (frame_before_end gauge_law lane moment time later early)
lane_stays moment time early metric (PulledGauges lane) later =
    pulled_gauges_run metric moment lane lane (frame_before_end pulled_gauges.pulled_law lane moment time later early)
lane_stays moment time early metric (Events lane) later =
    events_run metric moment lane lane (frame_before_end event_law lane moment time later early)
lane_stays moment time early metric (Sums lane) later =
    sums_run metric moment lane lane (frame_before_end sum_law lane moment time later early)
lane_stays moment time early metric (Longest lane) later =
    longest_run metric moment lane lane (frame_before_end sparse_law lane moment time later early)

-- and so does the metric
pub track_stays : (moment : Moment) (time : ℕ) → moment.at < time → (track : Track) → IsDue time track
    → TrackTakesRun moment track track
track_stays moment time early track due =
    track_run moment track.metric track.lane track.lane track.acts
    (lane_stays moment time early track.metric track.lane due)

-- a metric is left alone where all are
left_here : (installed : Installation) (run : List Step) (tracks : List Track) (place : ℕ) (none : Track)
    → place < length tracks → All (AllLeaveAlone installed.linked run) (map metric_in tracks)
    → AllLeaveAlone installed.linked run (get_or tracks place none).metric
left_here installed run tracks place none within all =
    subst (AllLeaveAlone installed.linked run) (get_or-map metric_in tracks place none (metric_in none) within)
    (all place (metric_in none) (omega (arith, within, length-map tracks metric_in)))

-- so all do, none of whose buckets ends before a time
pub all_stay : (moment : Moment) (due : ℕ) (tracks : List Track) → moment.at < due → AllDue due tracks
    → AllTakeRun moment tracks tracks
all_stay moment due tracks early ends installed steps run all leave may place none within =
    track_stays moment due early (get_or tracks place none) (ends place none within) installed steps run
    (all place none within) (left_here installed run tracks place none within leave) may

-- So many of the tracks took a run by the frame that stands for it, and the others are as they were.
pub record AreCrossed (moment : Moment) (old now : List Track) (index : ℕ) : Type 0 where
  pub len : length now ≡ length old
  pub metrics : map metric_in now ≡ map metric_in old
  pub rest : drop index now ≡ drop index old
  pub stand : (installed : Installation) (steps run : List Step) → AllStandFor installed steps old
      → All (AllLeaveAlone installed.linked run) (map metric_in old) → MayCatchUp installed steps run moment
      → AllStandFor installed (steps ++ run) (take index now)

module _ (moment : Moment) where
  -- none took it yet
  pub none_crossed : (tracks : List Track) → AreCrossed moment tracks tracks 0
  none_crossed tracks = record {
    len = refl;
    metrics = refl;
    rest = refl;
    stand = λ installed steps run all leave may. All-nil (TrackStandsFor installed (steps ++ run));
  }

  -- one more took it
  pub one_crossed : (old now : List Track) (index : ℕ) (track none : Track) → index < length now
      → AreCrossed moment old now index → track.metric ≡ (get_or now index none).metric
      → TrackTakesRun moment (get_or now index none) track
      → AreCrossed moment old (set now index track) (index + 1)
  one_crossed old now index track none within are metric takes = record {
    len = length-set now index track ∙ are.len;
    metrics = map-set_same metric_in now index track none within metric ∙ are.metrics;
    rest = drop-set-lt (index + 1) now index track (omega arith) ∙ sym (drop-drop 1 index now)
        ∙ ap (drop 1) are.rest ∙ drop-drop 1 index old;
    stand = λ installed steps run all leave may.
        let inside : index < length old = subst (λ n. index < n) are.len within in
        let same = same_here now old index none are.rest in
        let here : TrackStandsFor installed steps (get_or now index none) =
        subst (TrackStandsFor installed steps) (sym same)
        (All-get_or (TrackStandsFor installed steps) old index none inside all) in
        subst (AllStandFor installed (steps ++ run)) (sym (take_more_set now index track within))
        (All-push (TrackStandsFor installed (steps ++ run)) (take index now) track
        (are.stand installed steps run all leave may)
        (takes installed steps run here
        (subst (λ (t : Track). AllLeaveAlone installed.linked run t.metric) (sym same)
        (left_here installed run old index none inside leave)) may));
  }

  -- all took it
  pub all_crossed : (old now : List Track) (index : ℕ) → length now ≡ index → AreCrossed moment old now index
      → AllTakeRun moment old now
  all_crossed old now index ends are installed steps run all leave may =
      subst (AllStandFor installed (steps ++ run)) (take_all index now (omega (arith, ends)))
      (are.stand installed steps run all leave may)

-- an instance whose metrics took a run is caught up with it
pub instance_caught : (old new : Running) (moment : Moment) → new ≡ record old { tracks = new.tracks }
    → linked_of new ≡ linked_of old → AllTakeRun moment old.tracks new.tracks → IsCaughtUp old moment new
instance_caught old new moment same stays takes history run has untouching in_time stands later fits =
    let installed = history.installed in
    let steps = history.steps in
    let known : new.known ≡ old.known = ap (λ (it : Running). it.known) same in
    let predicates : old.known.predicates
    ≡ installed.linked.predicates = ap (λ (l : Linked). l.predicates) has.linked in
    let tables : tables_after old.known.predicates (steps ++ run) ≡ tables_after old.known.predicates steps =
    subst (λ ps. tables_after ps (steps ++ run) ≡ tables_after ps steps) (sym predicates)
    (run_tables installed.linked steps run untouching) in
    let metrics : map metric_in old.tracks ≡ installed.linked.metrics = ap (λ (l : Linked). l.metrics) has.linked in
    record {
      linked = stays ∙ has.linked;
      base = ap (λ (it : Running). it.base) same ∙ has.base;
      last = ap (λ (it : Running). it.last) same ∙ has.last
          ∙ sym (run_reports_none installed.linked installed.base steps run untouching);
      in_time = in_time;
      knows = subst (KnowsAfter (steps ++ run)) (sym known) (has.knows ∙ sym tables);
      tracks = takes installed steps run has.tracks
          (subst (All (AllLeaveAlone installed.linked run)) (sym metrics)
          (run_leaves_alone installed.linked run untouching))
          (record { in_time = in_time; stands = stands; not_before = later; fits = fits });
    }
