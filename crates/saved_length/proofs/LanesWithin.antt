-- A metric's lane takes no more bytes than the metric weighs, for each kind of lane.
use Rattle.std.proofs.Common.{◌≡◌, ℕ, ◌+◌, ◌<◌, ◌≤◌, Bool, List, [], ◌∷◌, ◌++◌, None, sym, ap, subst, arith}
use Rattle.std.specs.List.{sum_by}
use Rattle.alert_watch.specs.WatchItems.{watch_items}
use Rattle.alert_watch.specs.Watches.{WatchContents}
use Rattle.bucket_meaning.specs.Limits.{time_limit}
use Rattle.client_engine.specs.CountsAlong.{WatchedLane, CountsAlong}
use Rattle.client_engine.specs.EventsAlong.{EventLane, EventsAlong}
use Rattle.client_engine.specs.GaugesAlong.{GaugeLane, GaugesAlong}
use Rattle.client_engine.specs.LongestAlong.{LongestLane, LongestAlong}
use Rattle.client_engine.specs.NextSteps.{bare_step, ComeInTime}
use Rattle.client_engine.specs.PulledGaugesAlong.{PulledGaugeLane, PulledGaugesAlong}
use Rattle.client_engine.specs.PulledValuesAlong.{PulledValueLane, PulledValuesAlong}
use Rattle.client_engine.specs.SavedLanes.{watched_items, kind_number, kind_items, metric_lane_items}
use Rattle.client_engine.specs.SumsAlong.{SumLane, SumsAlong}
use Rattle.client_engine.specs.TrackStands.{LaneAlong}
use Rattle.client_engine.specs.ValuesAlong.{ValueLane, ValuesAlong}
use Rattle.client_engine.specs.declared.lanes.MetricLane.{MetricLane}
use Rattle.client_engine.specs.declared.lanes.MetricLane.TheVariants.{Counts, Values, PulledValues, Gauges, PulledGauges, Events, Sums, Longest}
use Rattle.config_links.specs.declared.linked.LMetric.{LMetric}
use Rattle.count_metric.specs.CountItems.{count_items}
use Rattle.duration_metric.specs.InnerKeys.{duration_demands}
use Rattle.duration_metric.specs.SparseItems.{longest_items}
use Rattle.duration_metric.specs.SumCalls.{sum_collecting}
use Rattle.duration_metric.specs.SumItems.{sum_producer_items}
use Rattle.flat_form.specs.Flat.{list_items}
use Rattle.gauge_metric.specs.EventItems.{events_items}
use Rattle.gauge_metric.specs.GaugeItems.{gauge_items}
use Rattle.gauge_metric.specs.PulledItems.{pulled_items}
use Rattle.metric_calls.proofs.AskingsLemmas.{asks_well}
use Rattle.metric_calls.proofs.SumCallsLemmas.{sums_ask_well}
use Rattle.metric_calls.proofs.TimelyLemmas.{DontGoBack}
use Rattle.metric_calls.specs.Askings.{calls_by_steps, steps_seen}
use Rattle.metric_calls.specs.DurationCalls.{sum_asking, IsTimedWell}
use Rattle.config_types.specs.declared.parameters.PredSpec.{PredSpec}
use Rattle.metric_lane.specs.LaneItems.{lane_items}
use Rattle.metric_meaning.specs.Histories.{What, Logged, Reported, Step, Installation}
use Rattle.metric_producer.proofs.OpeningLemmas.{all_along_opened}
use Rattle.metric_producer.specs.Calls.{standing_of}
use Rattle.metric_producer.specs.LaneCalls.{LaneStep, IsTimelyStep, AreTimely, last_at}
use Rattle.metric_calls.proofs.StepLemmas.{lane_step_after}
use Rattle.metric_calls.specs.LaneSteps.{lane_step}
use Rattle.sd_base.specs.Outputs.{outputs_after}
use Rattle.saved_weight.proofs.CountWithin.{count_within}
use Rattle.saved_weight.proofs.EventWithin.{event_within}
use Rattle.saved_weight.proofs.GaugeWithin.{gauge_within}
use Rattle.saved_weight.proofs.LaneWithin.{lane_within}
use Rattle.saved_weight.proofs.LongestWithin.{longest_within}
use Rattle.saved_weight.proofs.PulledGaugeWithin.{pulled_gauge_within}
use Rattle.saved_weight.proofs.PulledValueWithin.{pulled_value_within}
use Rattle.saved_weight.proofs.SizeLaws.{full_size, full-number, full-append, full-list}
use Rattle.saved_weight.proofs.SumWithin.{sum_within}
use Rattle.saved_weight.proofs.ValueWithin.{pushed_value_within}
use Rattle.saved_weight.specs.KindWeights.{weight_as, metric_weight}
use Rattle.value_metric.specs.BooksItems.{pushed_value_items}
use Rattle.value_metric.specs.PulledValueItems.{pulled_value_items}

-- a step in time doesn't come before the last
step_on : (last at : ℕ) (what : What) (truths : List Bool) (steps : List Step)
    → let step : Step = record { at = at; what = what; truths = truths } in
    IsTimelyStep last (bare_step step) → DontGoBack (last_at last (bare_step step)) steps
    → DontGoBack last (step ∷ steps)
step_on last at (Logged frame) truths steps in_time rest = (in_time.0, rest)
step_on last at (Reported include_current) truths steps in_time rest =
    (omega (arith, in_time), subst (λ n. DontGoBack n steps) (sym in_time) rest)

-- steps in time don't go back
steps_on : (last : ℕ) (steps : List Step) → ComeInTime last steps → DontGoBack last steps
steps_on last [] in_time = tt
steps_on last (step ∷ steps) in_time =
    step_on last step.at step.what step.truths steps in_time.0
    (steps_on (last_at last (bare_step step)) steps in_time.1)

-- nor do they from the beginning of time on
from_none : (last : ℕ) (steps : List Step) → DontGoBack last steps → DontGoBack 0 steps
from_none last [] all = tt
from_none last (step ∷ steps) all = (omega arith, all.1)

-- a step in time is timely for a lane, before others that are
timely_step : {News : Type 0} (news : Step → News) (last at : ℕ) (what : What) (truths : List Bool)
    (others : List (LaneStep News)) → let step : Step = record { at = at; what = what; truths = truths } in
    IsTimelyStep last (bare_step step) → AreTimely (last_at last (bare_step step)) others
    → AreTimely last (lane_step news step ∷ others)
timely_step news last at (Logged frame) truths others in_time rest = (in_time, rest)
timely_step news last at (Reported include_current) truths others in_time rest = (in_time, rest)

-- steps in time are timely for a lane, where others came before
timely_after : {News : Type 0} (news : List Step → Step → News) (last : ℕ) (before steps : List Step)
    → ComeInTime last steps → AreTimely last (outputs_after (lane_step_after news) before steps)
timely_after news last before [] in_time = tt
timely_after news last before (step ∷ steps) in_time =
    timely_step (news before) last step.at step.what step.truths
    (outputs_after (lane_step_after news) (before ++ step ∷ []) steps) in_time.0
    (timely_after news (last_at last (bare_step step)) (before ++ step ∷ []) steps in_time.1)

-- the watches of a lane: only one of counts has some
abbrev pub watches_in : MetricLane → List WatchContents
watches_in (Counts lane) = lane.watches
watches_in _ = []

-- what watches take
abbrev pub watches_size : List WatchContents → ℕ
watches_size watches = sum_by (λ watch. full_size (watch_items watch)) watches

-- what a lane may take besides its metric's entries and its watches
abbrev pub lane_room : ℕ
lane_room = 243

module _ (metric : LMetric) (installed : Installation) (steps : List Step) where
  -- what a lane of a kind may take, besides the number of the kind
  abbrev room : ℕ
  room = 234 + metric_weight installed steps metric

  counts_fit : (lane : WatchedLane) → CountsAlong metric installed steps lane
      → full_size (watched_items lane) ≤ room + watches_size lane.watches
  counts_fit lane along =
      let producer = count_within installed metric along.overflow steps lane.lane.producer
      along.along.collects.producer in
      let weight = ap (weight_as installed steps metric) along.counts in
      let one = lane_within count_items lane.lane in
      let watches = full-list watch_items lane.watches in
      let both = full-append (lane_items count_items lane.lane) (list_items watch_items lane.watches) in
      omega (arith, producer, weight, one, watches, both)

  values_fit : (lane : ValueLane) → ValuesAlong metric installed steps lane
      → full_size (lane_items pushed_value_items lane) ≤ room
  values_fit lane along =
      let producer = pushed_value_within installed metric along.source along.aggregation steps lane.producer
      along.along.collects.producer in
      let weight = ap (weight_as installed steps metric) along.values in
      let one = lane_within pushed_value_items lane in
      omega (arith, producer, weight, one)

  pulled_values_fit : (lane : PulledValueLane) → PulledValuesAlong metric installed steps lane
      → full_size (lane_items pulled_value_items lane) ≤ room
  pulled_values_fit lane along =
      let producer = pulled_value_within installed metric along.source along.spec steps lane.producer
      along.along.collects.producer in
      let weight = ap (weight_as installed steps metric) along.values in
      let one = lane_within pulled_value_items lane in
      omega (arith, producer, weight, one)

  gauges_fit : (lane : GaugeLane) → GaugesAlong metric installed steps lane
      → full_size (lane_items gauge_items lane) ≤ room
  gauges_fit lane along =
      let producer = gauge_within installed metric along.fields along.samples steps lane.producer
      along.along.collects.producer in
      let weight = ap (weight_as installed steps metric) along.gauge in
      let one = lane_within gauge_items lane in
      omega (arith, producer, weight, one)

  pulled_gauges_fit : (lane : PulledGaugeLane) → PulledGaugesAlong metric installed steps lane
      → full_size (lane_items pulled_items lane) ≤ room
  pulled_gauges_fit lane along =
      let producer = pulled_gauge_within installed metric along.fields along.samples along.mode along.trigger
      along.gauge steps lane.producer along.along.collects.producer in
      let weight = ap (weight_as installed steps metric) along.gauge in
      let one = lane_within pulled_items lane in
      omega (arith, producer, weight, one)

  events_fit : (lane : EventLane) → EventsAlong metric installed steps lane
      → full_size (lane_items events_items lane) ≤ room
  events_fit lane along =
      let producer = event_within installed metric steps lane.producer along.along.collects.producer in
      let weight = ap (weight_as installed steps metric) along.events in
      let one = lane_within events_items lane in
      omega (arith, producer, weight, one)

  module _ (in_time : ComeInTime installed.base steps) where
    -- no condition is owed after the calls of steps in time
    none_owed : (spec : PredSpec) → IsTimedWell installed metric spec → installed.base < time_limit
        → let asking = sum_asking installed metric spec in
        (standing_of (duration_demands asking.params) (calls_by_steps asking sum_collecting steps)).owed ≡ None
    none_owed spec timed fits =
        let asking = sum_asking installed metric spec in
        let well = sums_ask_well installed metric spec timed in
        (all_along_opened (duration_demands asking.params) fits [] well.opens asking.asks (steps_seen asking steps)
        (timely_after asking.news installed.base [] steps in_time) (asks_well asking sum_collecting well steps)).settled

    sums_fit : (lane : SumLane) → SumsAlong metric installed steps lane
        → full_size (lane_items sum_producer_items lane) ≤ room
    sums_fit lane along =
        let producer = sum_within installed metric along.spec steps along.timed lane.producer
        (none_owed along.spec along.timed along.along.fits) along.along.collects.producer in
        let weight = ap (weight_as installed steps metric) along.sums in
        let one = lane_within sum_producer_items lane in
        omega (arith, producer, weight, one)

    longest_fit : (lane : LongestLane) → LongestAlong metric installed steps lane
        → full_size (lane_items longest_items lane) ≤ room
    longest_fit lane along =
        let on = from_none installed.base steps (steps_on installed.base steps in_time) in
        let producer = longest_within installed metric along.spec steps along.timed on lane.producer
        along.along.collects.producer in
        let weight = ap (weight_as installed steps metric) along.longest in
        let one = lane_within longest_items lane in
        omega (arith, producer, weight, one)

    -- what a lane has by its kind
    kind_fits : (lane : MetricLane) → LaneAlong metric installed steps lane
        → full_size (kind_items lane) ≤ room + watches_size (watches_in lane)
    kind_fits (Counts lane) along = counts_fit lane along
    kind_fits (Values lane) along = let fits = values_fit lane along in omega (arith, fits)
    kind_fits (PulledValues lane) along = let fits = pulled_values_fit lane along in omega (arith, fits)
    kind_fits (Gauges lane) along = let fits = gauges_fit lane along in omega (arith, fits)
    kind_fits (PulledGauges lane) along = let fits = pulled_gauges_fit lane along in omega (arith, fits)
    kind_fits (Events lane) along = let fits = events_fit lane along in omega (arith, fits)
    kind_fits (Sums lane) along = let fits = sums_fit lane along in omega (arith, fits)
    kind_fits (Longest lane) along = let fits = longest_fit lane along in omega (arith, fits)

    -- a lane takes twenty-seven numbers at most, what its metric weighs, and its watches
    pub metric_lane_within : (lane : MetricLane) → LaneAlong metric installed steps lane
        → full_size (metric_lane_items lane)
        ≤ lane_room + metric_weight installed steps metric + watches_size (watches_in lane)
    metric_lane_within lane along =
        let number = full-number (kind_number lane) (kind_items lane) in
        let fits = kind_fits lane along in
        omega (arith, number, fits)
