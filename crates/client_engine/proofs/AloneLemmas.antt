-- A step that leaves a metric alone asks nothing of its producer, and so a lane takes a run of such steps by the frame
-- that stands for it.
use Rattle.std.proofs.Common.{◌≡◌, ℕ, Bool, false, ◌&&◌, List, [], ◌∷◌, ◌++◌, Option, Some, None, if◌then◌else◌, refl, sym, ap, subst, ◌∙◌, append_assoc, append-nil}
use Rattle.std.specs.Prelude.{is_some}
use Rattle.std.specs.Option.{option_map, option_and_then}
use Rattle.atom_record.specs.declared.log.LogFrame.{LogFrame}
use Rattle.atom_record.specs.declared.log.LogFrame.TheVariants.{Tick, AtomAt, Pull}
use Rattle.bucket_meaning.specs.Ends.{Moment}
use Rattle.config_links.specs.OwnMatchers.{kind_matchers}
use Rattle.config_links.specs.declared.linked.LKind.TheVariants as kinds
use Rattle.config_links.specs.declared.linked.LMetric.{LMetric}
use Rattle.config_links.specs.declared.linked.Linked.{Linked}
use Rattle.config_types.specs.declared.metric.Aggregation.{Aggregation}
use Rattle.config_types.specs.declared.parameters.PredSpec.{PredSpec}
use Rattle.field_select.specs.declared.leaf.FieldSet.{FieldSet}
use Rattle.count_metric.specs.CountStands.{count_law}
use Rattle.count_metric.proofs.JoiningLemmas as joining_counts
use Rattle.value_metric.specs.PushedStands.{pushed_law}
use Rattle.value_metric.specs.PulledStands as pulled_values
use Rattle.value_metric.proofs.JoiningLemmas as joining_values
use Rattle.gauge_metric.specs.GaugeStands.{gauge_law}
use Rattle.gauge_metric.specs.PulledStands as pulled_gauges
use Rattle.gauge_metric.specs.EventStands.{event_law}
use Rattle.gauge_metric.proofs.JoiningLemmas as joining_gauges
use Rattle.duration_metric.specs.SumStands.{sum_law}
use Rattle.duration_metric.specs.SparseStands.{sparse_law}
use Rattle.duration_metric.specs.declared.change.InnerChange.{InnerChange}
use Rattle.duration_metric.specs.declared.change.InnerEvent.{InnerEvent}
use Rattle.duration_metric.proofs.JoiningLemmas as joining_durations
use Rattle.metric_producer.specs.Collecting.{Law}
use Rattle.metric_producer.specs.Joining.{Joins}
use Rattle.metric_producer.specs.LaneCalls.{coming}
use Rattle.metric_producer.specs.declared.row.Row.{Row}
use Rattle.metric_lane.specs.LaneStands.{GetsFrame}
use Rattle.metric_lane.specs.declared.lane.Lane.{Lane}
use Rattle.metric_lane.proofs.LaneRunLemmas.{run_logs}
use Rattle.metric_meaning.specs.Arrivals.{arriving_by, is_active_in, holds_in, atom_key}
use Rattle.metric_meaning.specs.Histories.{What, Logged, Reported, Step, Installation, truth_at, moment_of}
use Rattle.metric_meaning.specs.PushedGaugeSteps.{keyed_sample}
use Rattle.metric_meaning.specs.PushedValueSteps.{keyed_integer}
use Rattle.metric_meaning.specs.Readings.{atom_reading}
use Rattle.metric_meaning.specs.Scenes.{Scene, scene_after}
use Rattle.metric_meaning.specs.SnapshotSteps.{snapshot_found}
use Rattle.metric_meaning.specs.Touched.{timed_predicate, is_touched}
use Rattle.metric_meaning.specs.ValueLeaves.{ValueLeaf}
use Rattle.metric_meaning.specs.Ways.{Way}
use Rattle.metric_meaning.proofs.TouchedDurations.{untouched_idle}
use Rattle.metric_calls.specs.Askings.{Asking, own_demands, steps_seen, AsksWell}
use Rattle.metric_calls.specs.CountCalls.{count_asking}
use Rattle.metric_calls.specs.ValueCalls.{keyed_int, value_asking}
use Rattle.metric_calls.specs.EventCalls.{event_asking}
use Rattle.metric_calls.specs.PushedGaugeCalls.{handed_sample, pushed_gauge_asking}
use Rattle.metric_calls.specs.SnapshotCalls.{Telling, truth_in, pull_calls, atom_calls, told_asking}
use Rattle.metric_calls.specs.PulledValueCalls.{value_telling, pulled_value_asking}
use Rattle.metric_calls.specs.PulledGaugeCalls.{gauge_telling, pulled_gauge_asking}
use Rattle.metric_calls.specs.DurationCalls.{first_event_of, delta_with, learning, duration_asking, inner_event_at, inner_changes, sum_asking, longest_asking}
use Rattle.metric_calls.proofs.CountCallsLemmas.{counts_ask_well}
use Rattle.metric_calls.proofs.ValueCallsLemmas.{values_ask_well}
use Rattle.metric_calls.proofs.EventCallsLemmas.{events_ask_well}
use Rattle.metric_calls.proofs.PushedGaugeCallsLemmas.{pushed_gauges_ask_well}
use Rattle.metric_calls.proofs.PulledValueCallsLemmas.{pulled_values_ask_well}
use Rattle.metric_calls.proofs.PulledGaugeCallsLemmas.{pulled_gauges_ask_well}
use Rattle.metric_calls.proofs.SumCallsLemmas.{sums_ask_well}
use Rattle.metric_calls.proofs.LongestCallsLemmas.{longest_ask_well}
use Rattle.metric_calls.proofs.InnerToldLemmas.{quiet_event, quiet_changes}
use Rattle.metric_calls.proofs.QuietStepsLemmas.{tick_quiet, pull_quiet}
use Rattle.client_engine.specs.Along.{Along}
use Rattle.client_engine.specs.CaughtUp.{LeavesAlone, AllLeaveAlone, MayCatchUp, TakesRun, TrackTakesRun}
use Rattle.client_engine.specs.Activity.{ActsAlong}
use Rattle.client_engine.specs.TrackStands.{LaneAlong}
use Rattle.client_engine.specs.declared.lanes.MetricLane.{MetricLane}
use Rattle.metric_activation.specs.declared.timer.Timer.{Timer}
use Rattle.client_engine.specs.CountsAlong.{WatchedLane, CountsAlong, CrossesWatched}
use Rattle.client_engine.specs.ValuesAlong.{ValueLane, ValuesAlong}
use Rattle.client_engine.specs.PulledValuesAlong.{PulledValueLane, PulledValuesAlong}
use Rattle.client_engine.specs.GaugesAlong.{GaugeLane, GaugesAlong}
use Rattle.client_engine.specs.PulledGaugesAlong.{PulledGaugeLane, PulledGaugesAlong}
use Rattle.client_engine.specs.EventsAlong.{EventLane, EventsAlong}
use Rattle.client_engine.specs.SumsAlong.{SumLane, SumsAlong}
use Rattle.client_engine.specs.LongestAlong.{LongestLane, LongestAlong}
use Rattle.known_conditions.specs.Touchers.{one_holds, tells_one}
use Rattle.client_engine.specs.Waking.{told_touchers, wakers, told_slices}
use Rattle.client_engine.proofs.ActivityLemmas.{tick_stays, atom_stays, pull_stays}
use Rattle.metric_meaning.proofs.AlertStepsLemmas.{IsFrame, BringNone}
use Rattle.client_engine.proofs.CountsLemmas.{watches_run}
use Rattle.client_engine.proofs.RunLemmas.{AsksNothing, nothing_asked, along_run}
use Rattle.client_engine.proofs.SleepingLemmas.{alone, duration_untouched, pulled_untouched, gauge_untouched}
use Rattle.client_engine.proofs.UntouchedLemmas.{nothing_changes}
use Rattle.client_engine.proofs.WakersLemmas.{told_off, kind_off, starting_off}

module _ (installed : Installation) (metric : LMetric) where
  -- where nothing is asked at a frame, a step that leaves a metric alone is one at which nothing is
  none_at : {Params News Event After X K C R : Type 0} (asking : Asking Params News Event After X K C R)
      (before : List Step) (step : Step) → LeavesAlone installed.linked metric step
      → ((frame : LogFrame) → step.what ≡ Logged frame
      → asking.asks (steps_seen asking before) (moment_of frame step.at) (asking.news before step) ≡ [])
      → AsksNothing asking before step
  none_at asking before step leaves none = of_what step.what leaves none where
    of_what : (what : What) → let s : Step = record step { what = what } in LeavesAlone installed.linked metric s
        → ((frame : LogFrame) → what ≡ Logged frame
        → asking.asks (steps_seen asking before) (moment_of frame step.at) (asking.news before s) ≡ [])
        → AsksNothing asking before s
    of_what (Logged frame) leaves none = none frame refl
    of_what (Reported include_current) leaves none = absurd leaves

  -- nothing arrives at a metric that gets the atoms of its own matcher
  none_comes : (scene : Scene) (step : Step) → kind_matchers metric.what metric.kind ≡ metric.what ∷ []
      → LeavesAlone installed.linked metric step → arriving_by scene metric step ≡ None
  none_comes scene step own leaves = of_what step.what leaves where
    of_what : (what : What) → let s : Step = record step { what = what } in LeavesAlone installed.linked metric s
        → arriving_by scene metric s ≡ None
    of_what (Logged (Tick at)) leaves = refl
    of_what (Logged (AtomAt at atom)) leaves =
        ap (λ b. if b && (is_active_in scene metric step.at && holds_in scene metric (atom_reading atom))
        then Some atom else None)
        (alone (truth_at metric.what step.truths)
        (sym (ap (one_holds step.truths) own) ∙ kind_off installed.linked.predicates metric step.truths leaves.0))
    of_what (Logged (Pull at id outcome)) leaves = refl
    of_what (Reported include_current) leaves = absurd leaves

  -- so none of the steps of a run brings anything that leave it alone
  nothing_comes : kind_matchers metric.what metric.kind ≡ metric.what ∷ [] → (before run : List Step)
      → AllLeaveAlone installed.linked run metric → BringNone installed metric before run
  nothing_comes own before [] leave = tt
  nothing_comes own before (step ∷ run) leave = (
    is_frame step.what leave.0,
    ap (option_map (atom_key (scene_after installed (before ++ step ∷ [])) metric))
        (none_comes (scene_after installed (before ++ step ∷ [])) step own leave.0),
    nothing_comes own (before ++ step ∷ []) run leave.1,
  )
    where
      is_frame : (what : What) → LeavesAlone installed.linked metric (record step { what = what })
          → IsFrame installed metric what
      is_frame (Logged frame) leaves = tt
      is_frame (Reported include_current) leaves = leaves

  module _ (before : List Step) (step : Step) (leaves : LeavesAlone installed.linked metric step) where
    abbrev scene : Scene
    scene = scene_after installed (before ++ step ∷ [])

    counts_none : (overflow : Bool) → metric.kind ≡ kinds.Count overflow
        → AsksNothing (count_asking installed metric overflow) before step
    counts_none overflow is =
        none_at (count_asking installed metric overflow) before step leaves
        (λ frame at. ap (λ atom. coming step.at (option_map (atom_key scene metric) atom))
        (none_comes scene step
        (ap (kind_matchers metric.what) is) leaves))

    values_none : (source : ValueLeaf) (aggregation : Aggregation)
        → metric.kind ≡ kinds.PushedValue source.atom_id source.leaf aggregation
        → AsksNothing (value_asking installed metric source aggregation) before step
    values_none source aggregation is =
        none_at (value_asking installed metric source aggregation) before step leaves
        (λ frame at. ap (λ atom. coming step.at
        (option_map keyed_int (option_and_then (keyed_integer scene metric source)
        atom)))
        (none_comes scene step
        (ap (kind_matchers metric.what) is) leaves))

    events_none : metric.kind ≡ kinds.Event → AsksNothing (event_asking installed metric) before step
    events_none is =
        none_at (event_asking installed metric) before step leaves
        (λ frame at. ap (coming step.at)
        (none_comes scene step
        (ap (kind_matchers metric.what) is) leaves))

    gauges_none : (fields : Option FieldSet) (samples : ℕ) → metric.kind ≡ kinds.PushedGauge fields samples
        → AsksNothing (pushed_gauge_asking installed metric fields samples) before step
    gauges_none fields samples is =
        none_at (pushed_gauge_asking installed metric fields samples) before step leaves
        (λ frame at. ap (λ atom. coming step.at (option_map handed_sample (option_map (keyed_sample scene metric fields)
        atom)))
        (none_comes scene step
        (ap (kind_matchers metric.what) is) leaves))

  -- a pulled metric is told nothing
  told_none : {Params Event X K C R : Type 0} (way : Way X K C R) (params : Params) (telling : Telling Event)
      (before : List Step) (step : Step) → LeavesAlone installed.linked metric step
      → (one_holds step.truths (wakers installed.linked.predicates metric) ≡ false
      → is_touched installed.linked.predicates metric step.truths ≡ false)
      → AsksNothing (told_asking way params telling installed metric) before step
  told_none way params telling before step leaves untouched = of_what step.what leaves where
    of_what : (what : What) → let s : Step = record step { what = what } in LeavesAlone installed.linked metric s
        → AsksNothing (told_asking way params telling installed metric) before s
    of_what (Logged (Tick at)) leaves = refl
    of_what (Logged (AtomAt at atom)) leaves =
        let s : Step = record step { what = Logged (AtomAt at atom) } in
        ap (λ touched. atom_calls telling touched step.at (truth_in (scene_after installed (before ++ s ∷ [])) metric)
        step.truths) (untouched leaves.0)
    of_what (Logged (Pull at id outcome)) leaves =
        let s : Step = record step { what = Logged (Pull at id outcome) } in
        ap (λ told. pull_calls telling told step.at (snapshot_found installed metric (before ++ s ∷ []))) leaves
    of_what (Reported include_current) leaves = absurd leaves

  -- no inner event comes to a duration, and nothing changes of its inner keys
  durations_none : {X K C R : Type 0} (spec : PredSpec) (way : Way X K C R) (before : List Step) (step : Step)
      → LeavesAlone installed.linked metric step → timed_predicate metric ≡ Some metric.what
      → (one_holds step.truths (wakers installed.linked.predicates metric) ≡ false
      → is_touched installed.linked.predicates metric step.truths ≡ false)
      → told_slices metric ≡ metric.slices → AsksNothing (duration_asking installed metric spec way) before step
  durations_none spec way before step leaves times untouched slices = of_what step.what leaves where
    nothing : (at : ℕ) (event : Option InnerEvent) (changes : List InnerChange) → event ≡ None → changes ≡ []
        → coming at event ++ learning at (delta_with (is_some event) changes) ≡ []
    nothing at event changes none same =
        ap (λ (e : Option InnerEvent). coming at e ++ learning at (delta_with (is_some e) changes)) none
        ∙ ap (λ (c : List InnerChange). learning at (delta_with false c)) same

    of_what : (what : What) → let s : Step = record step { what = what } in LeavesAlone installed.linked metric s
        → AsksNothing (duration_asking installed metric spec way) before s
    of_what (Logged (Tick at)) leaves =
        let s : Step = record step { what = Logged (Tick at) } in
        let quiet = tick_quiet step.at at step.truths in
        nothing step.at (inner_event_at installed metric s) (inner_changes installed metric spec before s)
        (quiet_event installed metric spec before s quiet) (quiet_changes installed metric spec before s quiet)
    of_what (Logged (AtomAt at atom)) leaves =
        let s : Step = record step { what = Logged (AtomAt at atom) } in
        let off = untouched leaves.0 in
        nothing step.at (inner_event_at installed metric s) (inner_changes installed metric spec before s)
        (ap first_event_of (untouched_idle installed metric spec before s times off))
        (nothing_changes installed metric spec before step.truths step.at at atom off
        (sym (ap (tells_one installed.linked.states atom.id) slices) ∙ leaves.1) times)
    of_what (Logged (Pull at id outcome)) leaves =
        let s : Step = record step { what = Logged (Pull at id outcome) } in
        let quiet = pull_quiet step.at at id outcome step.truths in
        nothing step.at (inner_event_at installed metric s) (inner_changes installed metric spec before s)
        (quiet_event installed metric spec before s quiet) (quiet_changes installed metric spec before s quiet)
    of_what (Reported include_current) leaves = absurd leaves

-- A metric, and the frame that stands for a run.
module _ (metric : LMetric) (moment : Moment) where
  -- a lane that gets the frame takes the run, where no step that leaves the metric alone asks anything
  takes_run : {P Params News Event After X K C V : Type 0} (law : Law P Params Event After X K C (Row V))
      (joins : Joins law) (asking : Asking Params News Event After X K C (Row V)) (old new : Lane P Event After V)
      → GetsFrame law old new moment → (installed : Installation) → AsksWell asking law.collecting
      → (own_demands asking law.collecting).base ≡ installed.base
      → ((before : List Step) (step : Step) → LeavesAlone installed.linked metric step → AsksNothing asking before step)
      → (steps run : List Step) → AllLeaveAlone installed.linked run metric → MayCatchUp installed steps run moment
      → Along asking law steps old → Along asking law (steps ++ run) new
  takes_run law joins asking old new crosses installed well base_is none steps run leave may along =
      along_run asking law well installed base_is steps run old new moment
      (run_logs law joins asking.asks old new moment crosses)
      (nothing_asked asking installed metric none steps run leave) may along

  pub counts_run : (old new : WatchedLane) → CrossesWatched moment old new
      → TakesRun (CountsAlong metric) metric moment old new
  counts_run old new crosses installed steps run has leave may = record {
    overflow = has.overflow;
    counts = has.counts;
    along = takes_run count_law joining_counts.counts_join
        (count_asking installed metric has.overflow) old.lane new.lane
        crosses.0 installed (counts_ask_well installed metric has.overflow) refl
        (λ before step leaves. counts_none installed metric before step leaves has.overflow
        has.counts) steps run leave may
        has.along;
    watches = watches_run metric installed has.overflow steps run moment old.lane old.watches new.watches has.along may
        crosses.1 (nothing_comes installed metric
        (ap (kind_matchers metric.what) has.counts) steps run leave) has.watches;
  }

  pub values_run : (old new : ValueLane) → GetsFrame pushed_law old new moment
      → TakesRun (ValuesAlong metric) metric moment old new
  values_run old new crosses installed steps run has leave may = record {
    source = has.source;
    aggregation = has.aggregation;
    values = has.values;
    along = takes_run pushed_law joining_values.pushed_join
        (value_asking installed metric has.source has.aggregation) old
        new crosses installed (values_ask_well installed metric has.source has.aggregation) refl
        (λ before step leaves. values_none installed metric before step leaves has.source
        has.aggregation has.values) steps
        run leave may has.along;
  }

  pub events_run : (old new : EventLane) → GetsFrame event_law old new moment
      → TakesRun (EventsAlong metric) metric moment old new
  events_run old new crosses installed steps run has leave may = record {
    events = has.events;
    along = takes_run event_law joining_gauges.events_join (event_asking installed metric) old new crosses installed
        (events_ask_well installed metric) refl
        (λ before step leaves. events_none installed metric before step leaves has.events) steps
        run leave may has.along;
  }

  pub gauges_run : (old new : GaugeLane) → GetsFrame gauge_law old new moment
      → TakesRun (GaugesAlong metric) metric moment old new
  gauges_run old new crosses installed steps run has leave may = record {
    fields = has.fields;
    samples = has.samples;
    gauge = has.gauge;
    along = takes_run gauge_law joining_gauges.pushed_join
        (pushed_gauge_asking installed metric has.fields has.samples) old
        new crosses installed (pushed_gauges_ask_well installed metric has.fields has.samples) refl
        (λ before step leaves. gauges_none installed metric before step leaves has.fields
        has.samples has.gauge) steps run
        leave may has.along;
  }

  pub pulled_values_run : (old new : PulledValueLane) → GetsFrame pulled_values.pulled_law old new moment
      → TakesRun (PulledValuesAlong metric) metric moment old new
  pulled_values_run old new crosses installed steps run has leave may =
      let asking = pulled_value_asking installed metric has.source has.spec in
      record {
        source = has.source;
        spec = has.spec;
        values = has.values;
        along = takes_run pulled_values.pulled_law joining_values.pulled_join asking old new crosses installed
            (pulled_values_ask_well installed metric has.source has.spec) refl
            (λ before step leaves. told_none installed metric asking.way asking.params (value_telling metric has.source)
            before step leaves (λ off.
            ap (λ kind. is_touched installed.linked.predicates (record metric { kind = kind }) step.truths) has.values
            ∙ pulled_untouched installed.linked.predicates metric step.truths
            (sym (ap (λ kind. one_holds step.truths (kind_matchers metric.what kind)) has.values)
            ∙ kind_off installed.linked.predicates metric step.truths off)
            (sym (ap (λ kind. one_holds step.truths
            (told_touchers installed.linked.predicates (record metric { kind = kind }))) has.values)
            ∙ told_off installed.linked.predicates metric step.truths off))) steps run leave may has.along;
      }

  pub pulled_gauges_run : (old new : PulledGaugeLane) → GetsFrame pulled_gauges.pulled_law old new moment
      → TakesRun (PulledGaugesAlong metric) metric moment old new
  pulled_gauges_run old new crosses installed steps run has leave may =
      let asking = pulled_gauge_asking installed metric has.fields has.samples has.mode has.trigger in
      record {
        fields = has.fields;
        samples = has.samples;
        mode = has.mode;
        trigger = has.trigger;
        gauge = has.gauge;
        along = takes_run pulled_gauges.pulled_law joining_gauges.pulled_join asking old new crosses installed
            (pulled_gauges_ask_well installed metric has.fields has.samples has.mode has.trigger) refl
            (λ before step leaves. told_none installed metric asking.way asking.params
            (gauge_telling metric has.fields has.trigger) before step leaves (λ off.
            ap (λ kind. is_touched installed.linked.predicates (record metric { kind = kind }) step.truths) has.gauge
            ∙ gauge_untouched installed.linked.predicates metric step.truths has.trigger
            (sym (ap (λ kind. one_holds step.truths (kind_matchers metric.what kind)) has.gauge)
            ∙ kind_off installed.linked.predicates metric step.truths off)
            (sym (ap (λ kind. one_holds step.truths
            (told_touchers installed.linked.predicates (record metric { kind = kind }))) has.gauge)
            ∙ told_off installed.linked.predicates metric step.truths off))) steps run leave may has.along;
      }

  pub sums_run : (old new : SumLane) → GetsFrame sum_law old new moment
      → TakesRun (SumsAlong metric) metric moment old new
  sums_run old new crosses installed steps run has leave may =
      let asking = sum_asking installed metric has.spec in
      record {
        spec = has.spec;
        sums = has.sums;
        timed = has.timed;
        along = takes_run sum_law joining_durations.sums_join asking old new crosses installed
            (sums_ask_well installed metric has.spec has.timed) refl
            (λ before step leaves. durations_none installed metric has.spec asking.way before step leaves
            (ap (λ kind. timed_predicate (record metric { kind = kind })) has.sums)
            (λ off.
            ap (λ kind. is_touched installed.linked.predicates (record metric { kind = kind }) step.truths) has.sums
            ∙ duration_untouched installed.linked.predicates metric step.truths
            (sym (ap (λ kind. one_holds step.truths
            (told_touchers installed.linked.predicates (record metric { kind = kind }))) has.sums)
            ∙ told_off installed.linked.predicates metric step.truths off))
            (ap (λ kind. told_slices (record metric { kind = kind })) has.sums)) steps run leave may has.along;
      }

  pub longest_run : (old new : LongestLane) → GetsFrame sparse_law old new moment
      → TakesRun (LongestAlong metric) metric moment old new
  longest_run old new crosses installed steps run has leave may =
      let asking = longest_asking installed metric has.spec in
      record {
        spec = has.spec;
        longest = has.longest;
        timed = has.timed;
        along = takes_run sparse_law joining_durations.sparse_join asking old new crosses installed
            (longest_ask_well installed metric has.spec has.timed) refl
            (λ before step leaves. durations_none installed metric has.spec asking.way before step leaves
            (ap (λ kind. timed_predicate (record metric { kind = kind })) has.longest)
            (λ off.
            ap (λ kind. is_touched installed.linked.predicates (record metric { kind = kind }) step.truths) has.longest
            ∙ duration_untouched installed.linked.predicates metric step.truths
            (sym (ap (λ kind. one_holds step.truths
            (told_touchers installed.linked.predicates (record metric { kind = kind }))) has.longest)
            ∙ told_off installed.linked.predicates metric step.truths off))
            (ap (λ kind. told_slices (record metric { kind = kind })) has.longest)) steps run leave may has.along;
      }

-- a book stands for what it did and a run that leaves its metric alone
acts_run : (linked : Linked) (metric : LMetric) (acts : List Timer) (steps run : List Step)
    → AllLeaveAlone linked run metric → ActsAlong metric steps acts → ActsAlong metric (steps ++ run) acts
acts_run linked metric acts steps [] leave along =
    subst (λ all. ActsAlong metric all acts) (sym (append-nil steps)) along
acts_run linked metric acts steps (step ∷ run) leave along =
    subst (λ all. ActsAlong metric all acts) (append_assoc steps (step ∷ []) run)
    (acts_run linked metric acts (steps ++ step ∷ []) run leave.1 (of_what step.what leave.0)) where
      of_what : (what : What) → let s : Step = record step { what = what } in LeavesAlone linked metric s
          → ActsAlong metric (steps ++ s ∷ []) acts
      of_what (Logged (Tick at)) leaves = tick_stays metric steps acts along step.at at step.truths
      of_what (Logged (AtomAt at atom)) leaves =
          atom_stays metric steps acts along step.at at atom step.truths
          (starting_off linked.predicates metric step.truths leaves.0)
      of_what (Logged (Pull at id outcome)) leaves = pull_stays metric steps acts along step.at at
          id outcome step.truths
      of_what (Reported include_current) leaves = absurd leaves

-- so a metric takes a run that leaves it alone where its lane does
pub track_run : (moment : Moment) (metric : LMetric) (old new : MetricLane) (acts : List Timer)
    → TakesRun (LaneAlong metric) metric moment old new
    → TrackTakesRun moment (record { metric = metric; lane = old; acts = acts })
    (record { metric = metric; lane = new; acts = acts })
track_run moment metric old new acts takes installed steps run has leave may = record {
  lane = takes installed steps run has.lane leave may;
  acts = acts_run installed.linked metric acts steps run leave has.acts;
}
