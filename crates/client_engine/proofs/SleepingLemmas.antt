-- A metric that sleeps through a frame, which isn't a pull and ends none of its buckets, is as it was.
use Rattle.std.proofs.Common.{◌≡◌, ℕ, ◌<◌, Bool, true, false, ◌&&◌, ◌||◌, List, [], ◌∷◌, ◌++◌, length, get_or, slice_get, Option, Some, None, if◌then◌else◌, refl, sym, ap, subst, ◌∙◌, append-nil, inl, inr}
use Rattle.std.specs.Option.{option_map_or, option_map, option_and_then}
use Rattle.std.proofs.lemmas.Bool.{cases_lt, true≢false}
use Rattle.std.proofs.lemmas.List.{get_or_past}
use Rattle.std.proofs.lemmas.List.Folds.{list_any-append}
use Rattle.std.proofs.lemmas.Option.{slice_get_past, slice_get_read}
use Rattle.atom_record.specs.declared.atom.Atom.{Atom}
use Rattle.atom_record.specs.declared.log.LogFrame.{LogFrame}
use Rattle.atom_record.specs.declared.log.LogFrame.TheVariants.{Tick, AtomAt, Pull}
use Rattle.config_links.specs.OwnMatchers.{place_named, kind_matchers}
use Rattle.config_links.specs.declared.linked.LMetric.{LMetric}
use Rattle.config_links.specs.declared.linked.LPredicate.{LPredicate}
use Rattle.count_metric.specs.CountStands.{count_law}
use Rattle.value_metric.specs.PushedStands.{pushed_law}
use Rattle.value_metric.specs.PulledStands as pulled_values
use Rattle.gauge_metric.specs.GaugeStands.{gauge_law}
use Rattle.gauge_metric.specs.PulledStands as pulled_gauges
use Rattle.gauge_metric.specs.EventStands.{event_law}
use Rattle.duration_metric.specs.SumStands.{sum_law}
use Rattle.duration_metric.specs.SparseStands.{sparse_law}
use Rattle.metric_producer.specs.declared.row.Row.{Row}
use Rattle.metric_producer.specs.Collecting.{Law}
use Rattle.metric_lane.specs.LaneClock.{NoEndBefore}
use Rattle.metric_lane.specs.LaneStands.{LaneHas, GetsFrame, LogsEvent}
use Rattle.metric_lane.specs.declared.lane.Lane.{Lane}
use Rattle.metric_lane.proofs.LaneStandsLemmas.{frame_before_end}
use Rattle.metric_lane.proofs.LaneStepsLemmas.{event_logs}
use Rattle.session_frames.specs.FrameReading.{log_time}
use Rattle.metric_meaning.specs.ActivationSteps.{is_active_after}
use Rattle.metric_meaning.specs.Arrivals.{arriving_by, is_active_in, holds_in}
use Rattle.metric_meaning.specs.Readings.{atom_reading}
use Rattle.metric_meaning.specs.PushedValueSteps.{keyed_integer}
use Rattle.metric_meaning.specs.Arrivals.{atom_key}
use Rattle.metric_meaning.specs.Histories.{truth_at, moment_of, log_after}
use Rattle.metric_meaning.specs.PredicateSteps.{named_truth}
use Rattle.metric_meaning.specs.Scenes.{Scene}
use Rattle.metric_meaning.specs.Touched.{acts_below, is_touched}
use Rattle.metric_calls.specs.PulledValueCalls.{value_telling}
use Rattle.metric_calls.specs.PulledGaugeCalls.{gauge_telling}
use Rattle.metric_calls.specs.ValueCalls.{keyed_int}
use Rattle.client_engine.specs.CountsAlong.{WatchedLane, CountsAlong}
use Rattle.client_engine.specs.ValuesAlong.{ValueLane, ValuesAlong}
use Rattle.client_engine.specs.PulledValuesAlong.{PulledValueLane, PulledValuesAlong}
use Rattle.client_engine.specs.GaugesAlong.{GaugeLane, GaugesAlong}
use Rattle.client_engine.specs.PulledGaugesAlong.{PulledGaugeLane, PulledGaugesAlong}
use Rattle.client_engine.specs.EventsAlong.{EventLane, EventsAlong}
use Rattle.client_engine.specs.SumsAlong.{SumLane, SumsAlong}
use Rattle.client_engine.specs.LongestAlong.{LongestLane, LongestAlong}
use Rattle.client_engine.specs.Handed.{Handed}
use Rattle.client_engine.specs.NextSteps.{with_logged, TakesFrame}
use Rattle.known_conditions.specs.Known.{logged_step}
use Rattle.known_conditions.specs.Touchers.{all_touchers, one_holds, tells_one}
use Rattle.client_engine.specs.TrackStands.{LaneAlong, TrackStandsFor}
use Rattle.client_engine.specs.Waking.{told_touchers, wakers, told_slices, SleepsThrough}
use Rattle.known_conditions.specs.Touchers.{touchers_named}
use Rattle.client_engine.specs.Woken.{clock_of_lane, IsDue}
use Rattle.client_engine.specs.declared.lanes.MetricLane.{MetricLane}
use Rattle.client_engine.specs.declared.lanes.MetricLane.TheVariants.{Counts, Values, PulledValues, Gauges, PulledGauges, Events, Sums, Longest}
use Rattle.client_engine.specs.declared.track.Track.{Track}
use Rattle.client_engine.proofs.CountsLemmas.{counts_log}
use Rattle.client_engine.proofs.WatchesLemmas.{none_taken, ends_none}
use Rattle.client_engine.proofs.ValuesLemmas.{values_log}
use Rattle.client_engine.proofs.EventsLemmas.{events_log}
use Rattle.client_engine.proofs.GaugesLemmas.{gauges_log, none_sampled}
use Rattle.client_engine.proofs.PulledValuesLemmas.{pulled_values_log}
use Rattle.client_engine.proofs.PulledGaugesLemmas.{pulled_gauges_log}
use Rattle.client_engine.proofs.SnapshotsToldLemmas.{tick_told, atom_untold}
use Rattle.client_engine.proofs.SumsLemmas.{sums_pass, sums_untouched}
use Rattle.client_engine.proofs.LongestLemmas.{longest_pass, longest_untouched}
use Rattle.known_conditions.proofs.MarksLemmas.{get_or_any}
use Rattle.client_engine.proofs.ActivityLemmas.{acts_sleep}
use Rattle.known_conditions.proofs.TouchersLemmas.{found_hold, none_below, named_holds}
use Rattle.client_engine.proofs.WakersLemmas.{told_off, kind_off}

-- the matchers that touch what is named hold exactly where the atom acts below it
pub touchers_named_hold : (predicates : List LPredicate) (truths : List Bool) (root : Option ℕ)
    → one_holds truths (touchers_named predicates root) ≡ acts_below predicates truths root
touchers_named_hold predicates truths None = sym (none_below predicates truths)
touchers_named_hold predicates truths (Some root) =
    let lists = all_touchers predicates in
    found_there lists ∙ found_hold predicates root truths (slice_get lists root) refl where
      found_there : (lists : List (List ℕ))
          → one_holds truths (get_or lists root []) ≡ option_map_or (one_holds truths) (slice_get lists root) false
      found_there lists = elim (cases_lt root (length lists)) [
        | inl within ↦
            -- what is read there is what is found
            ap (λ found. option_map_or (one_holds truths) found false)
            (sym (slice_get_read lists (length lists) root (get_or lists root []) refl within
            (get_or_any lists root [] (get_or lists root []) within)))
        | inr past ↦
            ap (one_holds truths) (get_or_past lists root [] past)
            ∙ ap (λ found. option_map_or (one_holds truths) found false) (sym (slice_get_past lists root past))
      ]

-- where no matcher of a metric holds that gets atoms, none arrives
module _ (scene : Scene) (metric : LMetric) (truths : List Bool) where
  none_arrives : (shown : LogFrame)
      → ((at : ℕ) (atom : Atom) → shown ≡ AtomAt at atom → truth_at metric.what truths ≡ false)
      → None ≡ arriving_by scene metric (logged_step shown truths)
  none_arrives (Tick at) off = refl
  none_arrives (AtomAt at atom) off =
      ap (λ b. if b && (is_active_in scene metric at && holds_in scene metric (atom_reading atom))
      then Some atom else None)
      (sym (off at atom refl))
  none_arrives (Pull at id outcome) off = refl

-- nothing follows
or_false : (b : Bool) → (b || false) ≡ b
or_false true = refl
or_false false = refl

-- the only one isn't
pub alone : (first : Bool) → (first || false) ≡ false → first ≡ false
alone true off = absurd (true≢false off)
alone false off = refl

module _ (predicates : List LPredicate) (metric : LMetric) (truths : List Bool) where
  abbrev holds : ℕ → Bool
  holds matcher = truth_at matcher truths

  -- where none of the matchers holds that touch its condition or the predicate that it times, a duration isn't touched
  pub duration_untouched : one_holds truths
      (touchers_named predicates metric.condition ++ touchers_named predicates (Some metric.what)) ≡ false
      → (acts_below predicates truths metric.condition || acts_below predicates truths (Some metric.what)) ≡ false
  duration_untouched off =
      ap (λ b. b || acts_below predicates truths (Some metric.what))
      (sym (touchers_named_hold predicates truths metric.condition))
      ∙ ap (λ b. one_holds truths (touchers_named predicates metric.condition) || b)
      (sym (touchers_named_hold predicates truths (Some metric.what)))
      ∙ sym (list_any-append holds (touchers_named predicates metric.condition)
      (touchers_named predicates (Some metric.what)))
      ∙ off

  -- where neither what is counted holds nor a matcher that touches the condition, a pulled metric isn't touched
  pub pulled_untouched : one_holds truths (metric.what ∷ []) ≡ false
      → one_holds truths (touchers_named predicates metric.condition) ≡ false
      → (truth_at metric.what truths
      || (acts_below predicates truths metric.condition || acts_below predicates truths None))
      ≡ false
  pulled_untouched own off =
      let what = truth_at metric.what truths in
      ap (λ b. what || (acts_below predicates truths metric.condition || b)) (none_below predicates truths)
      ∙ ap (λ b. what || b) (or_false (acts_below predicates truths metric.condition)
      ∙ sym (touchers_named_hold predicates truths metric.condition) ∙ off)
      ∙ own

  -- nor where its trigger doesn't hold either
  pub gauge_untouched : (trigger : Option ℕ) → one_holds truths (metric.what ∷ place_named trigger) ≡ false
      → one_holds truths (touchers_named predicates metric.condition) ≡ false
      → ((truth_at metric.what truths || named_truth trigger truths)
      || (acts_below predicates truths metric.condition || acts_below predicates truths None)) ≡ false
  gauge_untouched trigger own off =
      let what = truth_at metric.what truths in
      let named = named_truth trigger truths in
      ap (λ b. (what || named) || (acts_below predicates truths metric.condition || b)) (none_below predicates truths)
      ∙ ap (λ b. (what || named) || b) (or_false (acts_below predicates truths metric.condition)
      ∙ sym (touchers_named_hold predicates truths metric.condition) ∙ off)
      ∙ or_false (what || named) ∙ ap (λ b. what || b) (sym (named_holds trigger truths)) ∙ own

-- A metric, what is handed to it with a frame that is shown so, and a time before which none of its buckets ends.
module _ (given : Handed) (metric : LMetric) (shown : LogFrame) (truths : List Bool) (time : ℕ)
    (early : log_time shown < time) (no_pull : (moment_of shown (log_time shown)).is_pull ≡ false)
    (sleeps : SleepsThrough given.known.predicates given.states shown truths metric) where
  -- its lane crosses nothing
  crosses_none : {P Params Event After X K C V : Type 0} (law : Law P Params Event After X K C (Row V))
      (lane : Lane P Event After V) → NoEndBefore time lane.clock
      → GetsFrame law lane lane (moment_of shown (log_time shown))
  crosses_none law lane later =
      frame_before_end law lane (moment_of shown (log_time shown)) time later early

  -- and gets no event
  logs_none : {P Params Event After X K C V : Type 0} (law : Law P Params Event After X K C (Row V))
      (lane : Lane P Event After V) → NoEndBefore time lane.clock
      → LogsEvent law lane lane (moment_of shown (log_time shown)) None
  logs_none law lane later =
      event_logs law lane lane lane (moment_of shown (log_time shown)) None (crosses_none law lane later)
      (λ params told calls has admitted. subst (LaneHas law lane params told) (sym (append-nil calls)) has)

  -- no matcher holds that wakes it
  asleep : (at : ℕ) (atom : Atom) → shown ≡ AtomAt at atom
      → (one_holds truths (wakers given.known.predicates metric) ≡ false)
      × (tells_one given.states atom.id (told_slices metric) ≡ false)
  asleep at atom is = subst (λ f. SleepsThrough given.known.predicates given.states f truths metric) is sleeps

  -- so nothing arrives at one that gets the atoms of its own matcher
  arrives_none : (scene : Scene) → kind_matchers metric.what metric.kind ≡ metric.what ∷ []
      → None ≡ arriving_by scene metric (logged_step shown truths)
  arrives_none scene own =
      none_arrives scene metric truths shown
      (λ at atom is. alone (truth_at metric.what truths)
      (sym (ap (one_holds truths) own) ∙ kind_off given.known.predicates metric truths (asleep at atom is).0))

  counts_sleep : (lane : WatchedLane) → NoEndBefore time lane.lane.clock
      → TakesFrame (CountsAlong metric) given shown truths lane lane
  counts_sleep lane later installed steps frame has =
      counts_log given metric shown truths lane lane lane.watches None
      (is_active_after metric (with_logged steps frame truths) (log_time frame))
      (λ scene found active. ap (option_map (atom_key scene metric)) (arrives_none scene
      (ap (kind_matchers metric.what) has.counts)))
      (logs_none count_law lane.lane later)
      (ends_none lane.lane.clock (moment_of shown (log_time shown)) time lane.watches later early)
      (none_taken lane.watches) installed steps frame refl has

  values_sleep : (lane : ValueLane) → NoEndBefore time lane.clock
      → TakesFrame (ValuesAlong metric) given shown truths lane lane
  values_sleep lane later installed steps frame has =
      values_log given metric shown truths lane lane None
      (is_active_after metric (with_logged steps frame truths) (log_time frame))
      (λ scene found active source aggregation kind.
      ap (λ atom. option_map keyed_int (option_and_then (keyed_integer scene metric source) atom))
      (arrives_none scene (ap (kind_matchers metric.what) kind)))
      (logs_none pushed_law lane later) installed steps frame refl has

  events_sleep : (lane : EventLane) → NoEndBefore time lane.clock
      → TakesFrame (EventsAlong metric) given shown truths lane lane
  events_sleep lane later installed steps frame has =
      events_log given metric shown truths lane lane None
      (is_active_after metric (with_logged steps frame truths) (log_time frame))
      (λ scene found active. arrives_none scene
      (ap (kind_matchers metric.what) has.events))
      (logs_none event_law lane later) installed steps frame refl has

  gauges_sleep : (lane : GaugeLane) → NoEndBefore time lane.clock
      → TakesFrame (GaugesAlong metric) given shown truths lane lane
  gauges_sleep lane later installed steps frame has =
      gauges_log given metric shown truths lane lane lane
      (is_active_after metric (with_logged steps frame truths) (log_time frame)) (crosses_none gauge_law lane later)
      (λ scene found active fields samples kind. none_sampled lane (log_time shown) scene metric fields
      (logged_step shown truths)
      (arrives_none scene (ap (kind_matchers metric.what) kind)))
      installed steps frame refl has

-- The kinds whose frames are told apart.
module _ (given : Handed) (metric : LMetric) (truths : List Bool) (time : ℕ) where
  pulled_values_sleep : (shown : LogFrame) → log_time shown < time → (moment_of shown (log_time shown)).is_pull ≡ false
      → SleepsThrough given.known.predicates given.states shown truths metric
      → (lane : PulledValueLane) → NoEndBefore time lane.clock
      → TakesFrame (PulledValuesAlong metric) given shown truths lane lane
  pulled_values_sleep (Tick at) early no_pull sleeps lane later =
      pulled_values_log given metric (Tick at) truths lane lane lane
      (crosses_none given metric (Tick at) truths time early no_pull sleeps pulled_values.pulled_law lane later)
      (λ scene found source spec values.
      tick_told pulled_values.pulled_law (value_telling metric source) given scene metric (Tick at) truths found lane at
      refl)
  pulled_values_sleep (AtomAt at atom) early no_pull sleeps lane later =
      pulled_values_log given metric (AtomAt at atom) truths lane lane lane
      (crosses_none given metric (AtomAt at atom) truths time early no_pull sleeps pulled_values.pulled_law lane later)
      (λ scene found source spec values.
      atom_untold pulled_values.pulled_law (value_telling metric source) given scene metric
      (AtomAt at atom) truths found
      lane at atom refl
      (ap (λ kind. is_touched given.known.predicates (record metric { kind = kind }) truths) values
      ∙ pulled_untouched given.known.predicates metric truths
      (sym (ap (λ kind. one_holds truths (kind_matchers metric.what kind)) values)
      ∙ kind_off given.known.predicates metric truths sleeps.0)
      (sym (ap (λ kind. one_holds truths (told_touchers given.known.predicates (record metric { kind = kind }))) values)
      ∙ told_off given.known.predicates metric truths sleeps.0)))
  pulled_values_sleep (Pull at id outcome) early no_pull sleeps lane later = absurd (true≢false no_pull)

  pulled_gauges_sleep : (shown : LogFrame) → log_time shown < time → (moment_of shown (log_time shown)).is_pull ≡ false
      → SleepsThrough given.known.predicates given.states shown truths metric
      → (lane : PulledGaugeLane) → NoEndBefore time lane.clock
      → TakesFrame (PulledGaugesAlong metric) given shown truths lane lane
  pulled_gauges_sleep (Tick at) early no_pull sleeps lane later =
      pulled_gauges_log given metric (Tick at) truths lane lane lane
      (crosses_none given metric (Tick at) truths time early no_pull sleeps pulled_gauges.pulled_law lane later)
      (λ scene found fields samples mode trigger gauge.
      tick_told pulled_gauges.pulled_law (gauge_telling metric fields trigger) given scene metric (Tick at) truths found
      lane at refl)
  pulled_gauges_sleep (AtomAt at atom) early no_pull sleeps lane later =
      pulled_gauges_log given metric (AtomAt at atom) truths lane lane lane
      (crosses_none given metric (AtomAt at atom) truths time early no_pull sleeps pulled_gauges.pulled_law lane later)
      (λ scene found fields samples mode trigger gauge.
      atom_untold pulled_gauges.pulled_law (gauge_telling metric fields trigger) given scene metric
      (AtomAt at atom) truths
      found lane at atom refl
      (ap (λ kind. is_touched given.known.predicates (record metric { kind = kind }) truths) gauge
      ∙ gauge_untouched given.known.predicates metric truths trigger
      (sym (ap (λ kind. one_holds truths (kind_matchers metric.what kind)) gauge)
      ∙ kind_off given.known.predicates metric truths sleeps.0)
      (sym (ap (λ kind. one_holds truths (told_touchers given.known.predicates (record metric { kind = kind }))) gauge)
      ∙ told_off given.known.predicates metric truths sleeps.0)))
  pulled_gauges_sleep (Pull at id outcome) early no_pull sleeps lane later = absurd (true≢false no_pull)

  sums_sleep : (shown : LogFrame) → log_time shown < time → (moment_of shown (log_time shown)).is_pull ≡ false
      → SleepsThrough given.known.predicates given.states shown truths metric
      → (lane : SumLane) → NoEndBefore time lane.clock
      → TakesFrame (SumsAlong metric) given shown truths lane lane
  sums_sleep (Tick at) early no_pull sleeps lane later =
      sums_pass given metric (Tick at) truths lane lane
      (crosses_none given metric (Tick at) truths time early no_pull sleeps sum_law lane later) tt
  sums_sleep (AtomAt at atom) early no_pull sleeps lane later = λ installed steps frame has.
      sums_untouched given metric (AtomAt at atom) truths lane lane
      (crosses_none given metric (AtomAt at atom) truths time early no_pull sleeps sum_law lane later) at atom refl
      (ap (λ kind. is_touched given.known.predicates (record metric { kind = kind }) truths) has.sums
      ∙ duration_untouched given.known.predicates metric truths
      (sym (ap (λ kind. one_holds truths (told_touchers given.known.predicates (record metric { kind = kind })))
      has.sums)
      ∙ told_off given.known.predicates metric truths sleeps.0))
      (sym (ap (λ kind. tells_one given.states atom.id (told_slices (record metric { kind = kind }))) has.sums)
      ∙ sleeps.1)
      installed steps frame has
  sums_sleep (Pull at id outcome) early no_pull sleeps lane later = absurd (true≢false no_pull)

  longest_sleep : (shown : LogFrame) → log_time shown < time → (moment_of shown (log_time shown)).is_pull ≡ false
      → SleepsThrough given.known.predicates given.states shown truths metric
      → (lane : LongestLane) → NoEndBefore time lane.clock
      → TakesFrame (LongestAlong metric) given shown truths lane lane
  longest_sleep (Tick at) early no_pull sleeps lane later =
      longest_pass given metric (Tick at) truths lane lane
      (crosses_none given metric (Tick at) truths time early no_pull sleeps sparse_law lane later) tt
  longest_sleep (AtomAt at atom) early no_pull sleeps lane later = λ installed steps frame has.
      longest_untouched given metric (AtomAt at atom) truths lane lane
      (crosses_none given metric (AtomAt at atom) truths time early no_pull sleeps sparse_law lane later) at atom refl
      (ap (λ kind. is_touched given.known.predicates (record metric { kind = kind }) truths) has.longest
      ∙ duration_untouched given.known.predicates metric truths
      (sym (ap (λ kind. one_holds truths (told_touchers given.known.predicates (record metric { kind = kind })))
      has.longest)
      ∙ told_off given.known.predicates metric truths sleeps.0))
      (sym (ap (λ kind. tells_one given.states atom.id (told_slices (record metric { kind = kind }))) has.longest)
      ∙ sleeps.1)
      installed steps frame has
  longest_sleep (Pull at id outcome) early no_pull sleeps lane later = absurd (true≢false no_pull)

-- the lane of a metric of any kind that sleeps through a frame is as it was
lane_sleeps : (given : Handed) (shown : LogFrame) (truths : List Bool) (time : ℕ) → log_time shown < time
    → (moment_of shown (log_time shown)).is_pull ≡ false → (metric : LMetric)
    → SleepsThrough given.known.predicates given.states shown truths metric → (lane : MetricLane)
    → NoEndBefore time (clock_of_lane lane) → TakesFrame (LaneAlong metric) given shown truths lane lane
lane_sleeps given shown truths time early no_pull metric sleeps (Counts lane) later =
    counts_sleep given metric shown truths time early no_pull sleeps lane later
lane_sleeps given shown truths time early no_pull metric sleeps (Values lane) later =
    values_sleep given metric shown truths time early no_pull sleeps lane later
lane_sleeps given shown truths time early no_pull metric sleeps (PulledValues lane) later =
    pulled_values_sleep given metric truths time shown early no_pull sleeps lane later
lane_sleeps given shown truths time early no_pull metric sleeps (Gauges lane) later =
    gauges_sleep given metric shown truths time early no_pull sleeps lane later
lane_sleeps given shown truths time early no_pull metric sleeps (PulledGauges lane) later =
    pulled_gauges_sleep given metric truths time shown early no_pull sleeps lane later
lane_sleeps given shown truths time early no_pull metric sleeps (Events lane) later =
    events_sleep given metric shown truths time early no_pull sleeps lane later
lane_sleeps given shown truths time early no_pull metric sleeps (Sums lane) later =
    sums_sleep given metric truths time shown early no_pull sleeps lane later
lane_sleeps given shown truths time early no_pull metric sleeps (Longest lane) later =
    longest_sleep given metric truths time shown early no_pull sleeps lane later

-- and so is the metric with its book
pub track_sleeps : (given : Handed) (shown : LogFrame) (truths : List Bool) (time : ℕ) → log_time shown < time
    → (moment_of shown (log_time shown)).is_pull ≡ false → (track : Track)
    → SleepsThrough given.known.predicates given.states shown truths track.metric → IsDue time track
    → TakesFrame TrackStandsFor given shown truths track track
track_sleeps given shown truths time early no_pull track sleeps due installed steps frame has may = record {
  lane = lane_sleeps given shown truths time early no_pull track.metric sleeps track.lane due installed steps frame
      has.lane may;
  acts = acts_sleep given.known.predicates given.states track.metric shown truths sleeps (log_after installed steps)
      steps frame may.shown_is track.acts has.acts;
}
