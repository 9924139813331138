-- The lane of a metric of longest durations, one step more.
use Rattle.std.proofs.Common.{◌≡◌, ℕ, ◌+◌, ◌≤◌, ◌<◌, Bool, true, false, ◌||◌, if◌then◌else◌, List, [], ◌∷◌, slice_get, Option, Some, None, refl, sym, ap, subst, ◌∙◌}
use Rattle.std.specs.Prelude.{is_some}
use Rattle.atom_record.specs.declared.atom.Atom.{Atom}
use Rattle.atom_record.specs.declared.log.LogFrame.{LogFrame}
use Rattle.atom_record.specs.declared.log.LogFrame.TheVariants.{AtomAt}
use Rattle.bucket_meaning.specs.Limits.{time_limit}
use Rattle.config_types.specs.declared.parameters.PredSpec.{PredSpec}
use Rattle.config_links.specs.declared.linked.LMetric.{LMetric}
use Rattle.config_links.specs.declared.linked.LKind.TheVariants as kinds
use Rattle.config_links.specs.SoundConfig.{IsSoundKind}
use Rattle.metric_producer.specs.declared.row.Row.{Row}
use Rattle.bucket_meaning.specs.Kept.{Taken}
use Rattle.metric_producer.specs.LaneCalls.{coming}
use Rattle.duration_metric.specs.declared.change.InnerEvent.{InnerEvent}
use Rattle.duration_metric.specs.declared.change.InnerChange.{InnerChange}
use Rattle.duration_metric.specs.SparseStands.{sparse_law}
use Rattle.report_writer.specs.declared.tree.MetricTree.{MetricTree}
use Rattle.session_frames.specs.FrameReading.{log_time}
use Rattle.metric_lane.specs.LaneStands.{LaneHas, GetsFrame, GetsCalls, GetsReport}
use Rattle.metric_meaning.specs.Histories.{Installation, moment_of}
use Rattle.metric_meaning.specs.Reports.{metric_tree}
use Rattle.metric_meaning.specs.Touched.{acts_below, timed_predicate, is_touched}
use Rattle.metric_meaning.specs.DurationSteps.{longest_way}
use Rattle.metric_calls.specs.DurationCalls.{event_in, delta_with, learning, duration_params, longest_asking}
use Rattle.metric_calls.proofs.InnerToldLemmas.{crossed_tell}
use Rattle.metric_calls.proofs.LongestCallsLemmas.{longest_ask_well, longest_means}
use Rattle.client_engine.proofs.AlongLemmas.{along_begins, along_reports_by}
use Rattle.client_engine.proofs.InTimeLemmas.{dont_go_back}
use Rattle.client_engine.specs.AskedFew.{AsksOfAll, AsksFew}
use Rattle.client_engine.specs.Bringing.{handed_with}
use Rattle.client_engine.specs.DurationsShown.{durations_shown_by}
use Rattle.client_engine.specs.Handed.{Handed}
use Rattle.known_conditions.specs.Known.{Known}
use Rattle.client_engine.specs.Questions.{duration_questions, touched_questions, questions_of}
use Rattle.client_engine.specs.Staying.{stays_by}
use Rattle.known_conditions.specs.Touchers.{tells_one}
use Rattle.client_engine.specs.NextSteps.{TakesFrame, TakesReport}
use Rattle.client_engine.specs.SoundMetrics.{IsSoundIn}
use Rattle.client_engine.specs.LongestAlong.{LongestLane, LongestAlong}
use Rattle.client_engine.specs.declared.brought.Brought.{Brought}
use Rattle.client_engine.specs.declared.request.ReportRequest.{ReportRequest}
use Rattle.client_engine.specs.declared.stays.Before.{Before}
use Rattle.client_engine.specs.declared.stays.Stays.{Stays}
use Rattle.client_engine.proofs.InnerQuestionsLemmas.{atom_few}
use Rattle.client_engine.proofs.QuestionsLemmas.{one_questions}
use Rattle.client_engine.proofs.InnerLemmas.{IsFoundAt, IsOther, timed_well, no_calls, inner_takes, others_pass, untouched_pass, atom_comes}

-- a new lane has seen no step of what was installed at this clock, where the metric is sound
pub longest_begin : (metric : LMetric) (spec : PredSpec) (installed : Installation) (base : ℕ) (lane : LongestLane)
    → installed.base ≡ base → IsSoundIn installed.linked metric → metric.kind ≡ kinds.MaxSparse spec → base < time_limit
    → LaneHas sparse_law lane (duration_params base metric spec) [] [] → LongestAlong metric installed [] lane
longest_begin metric spec installed base lane base_is sound is fits has =
    let kind = subst (IsSoundKind installed.linked metric) is sound.sound.kind in
    record {
      spec = spec;
      longest = is;
      timed = timed_well installed metric spec sound kind.1;
      along = along_begins (longest_asking installed metric spec) sparse_law lane
          (subst (λ b. b < time_limit) (sym base_is) fits)
          (subst (λ b. LaneHas sparse_law lane (duration_params b metric spec) [] []) (sym base_is) has);
    }

module _ (given : Handed) (metric : LMetric) (shown : LogFrame) (truths : List Bool)
    (old crossed : LongestLane) (crosses : GetsFrame sparse_law old crossed (moment_of shown (log_time shown))) where
  -- a frame that isn't an atom brings nothing
  pub longest_pass : IsOther shown → TakesFrame (LongestAlong metric) given shown truths old crossed
  longest_pass other installed steps frame has may =
      let way = longest_way installed metric has.spec in
      let well = longest_ask_well installed metric has.spec has.timed in
      let tell = crossed_tell installed metric has.spec in
      record {
        spec = has.spec;
        longest = has.longest;
        timed = has.timed;
        along = inner_takes sparse_law metric has.spec installed way well refl tell has.timed shown
            frame truths given old
            crossed crossed crossed None None steps crosses (no_calls sparse_law crossed) (no_calls sparse_law crossed)
            (others_pass sparse_law metric has.spec installed way well refl tell has.timed steps
            shown frame truths given
            crossed.producer other may) may has.along;
      }

  -- nor does an atom that neither touches the metric nor tells a state by which it is sliced
  pub longest_untouched : (at : ℕ) (atom : Atom) → shown ≡ AtomAt at atom
      → is_touched given.known.predicates metric truths ≡ false → tells_one given.states atom.id metric.slices ≡ false
      → TakesFrame (LongestAlong metric) given shown truths old crossed
  longest_untouched at atom is untouched untold installed steps frame has may =
      let way = longest_way installed metric has.spec in
      let well = longest_ask_well installed metric has.spec has.timed in
      let tell = crossed_tell installed metric has.spec in
      let times : timed_predicate metric ≡ Some metric.what =
      ap (λ kind. timed_predicate (record metric { kind = kind })) has.longest in
      record {
        spec = has.spec;
        longest = has.longest;
        timed = has.timed;
        along = inner_takes sparse_law metric has.spec installed way well refl tell has.timed shown
            frame truths given old
            crossed crossed crossed None None steps crosses (no_calls sparse_law crossed) (no_calls sparse_law crossed)
            (untouched_pass sparse_law metric has.spec installed way well refl tell has.timed steps
            shown frame truths given
            crossed.producer at atom is times untouched untold may) may has.along;
      }

  -- an atom brings its event, and then what changed
  pub longest_turn : (at : ℕ) (atom : Atom) → shown ≡ AtomAt at atom
      → (middle new : LongestLane) (event : Option InnerEvent)
      (was : Before) (stays : Stays) (changes : List InnerChange)
      → GetsCalls sparse_law crossed middle (coming (log_time shown) event)
      → GetsCalls sparse_law middle new (learning (log_time shown) (delta_with (is_some event) changes))
      → event ≡ event_in (slice_get given.known.predicates metric.what) truths atom
      → IsFoundAt sparse_law metric given truths atom crossed.producer middle.producer was stays changes
      → TakesFrame (LongestAlong metric) given shown truths old new
  longest_turn at atom is middle new event was stays changes acts learns event_there found
      installed steps frame has may =
      let way = longest_way installed metric has.spec in
      let well = longest_ask_well installed metric has.spec has.timed in
      let tell = crossed_tell installed metric has.spec in
      record {
        spec = has.spec;
        longest = has.longest;
        timed = has.timed;
        along = inner_takes sparse_law metric has.spec installed way well refl tell has.timed shown
            frame truths given old
            crossed middle new event (delta_with (is_some event) changes) steps crosses acts learns
            (atom_comes sparse_law metric has.spec installed way well refl tell has.timed steps shown frame truths given
            crossed.producer middle.producer event was stays changes at atom is event_there found may) may has.along;
      }

-- an atom that touches the metric or tells a state by which it is sliced costs no more than its questions
pub longest_few : (metric : LMetric) (conditions : Known) (brought : Brought) (old crossed middle : LongestLane)
    (event : Option InnerEvent) (was : Before) (stays : Stays) (before after at : ℕ) (atom : Atom)
    → brought.frame.now ≡ AtomAt at atom
    → GetsFrame sparse_law old crossed (moment_of brought.frame.now (log_time brought.frame.now))
    → GetsCalls sparse_law crossed middle (coming (log_time brought.frame.now) event)
    → event ≡ event_in (slice_get conditions.predicates metric.what) brought.matched.now atom
    → stays ≡ stays_by (acts_below conditions.predicates brought.matched.now metric.condition)
    (tells_one brought.states.now atom.id metric.slices) was
    → (is_touched conditions.predicates metric brought.matched.now
    || tells_one brought.states.now atom.id metric.slices) ≡ true
    → AsksOfAll sparse_law.stands middle.producer stays before after
    → AsksFew (LongestAlong metric) (metric ∷ []) conditions brought old before after
longest_few metric conditions brought old crossed middle event was stays before after at atom
    is crosses acts event_is
    stays_are changes asks installed steps frame has may =
    let truths = brought.matched.now in
    let few = atom_few sparse_law metric has.spec installed (longest_way installed metric has.spec)
    (longest_ask_well installed metric has.spec has.timed) refl (crossed_tell installed metric has.spec)
    (ap (λ kind. timed_predicate (record metric { kind = kind })) has.longest) brought.frame.now frame truths
    (handed_with conditions brought) old crossed middle event steps was stays before after at atom is crosses acts
    event_is stays_are changes asks may has.along in
    let many : touched_questions installed steps metric ≡ duration_questions installed steps metric has.spec =
    ap (λ kind. touched_questions installed steps (record metric { kind = kind })) has.longest in
    subst (λ f. after ≤ before + questions_of (metric ∷ []) installed steps f truths) (sym is)
    (subst (λ n. after ≤ before + n) (sym (one_questions installed steps at atom truths metric))
    (subst (λ (n : ℕ). after ≤ before
    + (if is_touched installed.linked.predicates metric truths then n else 0)) (sym many) few))

-- what a lane hands out is what a report shows of the metric
pub longest_report : (metric : LMetric) (base : ℕ) (request : ReportRequest) (old new : LongestLane)
    (closed : Taken (Row ℕ))
    → GetsReport sparse_law old new request.at request.include_current closed
    → (tree : MetricTree) → tree ≡ durations_shown_by base metric closed
    → TakesReport (LongestAlong metric) metric base request old new tree
longest_report metric base request old new closed reports tree is installed steps has may =
    let both = along_reports_by (longest_asking installed metric has.spec) sparse_law
    (longest_ask_well installed metric has.spec has.timed) steps request old new closed
    (longest_means installed metric has.spec has.timed steps request.include_current request.at
    (dont_go_back installed.base steps request may.in_time)) reports has.along may.in_time in (
      record { spec = has.spec; longest = has.longest; timed = has.timed; along = both.0 },
      is ∙ ap (λ b. durations_shown_by b metric closed) (sym may.base_is)
          ∙ ap (durations_shown_by installed.base metric) both.1
          ∙ ap (λ kind. metric_tree installed steps request.include_current request.at (record metric { kind = kind }))
          (sym has.longest),
    )
