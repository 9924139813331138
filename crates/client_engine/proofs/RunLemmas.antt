-- A lane that collects for its metric takes a run of steps at which the metric asks nothing, for every kind of metric.
use Rattle.std.proofs.Common.{◌≡◌, ℕ, ◌≤◌, ◌<◌, Bool, List, [], ◌∷◌, ◌++◌, refl, sym, ap, subst, ◌∙◌}
use Rattle.sd_base.specs.Outputs.{outputs_after}
use Rattle.sd_base.proofs.OutputsLemmas.{outputs_after-append}
use Rattle.bucket_clock.specs.Clock.{moments_told}
use Rattle.bucket_meaning.specs.Ends.{Moment}
use Rattle.bucket_meaning.specs.Limits.{time_limit}
use Rattle.metric_producer.specs.Calls.{standing_of}
use Rattle.metric_producer.specs.OpeningCalls.{calls_with}
use Rattle.metric_producer.proofs.OpeningLemmas.{all_along_opened}
use Rattle.metric_producer.specs.Collecting.{Law}
use Rattle.metric_producer.specs.LaneCalls.{LaneStep, told_by, AreTimely, last_at, last_of}
use Rattle.metric_producer.specs.LaneCalls as lane
use Rattle.metric_producer.specs.declared.row.Row.{Row}
use Rattle.metric_lane.specs.LaneJoining.{StandsForRun, steps_of_run, moments_of, AskNone, LogsRun}
use Rattle.metric_lane.specs.LaneClock.{MayCross}
use Rattle.metric_lane.specs.LaneStands.{OpenedStandsFor}
use Rattle.metric_lane.proofs.LaneStepsLemmas.{may_cross}
use Rattle.metric_lane.specs.declared.lane.Lane.{Lane}
use Rattle.metric_meaning.specs.Histories.{What, Logged, Reported, Step, Installation, moment_of, moments_at}
use Rattle.metric_meaning.specs.StepMarks.{moments}
use Rattle.metric_calls.specs.Askings.{Asking, own_demands, steps_seen, AsksWell}
use Rattle.metric_calls.specs.LaneSteps.{lane_step}
use Rattle.metric_calls.proofs.AskingsLemmas.{asks_well}
use Rattle.metric_calls.proofs.StepLemmas.{lane_step_after, told_by-steps}
use Rattle.config_links.specs.declared.linked.LMetric.{LMetric}
use Rattle.client_engine.specs.Along.{Along}
use Rattle.client_engine.specs.CaughtUp.{LeavesAlone, AllLeaveAlone, MayCatchUp}
use Rattle.client_engine.specs.NextSteps.{bare_step, ComeInTime, last_from}
use Rattle.client_engine.proofs.AlongLemmas.{timely_from, steps-push}

module _ {Params News Event After X K C R : Type 0} (asking : Asking Params News Event After X K C R) where
  -- a step is a frame of the log at which nothing is asked
  abbrev pub AsksNothing : List Step → Step → Type 0
  AsksNothing before step = of_what step.what where
    of_what : What → Type 0
    of_what (Logged frame) =
        asking.asks (steps_seen asking before) (moment_of frame step.at) (asking.news before step) ≡ []
    of_what (Reported include_current) = ⊥

  -- so is each of these
  abbrev pub AllAskNothing : List Step → List Step → Type 0
  AllAskNothing before [] = Unit {0}
  AllAskNothing before (step ∷ run) = AsksNothing before step × AllAskNothing (before ++ step ∷ []) run

  -- what a step is for a lane, if it is a frame
  abbrev frame_seen : List Step → Step → List (Moment × News)
  frame_seen before step = of_what step.what where
    of_what : What → List (Moment × News)
    of_what (Logged frame) = (moment_of frame step.at, asking.news before step) ∷ []
    of_what (Reported include_current) = []

  -- what steps after others are
  abbrev run_seen : List Step → List Step → List (Moment × News)
  run_seen before run = outputs_after frame_seen before run

  -- one step more before others
  one_seen : (before : List Step) (at : ℕ) (what : What) (truths : List Bool) (others : List (LaneStep News))
      (more : List (Moment × News)) → let step : Step = record { at = at; what = what; truths = truths } in
      AsksNothing before step → others ≡ steps_of_run more
      → lane_step (asking.news before) step ∷ others ≡ steps_of_run (frame_seen before step ++ more)
  one_seen before at (Logged frame) truths others more none is =
      let step : Step = record { at = at; what = Logged frame; truths = truths } in
      let first : LaneStep News = lane.Logged (moment_of frame at) (asking.news before step) in
      ap (λ l. first ∷ l) is
  one_seen before at (Reported include_current) truths others more none is = absurd none

  -- a lane sees a run as steps of frames alone
  seen_run : (before run : List Step) → AllAskNothing before run
      → outputs_after (lane_step_after asking.news) before run ≡ steps_of_run (run_seen before run)
  seen_run before [] none = refl
  seen_run before (step ∷ run) none =
      one_seen before step.at step.what step.truths
      (outputs_after (lane_step_after asking.news) (before ++ step ∷ []) run)
      (run_seen (before ++ step ∷ []) run) none.0
      (seen_run (before ++ step ∷ []) run none.1)

  -- so it sees it after other steps
  seen_after : (steps run : List Step) → AllAskNothing steps run
      → steps_seen asking (steps ++ run) ≡ steps_seen asking steps ++ steps_of_run (run_seen steps run)
  seen_after steps run none =
      outputs_after-append (lane_step_after asking.news) [] steps run
      ∙ ap (λ l. steps_seen asking steps ++ l) (seen_run steps run none)

  -- its frames are those of the steps
  one_moment : (before : List Step) (at : ℕ) (what : What) (truths : List Bool) (more : List (Moment × News))
      (rest : List Moment) → let step : Step = record { at = at; what = what; truths = truths } in
      moments_of more ≡ rest → moments_of (frame_seen before step ++ more) ≡ moments_at what at ++ rest
  one_moment before at (Logged frame) truths more rest is = ap (λ l. moment_of frame at ∷ l) is
  one_moment before at (Reported include_current) truths more rest is = is

  moments_seen : (before run : List Step) → moments_of (run_seen before run) ≡ moments run
  moments_seen before [] = refl
  moments_seen before (step ∷ run) =
      one_moment before step.at step.what step.truths (run_seen (before ++ step ∷ []) run) (moments run)
      (moments_seen (before ++ step ∷ []) run)

  -- nothing is asked at a first frame, nor at others
  one_none : (before : List Step) (at : ℕ) (what : What) (truths : List Bool) (more : List (Moment × News))
      → let step : Step = record { at = at; what = what; truths = truths } in
      AsksNothing before step → AskNone asking.asks (steps_seen asking (before ++ step ∷ [])) more
      → AskNone asking.asks (steps_seen asking before) (frame_seen before step ++ more)
  one_none before at (Logged frame) truths more none rest =
      let step : Step = record { at = at; what = Logged frame; truths = truths } in (
        none,
        subst (λ l. AskNone asking.asks l more) (steps-push asking.news before step) rest,
      )
  one_none before at (Reported include_current) truths more none rest = absurd none

  none_asked : (before run : List Step) → AllAskNothing before run
      → AskNone asking.asks (steps_seen asking before) (run_seen before run)
  none_asked before [] none = tt
  none_asked before (step ∷ run) none =
      one_none before step.at step.what step.truths (run_seen (before ++ step ∷ []) run) none.0
      (none_asked (before ++ step ∷ []) run none.1)

  -- the last frame is the steps' last
  one_last : (before : List Step) (last at : ℕ) (what : What) (truths : List Bool)
      → let step : Step = record { at = at; what = what; truths = truths } in
      last_at last (lane_step (asking.news before) step) ≡ last_at last (bare_step step)
  one_last before last at (Logged frame) truths = refl
  one_last before last at (Reported include_current) truths = refl

  last_seen : (last : ℕ) (before steps : List Step)
      → last_of last (outputs_after (lane_step_after asking.news) before steps) ≡ last_from last steps
  last_seen last before [] = refl
  last_seen last before (step ∷ steps) =
      ap (λ time. last_of time (outputs_after (lane_step_after asking.news) (before ++ step ∷ []) steps))
      (one_last before last step.at step.what step.truths)
      ∙ last_seen (last_at last (bare_step step)) (before ++ step ∷ []) steps

  -- a run that leaves a metric alone asks nothing, where no step does that leaves it alone
  pub nothing_asked : (installed : Installation) (metric : LMetric)
      → ((before : List Step) (step : Step) → LeavesAlone installed.linked metric step → AsksNothing before step)
      → (before run : List Step) → AllLeaveAlone installed.linked run metric → AllAskNothing before run
  nothing_asked installed metric each before [] alone = tt
  nothing_asked installed metric each before (step ∷ run) alone = (
    each before step alone.0,
    nothing_asked installed metric each (before ++ step ∷ []) run alone.1,
  )

module _ {P Params News Event After X K C V : Type 0} (asking : Asking Params News Event After X K C (Row V))
    (law : Law P Params Event After X K C (Row V)) (well : AsksWell asking law.collecting) where
  -- a frame that isn't before the last one may cross
  pub along_may_cross : (steps : List Step) (lane : Lane P Event After V) (at : ℕ) → Along asking law steps lane
      → ComeInTime (own_demands asking law.collecting).base steps
      → last_from (own_demands asking law.collecting).base steps ≤ at → at < time_limit → MayCross lane.clock at
  along_may_cross steps lane at along in_time later fits =
      let demands = own_demands asking law.collecting in
      let seen = steps_seen asking steps in
      may_cross demands seen (last_of demands.base seen)
      (standing_of demands (calls_with demands asking.asks asking.opens seen))
      (all_along_opened demands along.fits asking.opens well.opens asking.asks seen
      (timely_from asking.news demands.base steps in_time) (asks_well asking law.collecting well steps))
      lane.clock at along.collects.clock
      (subst (λ time. time ≤ at) (sym (last_seen asking demands.base [] steps)) later)
      fits

module _ {P Params News Event After X K C V : Type 0} (asking : Asking Params News Event After X K C (Row V))
    (law : Law P Params Event After X K C (Row V)) (well : AsksWell asking law.collecting) (installed : Installation)
    (base_is : (own_demands asking law.collecting).base ≡ installed.base) where
  -- a lane takes a run at which its metric asks nothing, by the frame that stands for it
  pub along_run : (steps run : List Step) (old new : Lane P Event After V) (moment : Moment)
      → LogsRun law asking.asks old new moment → AllAskNothing asking steps run
      → MayCatchUp installed steps run moment → Along asking law steps old → Along asking law (steps ++ run) new
  along_run steps run old new moment logs none may along =
      let base = (own_demands asking law.collecting).base in
      let seen = steps_seen asking steps in
      let frames = run_seen asking steps run in
      let all : steps_seen asking (steps ++ run) ≡ seen ++ steps_of_run frames = seen_after asking steps run none in
      let in_time = subst (λ b. ComeInTime b (steps ++ run)) (sym base_is) may.in_time in
      record {
        fits = along.fits;
        collects = subst (OpenedStandsFor law asking.asks asking.opens new asking.params) (sym all)
            (logs asking.params asking.opens seen frames well.opens along.collects
            (subst (λ b. StandsForRun b (moments_told (told_by seen)) (moments_of frames) moment) (sym base_is)
            (subst (λ came. StandsForRun installed.base came (moments_of frames) moment)
            (sym (told_by-steps asking.news steps))
            (subst (λ came. StandsForRun installed.base (moments steps) came moment)
            (sym (moments_seen asking steps run)) may.stands)))
            (subst (λ time. time ≤ moment.at) (sym (last_seen asking base [] steps))
            (subst (λ b. last_from b steps ≤ moment.at) (sym base_is) may.not_before))
            may.fits (none_asked asking steps run none) along.fits
            (subst (AreTimely base) all (timely_from asking.news base (steps ++ run) in_time))
            (asks_well asking law.collecting well steps));
      }
