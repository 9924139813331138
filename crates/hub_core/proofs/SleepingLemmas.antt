-- What sleeps, wakes up and falls asleep again, from frame to frame.
use Rattle.std.proofs.Common.{◌≡◌, ℕ, ◌<◌, ◌≤◌, Bool, true, false, ◌||◌, not, nat_lt, if◌then◌else◌, List, [], ◌∷◌, ◌++◌, refl, sym, ap, subst, ◌∙◌, append_assoc, append-nil, arith}
use Rattle.std.proofs.lemmas.Bool.{or_parts}
use Rattle.std.proofs.lemmas.Bool.Decides.{nat_tests}
use Rattle.std.proofs.lemmas.List.Concat.{flat_map-append}
use Rattle.atom_record.specs.declared.atom.Atom.{Atom}
use Rattle.atom_record.specs.declared.log.LogFrame.{LogFrame}
use Rattle.atom_record.specs.declared.log.LogFrame.TheVariants.{Tick, AtomAt, Pull}
use Rattle.bucket_meaning.specs.Ends.{Moment}
use Rattle.bucket_meaning.specs.Limits.{time_limit}
use Rattle.config_types.specs.declared.matcher.SimpleMatcher.{SimpleMatcher}
use Rattle.config_links.specs.declared.linked.Linked.{Linked}
use Rattle.heard_ids.specs.Hearing.{is_heard, hears_all}
use Rattle.heard_ids.proofs.HearingLaws.{unheard_holds_nothing}
use Rattle.session_frames.specs.FrameReading.{log_time}
use Rattle.metric_lane.specs.LaneJoining.{StandsForRun, with_frame}
use Rattle.metric_lane.proofs.CoversLemmas.{stands_for_none, stands_caught, stands_pushed, stands_seen}
use Rattle.metric_meaning.specs.Histories.{Step, History, with_step, with_steps, moment_of, moments_at}
use Rattle.metric_meaning.specs.ShownFrames.{shown_as}
use Rattle.metric_meaning.specs.StepMarks.{moments}
use Rattle.metric_producer.specs.LaneCalls.{last_at}
use Rattle.hub_meaning.specs.LiveConfigs.{truths_at}
use Rattle.client_engine.specs.Asleep.{IsUntouching, AreUntouching, IsCaughtUp}
use Rattle.client_engine.specs.InstanceStands.{Running, InstanceStandsFor, last_step_time, new_history}
use Rattle.client_engine.specs.NextSteps.{bare_step, ComeInTime, last_from, reported_step}
use Rattle.known_conditions.specs.Known.{logged_step}
use Rattle.client_engine.specs.declared.request.ReportRequest.{ReportRequest}
use Rattle.client_engine.proofs.LastStepLemmas.{in_time-push, last_time_grows}
use Rattle.hub_core.specs.Sleeping.{hears, StandsAsleep, WakesUp}

-- the time of the last frame, with one more
pub last_from-logged : (time : ℕ) (steps : List Step) (frame : LogFrame) (truths : List Bool)
    → last_from time (steps ++ logged_step frame truths ∷ []) ≡ log_time frame
last_from-logged time [] frame truths = refl
last_from-logged time (first ∷ steps) frame truths =
    last_from-logged (last_at time (bare_step first)) steps frame truths

-- a report is none
pub last_from-reported : (time : ℕ) (steps : List Step) (request : ReportRequest)
    → last_from time (steps ++ reported_step request ∷ []) ≡ last_from time steps
last_from-reported time [] request = refl
last_from-reported time (first ∷ steps) request =
    last_from-reported (last_at time (bare_step first)) steps request

-- the last frame's time, with one that doesn't come before it
pub pushed_at : (moment next : Moment) → moment.at ≤ next.at → (with_frame moment next).at ≡ next.at
pushed_at moment next later = by_case (nat_lt moment.at next.at || not next.is_pull) refl where
  by_case : (b : Bool) → (nat_lt moment.at next.at || not next.is_pull) ≡ b
      → (if b then next else moment).at ≡ next.at
  by_case true is = refl
  by_case false is =
      let not_after : nat_lt moment.at next.at ≡ false =
      (or_parts (nat_lt moment.at next.at) (not next.is_pull) is).0 in
      let no_sooner : next.at ≤ moment.at = grind (arith, nat_tests) in
      omega (arith, later, no_sooner)

-- the moments of some steps and of more
moments-append : (steps more : List Step) → moments (steps ++ more) ≡ moments steps ++ moments more
moments-append steps more = flat_map-append (λ (step : Step). moments_at step.what step.at) steps more

-- all of some steps and one more
untouching-push : (linked : Linked) (steps : List Step) (step : Step) → AreUntouching linked steps
    → IsUntouching linked step → AreUntouching linked (steps ++ step ∷ [])
untouching-push linked [] step all here = (here, tt)
untouching-push linked (first ∷ steps) step all here = (all.0, untouching-push linked steps step all.1 here)

-- what is caught up by the last frame wakes up
pub wakes : (old : Running) (moment : Moment) (new : Running) → moment.at < time_limit → IsCaughtUp old moment new
    → WakesUp moment old new
wakes old moment new fits caught history asleep =
    let woken : History = record history { steps = asleep.woken } in
    let base = history.installed.base in
    let all : ComeInTime base (asleep.woken ++ asleep.slept) = subst (ComeInTime base) asleep.steps asleep.in_time in
    let early : last_step_time woken ≤ last_step_time (with_steps woken asleep.slept) =
    last_time_grows woken asleep.slept all in
    let last : last_step_time (with_steps woken asleep.slept) ≡ moment.at =
    ap (last_from base) (sym asleep.steps) ∙ asleep.time in
    let in_time : last_step_time woken ≤ moment.at = omega (arith, early, last) in
    subst (λ (steps : List Step). InstanceStandsFor new (record history { steps = steps })) (sym asleep.steps)
    (caught woken asleep.slept asleep.stands asleep.untouching all asleep.run in_time fits)

-- what was just installed sleeps by the last frame, which came before it
pub asleep_fresh : (moment : Moment) (it : Running) (opening : List LogFrame) (linked : Linked)
    → InstanceStandsFor it (new_history moment.at opening linked)
    → StandsAsleep moment it (new_history moment.at opening linked)
asleep_fresh moment it opening linked fresh = record {
  woken = [];
  slept = [];
  steps = refl;
  stands = fresh;
  untouching = tt;
  in_time = tt;
  run = stands_for_none moment.at moment (omega arith);
  time = refl;
}

module _ (moment : Moment) (old : Running) (history : History) (asleep : StandsAsleep moment old history) where
  abbrev base : ℕ
  base = history.installed.base

  -- once all its steps have come, the last frame stands for none
  all_came : StandsForRun base (moments history.steps) [] moment
  all_came =
      subst (λ (l : List Moment). StandsForRun base l [] moment)
      (sym (moments-append asleep.woken asleep.slept) ∙ ap moments (sym asleep.steps))
      (stands_caught base (moments asleep.woken) (moments asleep.slept) moment asleep.run)

  -- what was awake for a report falls asleep
  pub asleep_reported : (new : Running) (request : ReportRequest)
      → InstanceStandsFor new (with_step history (reported_step request))
      → StandsAsleep moment new (with_step history (reported_step request))
  asleep_reported new request stands = record {
    woken = history.steps ++ reported_step request ∷ [];
    slept = [];
    steps = sym (append-nil (history.steps ++ reported_step request ∷ []));
    stands = stands;
    untouching = tt;
    in_time = stands.in_time;
    run = subst (λ (l : List Moment). StandsForRun base l [] moment)
        (sym (moments-append history.steps (reported_step request ∷ []) ∙ append-nil (moments history.steps))) all_came;
    time = last_from-reported base history.steps request ∙ asleep.time;
  }

  -- what was caught up falls asleep as it is
  pub asleep_awake : (new : Running) → InstanceStandsFor new history → StandsAsleep moment new history
  asleep_awake new stands = record {
    woken = history.steps;
    slept = [];
    steps = sym (append-nil history.steps);
    stands = stands;
    untouching = tt;
    in_time = asleep.in_time;
    run = all_came;
    time = asleep.time;
  }

  module _ (frame : LogFrame) (truths : List Bool) (in_time : moment.at ≤ log_time frame) where
    -- the frame as ends of buckets see it
    abbrev next : Moment
    next = moment_of frame (log_time frame)

    -- the step that it is
    abbrev step : Step
    step = logged_step frame truths

    later : last_step_time (with_step history step) ≡ (with_frame moment next).at
    later = last_from-logged base history.steps frame truths ∙ sym (pushed_at moment next in_time)

    -- what was awake for a frame falls asleep
    pub asleep_logged : (new : Running) → InstanceStandsFor new (with_step history step)
        → StandsAsleep (with_frame moment next) new (with_step history step)
    asleep_logged new stands = record {
      woken = history.steps ++ step ∷ [];
      slept = [];
      steps = sym (append-nil (history.steps ++ step ∷ []));
      stands = stands;
      untouching = tt;
      in_time = stands.in_time;
      run = subst (λ (l : List Moment). StandsForRun base l [] (with_frame moment next))
          (sym (moments-append history.steps (step ∷ [])))
          (stands_seen base (moments history.steps) moment next all_came in_time);
      time = later;
    }

    -- and what a frame doesn't touch sleeps on
    pub asleep_on : IsUntouching history.installed.linked step → log_time frame < time_limit
        → StandsAsleep (with_frame moment next) old (with_step history step)
    asleep_on untouching fits = record {
      woken = asleep.woken;
      slept = asleep.slept ++ step ∷ [];
      steps = ap (λ (l : List Step). l ++ step ∷ []) asleep.steps ∙ append_assoc asleep.woken asleep.slept (step ∷ []);
      stands = asleep.stands;
      untouching = untouching-push history.installed.linked asleep.slept step asleep.untouching untouching;
      in_time = in_time-push base history.steps step asleep.in_time (omega (arith, asleep.time, in_time), fits);
      run = subst (λ (l : List Moment). StandsForRun base (moments asleep.woken) l (with_frame moment next))
          (sym (moments-append asleep.slept (step ∷ [])))
          (stands_pushed base (moments asleep.woken) (moments asleep.slept) moment next in_time asleep.run);
      time = later;
    }

-- a configuration hears what is shown as it hears the frame
pub shown_heard : (linked : Linked) (log : List LogFrame) (frame : LogFrame)
    → hears linked (shown_as log frame) ≡ hears linked frame
shown_heard linked log (Tick at) = refl
shown_heard linked log (AtomAt at atom) = refl
shown_heard linked log (Pull at id outcome) = refl

-- a frame that it doesn't hear touches nothing of it
pub unheard_untouching : (says : SimpleMatcher → Atom → Bool) (linked : Linked) (frame : LogFrame)
    → hears linked frame ≡ false → IsUntouching linked (logged_step frame (truths_at says linked frame))
unheard_untouching says linked (Tick at) off = tt
unheard_untouching says linked (AtomAt at atom) off =
    let parts = or_parts (hears_all linked) (is_heard linked atom.id) off in
    (parts.1, unheard_holds_nothing says atom linked parts.1 parts.0)
unheard_untouching says linked (Pull at id outcome) off =
    (or_parts (hears_all linked) (is_heard linked id) off).1
