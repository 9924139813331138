-- What the book of a metric's activations stands for, one step more at a time: lemmas on `specs/Activity.antt`.
use Rattle.std.proofs.Common.{◌≡◌, ◌≢◌, ℕ, zero, suc, ◌+◌, ◌<◌, ◌≤◌, Bool, true, false, ◌||◌, List, [], ◌∷◌, ◌++◌, length, map, take, get_or, set, slice_get, All, Some, None, refl, sym, ap, subst, ◌∙◌, arith, ⊎_elim}
use Rattle.std.specs.Option.{option_map_or}
use Rattle.std.proofs.lemmas.Bool.{cases_lt}
use Rattle.std.proofs.lemmas.List.{map-append, length-map, length-take-le, get_or-map, get_or-take, get_or_default, get_or-set_same, get_or-set_other, same_lists}
use Rattle.std.proofs.lemmas.Option.{slice_get_read}
use Rattle.atom_record.specs.declared.atom.Atom.{Atom}
use Rattle.atom_record.specs.declared.log.LogFrame.{LogFrame}
use Rattle.atom_record.specs.declared.log.LogFrame.TheVariants.{Tick, AtomAt, Pull}
use Rattle.atom_record.specs.declared.log.PullOutcome.{PullOutcome}
use Rattle.config_links.specs.OwnMatchers.{starting_matchers}
use Rattle.config_links.specs.SoundConfig.{IsSoundMetric}
use Rattle.config_links.specs.declared.linked.Linked.{Linked}
use Rattle.config_links.specs.declared.linked.LActivation.{LActivation}
use Rattle.config_links.specs.declared.linked.LMetric.{LMetric}
use Rattle.config_links.specs.declared.linked.LPredicate.{LPredicate}
use Rattle.config_links.specs.declared.linked.LState.{LState}
use Rattle.metric_activation.specs.Activations.{says_something, truth_of, signal_at, is_active_told}
use Rattle.bucket_meaning.specs.Limits.{time_limit}
use Rattle.metric_activation.specs.Timers.{IsTimer, AreTimers, IsIdle, idle, ttls_of, heard_of, BookStandsFor, HearsAtom}
use Rattle.metric_activation.specs.declared.timer.Timer.{Timer}
use Rattle.metric_activation.proofs.ActiveLemmas.{active_again}
use Rattle.metric_activation.proofs.TimersLemmas.{stays_silent}
use Rattle.metric_meaning.specs.ActivationSteps.{signal_of, is_active_after}
use Rattle.metric_meaning.specs.Histories.{What, Logged, Reported, Step}
use Rattle.metric_meaning.specs.ShownFrames.{shown_as}
use Rattle.client_engine.specs.Activity.{starts_by, cancels_by, timers_of, said_by, ActsAlong, AreSaid, TellsFrame, SaysActive}
use Rattle.client_engine.specs.NextSteps.{with_logged, with_reported}
use Rattle.known_conditions.specs.Known.{logged_step}
use Rattle.known_conditions.specs.Touchers.{one_holds}
use Rattle.client_engine.specs.Waking.{SleepsThrough}
use Rattle.client_engine.specs.declared.request.ReportRequest.{ReportRequest}
use Rattle.client_engine.proofs.WakersLemmas.{starting_off, neither}

-- nothing is said at any place
none_said : (place : ℕ) → truth_of [] place ≡ false
none_said zero = refl
none_said (suc place) = refl

-- what is said of one that is found
said_at : (says : LActivation → Bool) (ones : List LActivation) (place : ℕ)
    → truth_of (map says ones) place ≡ option_map_or says (slice_get ones place) false
said_at says [] zero = refl
said_at says [] (suc place) = refl
said_at says (one ∷ ones) zero = refl
said_at says (one ∷ ones) (suc place) = said_at says ones place

-- a step tells a book of the activation at a place what it says of that
told_signal : (metric : LMetric) (step : Step) (place : ℕ) (one : LActivation)
    → slice_get metric.activations place ≡ Some one → signal_at place (said_by metric step) ≡ signal_of one step
told_signal metric step place one is = of_what step.what where
  silent : signal_at place (heard_of step.at [] []) ≡ record { at = step.at; starts = false; cancels = false }
  silent =
      ap (λ b. record { at = step.at; starts = b; cancels = truth_of [] place }) (none_said place)
      ∙ ap (λ b. record { at = step.at; starts = false; cancels = b }) (none_said place)

  of_what : (what : What) → let s : Step = record step { what = what } in
      signal_at place (said_by metric s) ≡ signal_of one s
  of_what (Logged (AtomAt at atom)) =
      ap (λ b. record {
        at = step.at;
        starts = b;
        cancels = truth_of (map (cancels_by step.truths) metric.activations) place;
      }) (said_at (starts_by step.truths) metric.activations place
      ∙ ap (λ found. option_map_or (starts_by step.truths) found false) is)
      ∙ ap (λ b. record { at = step.at; starts = starts_by step.truths one; cancels = b })
      (said_at (cancels_by step.truths) metric.activations place
      ∙ ap (λ found. option_map_or (cancels_by step.truths) found false) is)
  of_what (Logged (Tick at)) = silent
  of_what (Logged (Pull at id outcome)) = silent
  of_what (Reported include_current) = silent

-- nothing that is said starts or cancels anything
says_none : (at place : ℕ) → says_something (signal_at place (heard_of at [] [])) ≡ false
says_none at place = ap (λ b. b || truth_of [] place) (none_said place) ∙ none_said place

module _ (metric : LMetric) (steps : List Step) where
  -- a book says whether the metric is active
  pub active_is : (acts : List Timer) (now : ℕ) → ActsAlong metric steps acts
      → is_active_told (ttls_of acts) (map (said_by metric) steps) now ≡ is_active_after metric steps now
  active_is acts now along =
      ap (λ ttls. is_active_told ttls (map (said_by metric) steps) now) along.ttls
      ∙ active_again (λ (one : LActivation). one.ttl) signal_of (said_by metric) steps now metric.activations
      (λ place one is step. told_signal metric step place one is)

  -- one that was told of an atom is of one step more
  pub acts_told : (old new : List Timer) (at time : ℕ) (atom : Atom) (truths : List Bool) → ActsAlong metric steps old
      → ttls_of new ≡ ttls_of old
      → HearsAtom old new (heard_of at (map (starts_by truths) metric.activations)
      (map (cancels_by truths) metric.activations))
      → ActsAlong metric (steps ++ record { at = at; what = Logged (AtomAt time atom); truths = truths } ∷ []) new
  acts_told old new at time atom truths along same takes =
      let step : Step = record { at = at; what = Logged (AtomAt time atom); truths = truths } in
      record {
        ttls = same ∙ along.ttls;
        stands = subst (BookStandsFor new) (sym (map-append (said_by metric) steps (step ∷ [])))
            (takes (map (said_by metric) steps) along.stands);
      }

  module _ (acts : List Timer) (along : ActsAlong metric steps acts) where
    -- a step that says nothing leaves what a book is of
    stays : (step : Step)
        → ((place : ℕ) → place < length acts → says_something (signal_at place (said_by metric step)) ≡ false)
        → ActsAlong metric (steps ++ step ∷ []) acts
    stays step silent = record {
      ttls = along.ttls;
      stands = subst (BookStandsFor acts) (sym (map-append (said_by metric) steps (step ∷ [])))
          (stays_silent acts (map (said_by metric) steps) (said_by metric step) silent along.stands);
    }

    -- as each does that is no atom
    pub tick_stays : (at time : ℕ) (truths : List Bool)
        → ActsAlong metric (steps ++ record { at = at; what = Logged (Tick time); truths = truths } ∷ []) acts
    tick_stays at time truths =
        stays (record { at = at; what = Logged (Tick time); truths = truths }) (λ place within. says_none at place)

    pub pull_stays : (at time id : ℕ) (outcome : PullOutcome) (truths : List Bool)
        → ActsAlong metric
        (steps ++ record { at = at; what = Logged (Pull time id outcome); truths = truths } ∷ []) acts
    pull_stays at time id outcome truths =
        stays (record { at = at; what = Logged (Pull time id outcome); truths = truths })
        (λ place within. says_none at place)

    pub report_stays : (request : ReportRequest) → ActsAlong metric (with_reported steps request) acts
    report_stays request =
        stays (record { at = request.at; what = Reported request.include_current; truths = [] })
        (λ place within. says_none request.at place)

    -- and an atom where no matcher holds that starts or cancels one
    pub atom_stays : (at time : ℕ) (atom : Atom) (truths : List Bool)
        → one_holds truths (starting_matchers metric) ≡ false
        → ActsAlong metric (steps ++ record { at = at; what = Logged (AtomAt time atom); truths = truths } ∷ []) acts
    atom_stays at time atom truths off =
        let step : Step = record { at = at; what = Logged (AtomAt time atom); truths = truths } in
        let ones = metric.activations in
        let none : LActivation = record { start = 0; ttl = 0; cancel = None } in
        stays step (λ place within.
        let here : place < length ones =
        omega (
          arith,
          within,
          ap length along.ttls,
          length-map ones (λ (one : LActivation). one.ttl),
          length-map acts (λ (timer : Timer). timer.ttl),
        ) in
        let one = get_or ones place none in
        let found : slice_get ones place ≡ Some one = slice_get_read ones (length ones) place one refl here
        (get_or_default ones place none one here) in
        ap says_something (told_signal metric step place one found) ∙ neither truths ones place one off found)

-- a metric that sleeps through a frame has its book as it was
pub acts_sleep : (predicates : List LPredicate) (states : List LState) (metric : LMetric) (shown : LogFrame)
    (truths : List Bool) → SleepsThrough predicates states shown truths metric → (log : List LogFrame)
    (steps : List Step) (frame : LogFrame) → shown ≡ shown_as log frame → (acts : List Timer)
    → ActsAlong metric steps acts → ActsAlong metric (with_logged steps frame truths) acts
acts_sleep predicates states metric shown truths sleeps log steps (Tick at) is acts along =
    tick_stays metric steps acts along at at truths
acts_sleep predicates states metric shown truths sleeps log steps (AtomAt at atom) is acts along =
    let quiet = subst (λ f. SleepsThrough predicates states f truths metric) is sleeps in
    atom_stays metric steps acts along at at atom truths (starting_off predicates metric truths quiet.0)
acts_sleep predicates states metric shown truths sleeps log steps (Pull at id outcome) is acts along =
    pull_stays metric steps acts along at at id outcome truths

-- one more is said, which is written at its place
pub one_said : (says : LActivation → Bool) (ones : List LActivation) (place : ℕ) (truths : List Bool) (fresh : Bool)
    → AreSaid says ones place truths → place < length truths → fresh ≡ option_map_or says (slice_get ones place) false
    → AreSaid says ones (place + 1) (set truths place fresh)
one_said says ones place truths fresh are within is k less =
    ⊎_elim
    (λ (before : k < place).
    let ne : k ≢ place = omega (arith, before) in
    get_or-set_other truths place k fresh false ne ∙ are k before)
    (λ (after : place ≤ k).
    let same : k ≡ place = omega (arith, after, less) in
    subst (λ n. get_or (set truths place fresh) n false ≡ option_map_or says (slice_get ones n) false) (sym same)
    (get_or-set_same truths place fresh false within ∙ is))
    (cases_lt k place)

-- so many truths, each as is said of the activation there, are all that is said of so many activations
pub all_said : (says : LActivation → Bool) (ones : List LActivation) (most : ℕ) (truths : List Bool) (count : ℕ)
    → AreSaid says ones most truths → length truths ≡ most → count ≤ most → count ≡ length ones
    → take count truths ≡ map says ones
all_said says ones most truths count are many few all =
    let taken : length (take count truths) ≡ count = length-take-le count truths (omega (arith, few, many)) in
    same_lists (take count truths) (map says ones) (omega (arith, taken, length-map ones says, all))
    (λ k d within.
    let inside : k < count = omega (arith, within, taken) in
    let here : k < length truths = omega (arith, inside, many, few) in
    let there : k < length (map says ones) = omega (arith, inside, all, length-map ones says) in
    get_or-take count truths k d inside ∙ get_or_default truths k d false here ∙ are k (omega (arith, inside, few))
    ∙ sym (said_at says ones k) ∙ get_or_default (map says ones) k false d there)

-- a metric without activations is told nothing
pub none_told : (metric : LMetric) (shown : LogFrame) (truths : List Bool) (acts : List Timer)
    → length metric.activations ≡ 0 → TellsFrame metric shown truths acts acts
none_told metric shown truths acts none log steps frame is in_time along =
    stays metric steps acts along (logged_step frame truths)
    (λ place within. absurd (omega (
      arith,
      within,
      none,
      ap length along.ttls,
      length-map metric.activations (λ (one : LActivation). one.ttl),
      length-map acts (λ (timer : Timer). timer.ttl),
    )))

-- it is always active
pub none_asked : (metric : LMetric) (acts : List Timer) (now : ℕ) → length metric.activations ≡ 0
    → SaysActive metric acts now true
none_asked metric acts now none steps along = of_list metric.activations none where
  of_list : (ones : List LActivation) → length ones ≡ 0
      → true ≡ is_active_after (record metric { activations = ones }) steps now
  of_list [] none = refl
  of_list (one ∷ ones) none = absurd (omega (arith, none))

-- nor does a frame tell anything that is no atom
pub tick_told : (metric : LMetric) (at : ℕ) (truths : List Bool) (acts : List Timer)
    → TellsFrame metric (Tick at) truths acts acts
tick_told metric at truths acts log steps (Tick time) is in_time along =
    tick_stays metric steps acts along time time truths
tick_told metric at truths acts log steps (AtomAt time atom) is in_time along = absurd cc
tick_told metric at truths acts log steps (Pull time id outcome) is in_time along = absurd cc

pub pull_told : (metric : LMetric) (at id : ℕ) (outcome : PullOutcome) (truths : List Bool) (acts : List Timer)
    → TellsFrame metric (Pull at id outcome) truths acts acts
pull_told metric at id outcome truths acts log steps (Tick time) is in_time along = absurd cc
pull_told metric at id outcome truths acts log steps (AtomAt time atom) is in_time along = absurd cc
pull_told metric at id outcome truths acts log steps (Pull time other found) is in_time along =
    pull_stays metric steps acts along time time other found truths

-- an atom tells what it says of each
pub atom_told : (metric : LMetric) (at : ℕ) (atom : Atom) (truths : List Bool) (old new : List Timer)
    → ttls_of new ≡ ttls_of old
    → (at < time_limit → length old ≡ length metric.activations
    → HearsAtom old new (heard_of at (map (starts_by truths) metric.activations)
    (map (cancels_by truths) metric.activations)))
    → TellsFrame metric (AtomAt at atom) truths old new
atom_told metric at atom truths old new same takes log steps (Tick time) is in_time along = absurd cc
atom_told metric at atom truths old new same takes log steps (AtomAt time other) is in_time along =
    let at_once : at ≡ time = cc in
    let long : length old ≡ length metric.activations =
    omega (
      arith,
      ap length along.ttls,
      length-map metric.activations (λ (one : LActivation). one.ttl),
      length-map old (λ (timer : Timer). timer.ttl),
    ) in
    acts_told metric steps old new time time other truths along same
    (subst (λ n. HearsAtom old new (heard_of n (map (starts_by truths) metric.activations)
    (map (cancels_by truths) metric.activations))) at_once (takes (omega (arith, in_time, at_once)) long))
atom_told metric at atom truths old new same takes log steps (Pull time id outcome) is in_time along = absurd cc

-- each timer lasts as long as its activation
ttls_first : (ones : List LActivation) → ttls_of (timers_of ones) ≡ map (λ (one : LActivation). one.ttl) ones
ttls_first [] = refl
ttls_first (one ∷ ones) = ap (λ l. one.ttl ∷ l) (ttls_first ones)

-- a book that nothing was told is of no steps
pub first_acts : (metric : LMetric) (acts : List Timer) → acts ≡ timers_of metric.activations → BookStandsFor acts []
    → ActsAlong metric [] acts
first_acts metric acts is stands = record {
  ttls = ap ttls_of is ∙ ttls_first metric.activations;
  stands = stands;
}

-- the timer of an activation
abbrev timer_of : LActivation → Timer
timer_of one = idle one.ttl

module _ (linked : Linked) (metric : LMetric) (sound : IsSoundMetric linked metric) where
  abbrev ones : List LActivation
  ones = metric.activations

  abbrev no_one : LActivation
  no_one = record { start = 0; ttl = 0; cancel = None }

  -- what is at a place is the timer of the activation there
  timer_at : (place : ℕ) (none : Timer) → place < length (timers_of ones)
      → get_or (timers_of ones) place none ≡ timer_of (get_or ones place no_one)
  timer_at place none within =
      get_or-map timer_of ones place no_one none (omega (arith, within, length-map ones timer_of))

  -- the timers of a sound metric are those of a book
  pub sound_timers : AreTimers (timers_of ones)
  sound_timers = record {
    few = omega (arith, length-map ones timer_of, sound.few_activations);
    short = λ place none within.
        let one = sound.activations place no_one (omega (arith, within, length-map ones timer_of)) in
        subst IsTimer (sym (timer_at place none within)) (record { least = one.lasts.0; most = one.lasts.1 });
  }

  -- and none was started
  pub idle_timers : All IsIdle (timers_of ones)
  idle_timers place none within = subst IsIdle (sym (timer_at place none within)) refl
