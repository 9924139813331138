-- A frame comes to the metrics that it wakes, one by one, and the others sleep through it.
use Rattle.std.proofs.Common.{◌≡◌, ℕ, zero, suc, ◌+◌, ◌≤◌, ◌<◌, Bool, true, false, if◌then◌else◌, List, [], ◌∷◌, length, set, get_or, map, replicate, Option, Some, None, refl, sym, ap, subst, ◌∙◌, arith, inl, inr}
use Rattle.std.specs.List.{sum_by}
use Rattle.std.proofs.lemmas.Bool.{cases_Bool, cases_eq, true≢false}
use Rattle.std.proofs.lemmas.List.Sums.{sum_by-cons}
use Rattle.std.proofs.lemmas.List.{length-set, length-map, length-replicate, get_or-replicate, get_or-set_same, get_or-set_other, get_or-map}
use Rattle.std.proofs.lemmas.List.Elements.{All-get_or}
use Rattle.atom_record.specs.declared.log.LogFrame.{LogFrame}
use Rattle.atom_record.specs.declared.log.LogFrame.TheVariants.{Tick, AtomAt, Pull}
use Rattle.config_links.specs.declared.linked.LMetric.{LMetric}
use Rattle.bucket_clock.specs.Sound.{Times}
use Rattle.metric_lane.specs.LaneClock.{NoEndBefore}
use Rattle.session_frames.specs.FrameReading.{log_time}
use Rattle.metric_meaning.specs.Histories.{Step, Installation, moment_of}
use Rattle.client_engine.specs.Handed.{Handed}
use Rattle.client_engine.specs.NextSteps.{MayLog, TakesFrame, with_logged}
use Rattle.client_engine.specs.Questions.{metric_questions, questions_of}
use Rattle.client_engine.specs.Tracks.{metric_in, AllStandFor}
use Rattle.client_engine.specs.TrackStands.{TrackStandsFor}
use Rattle.known_conditions.specs.Lists.{is_in}
use Rattle.known_conditions.specs.Marks.{AreAllMarked}
use Rattle.client_engine.specs.Waking.{SleepsThrough, OthersSleep}
use Rattle.client_engine.specs.Woken.{clock_of_lane, IsDue, AllDue, sum_marked, marked_questions, AreWoken}
use Rattle.client_engine.specs.declared.track.Track.{Track}
use Rattle.known_conditions.proofs.MarksLemmas.{get_or_any, marked_within}
use Rattle.client_engine.proofs.QuestionsLemmas.{one_questions}
use Rattle.client_engine.proofs.SleepingLemmas.{track_sleeps}
use Rattle.known_conditions.proofs.ListsLemmas.{map-set_same}

-- what no clock ends before a time, none ends before an earlier one
no_end_sooner : (clock : Option Times) (time sooner : ℕ) → NoEndBefore time clock → sooner ≤ time
    → NoEndBefore sooner clock
no_end_sooner None time sooner later before = tt
no_end_sooner (Some clock) time sooner none before = λ some.
    let later = none (omega (arith, some, before)) in
    record { sound = later.sound; later = omega (arith, later.later, before) }

pub due_sooner : (track : Track) (time sooner : ℕ) → IsDue time track → sooner ≤ time → IsDue sooner track
due_sooner track time sooner due before = no_end_sooner (clock_of_lane track.lane) time sooner due before

pub all_due_sooner : (tracks : List Track) (time sooner : ℕ) → AllDue time tracks → sooner ≤ time
    → AllDue sooner tracks
all_due_sooner tracks time sooner all before k none within =
    due_sooner (get_or tracks k none) time sooner (all k none within) before

-- of 0 nothing is said
pub none_due : (tracks : List Track) → AllDue 0 tracks
none_due tracks k none within = of_clock (clock_of_lane (get_or tracks k none).lane) where
  of_clock : (clock : Option Times) → NoEndBefore 0 clock
  of_clock None = tt
  of_clock (Some clock) = λ some. absurd (omega (arith, some))

-- a mark counts what it marks
sum_marked-set : (f : LMetric → ℕ) (marks : List Bool) (metrics : List LMetric) (place : ℕ) (none : LMetric)
    → length marks ≡ length metrics → place < length metrics → get_or marks place true ≡ false
    → sum_marked f (set marks place true) metrics ≡ sum_marked f marks metrics + f (get_or metrics place none)
sum_marked-set f [] metrics place none same within off = absurd (omega (arith, same, within))
sum_marked-set f (mark ∷ marks) [] place none same within off = absurd (omega (arith, within))
sum_marked-set f (mark ∷ marks) (metric ∷ metrics) zero none same within off =
    let other : (if mark then f metric else 0) ≡ 0 = ap (λ b. if b then f metric else 0) off in
    omega (arith, other)
sum_marked-set f (mark ∷ marks) (metric ∷ metrics) (suc place) none same within off =
    let rest = sum_marked-set f marks metrics place none (omega (arith, same)) (omega (arith, within)) off in
    omega (arith, rest)

-- where nothing is marked, nothing is counted
sum_marked-none : (f : LMetric → ℕ) (n : ℕ) (metrics : List LMetric) → sum_marked f (replicate n false) metrics ≡ 0
sum_marked-none f zero metrics = refl
sum_marked-none f (suc n) [] = refl
sum_marked-none f (suc n) (metric ∷ metrics) =
    let rest = sum_marked-none f n metrics in
    omega (arith, rest)

-- the questions of the first one, and of the others
first_question : (metric : LMetric) (metrics : List LMetric) (installed : Installation) (steps : List Step)
    (frame : LogFrame) (truths : List Bool)
    → questions_of (metric ∷ metrics) installed steps frame truths
    ≡ questions_of (metric ∷ []) installed steps frame truths + questions_of metrics installed steps frame truths
first_question metric metrics installed steps (Tick at) truths = refl
first_question metric metrics installed steps (AtomAt at atom) truths =
    sum_by-cons (metric_questions installed steps truths) metric metrics
    ∙ ap (λ n. n + sum_by (metric_questions installed steps truths) metrics)
    (sym (one_questions installed steps at atom truths metric))
first_question metric metrics installed steps (Pull at id outcome) truths = refl

-- what is marked is no more than all
marked-few : (marks : List Bool) (metrics : List LMetric) (installed : Installation)
    (steps : List Step) (frame : LogFrame)
    (truths : List Bool)
    → marked_questions marks metrics installed steps frame truths ≤ questions_of metrics installed steps frame truths
marked-few [] metrics installed steps frame truths = omega arith
marked-few (mark ∷ marks) [] installed steps frame truths = omega arith
marked-few (mark ∷ marks) (metric ∷ metrics) installed steps frame truths =
    let rest = marked-few marks metrics installed steps frame truths in
    let all = first_question metric metrics installed steps frame truths in
    by_mark mark rest all where
      by_mark : (b : Bool)
          → marked_questions marks metrics installed steps frame truths ≤ questions_of metrics
          installed steps frame truths
          → questions_of (metric ∷ metrics) installed steps frame truths
          ≡ questions_of (metric ∷ []) installed steps frame truths + questions_of metrics installed steps frame truths
          → (if b then questions_of (metric ∷ []) installed steps frame truths else 0)
          + marked_questions marks metrics installed steps frame truths
          ≤ questions_of (metric ∷ metrics) installed steps frame truths
      by_mark true rest all = omega (arith, rest, all)
      by_mark false rest all = omega (arith, rest, all)

module _ (given : Handed) (shown : LogFrame) (truths : List Bool) where
  -- the frame came to none yet
  pub none_woken : (tracks : List Track) (before due : ℕ) → AllDue due tracks
      → AreWoken given shown truths tracks before tracks (replicate (length tracks) false) before due
  none_woken tracks before due all = record {
    len = refl;
    marked = length-replicate (length tracks) false;
    metrics = refl;
    asleep = λ place none off. refl;
    awake = λ place none within on.
        absurd (true≢false (sym on ∙ get_or-replicate (length tracks) place false true within));
    asked = λ installed steps frame all may.
        let nothing = sum_marked-none (λ metric. questions_of (metric ∷ []) installed steps shown truths)
        (length tracks) (map metric_in tracks) in
        omega (arith, nothing);
    ends = all;
  }

  module _ (first now : List Track) (before here due : ℕ) (marks : List Bool)
      (are : AreWoken given shown truths first before now marks here due) (place : ℕ)
      (off : get_or marks place true ≡ false) where
    inside : place < length now
    inside = subst (λ n. place < n) (are.marked ∙ sym are.len) (marked_within marks place off)

    inside_first : place < length first
    inside_first = subst (λ n. place < n) are.len inside

    -- it comes to one more: what that asks is counted
    pub one_few : (track none : Track) (after : ℕ) (now_given : Handed) → now_given ≡ given
        → ((installed : Installation) (steps : List Step) (frame : LogFrame)
        → TrackStandsFor installed steps (get_or now place none) → MayLog installed steps now_given shown frame truths
        → after ≤ here + questions_of ((get_or now place none).metric ∷ []) installed steps shown truths)
        → (installed : Installation) (steps : List Step) (frame : LogFrame) → AllStandFor installed steps first
        → MayLog installed steps given shown frame truths
        → after ≤ before + marked_questions (set marks place true) (map metric_in first) installed steps shown truths
    one_few track none after now_given same asks installed steps frame all may =
        let item_is = are.asleep place none off in
        let stands : TrackStandsFor installed steps (get_or now place none) =
        subst (TrackStandsFor installed steps) (sym item_is)
        (All-get_or (TrackStandsFor installed steps) first place none inside_first all) in
        let few = are.asked installed steps frame all may in
        let more = asks installed steps frame stands
        (subst (λ g. MayLog installed steps g shown frame truths) (sym same) may) in
        let metrics = map metric_in first in
        let f : LMetric → ℕ = λ metric. questions_of (metric ∷ []) installed steps shown truths in
        let item : get_or metrics place (metric_in none) ≡ (get_or now place none).metric =
        get_or-map metric_in first place none (metric_in none) inside_first ∙ sym (ap metric_in item_is) in
        let counted = sum_marked-set f marks metrics place (metric_in none)
        (are.marked ∙ sym (length-map first metric_in)) (omega (arith, inside_first, length-map first metric_in)) off
        ∙ ap (λ m. sum_marked f marks metrics + f m) item in
        omega (arith, few, more, counted)

    -- and it is marked
    pub one_woken : (track none : Track) (after next : ℕ) → track.metric ≡ (get_or now place none).metric
        → (now_given : Handed) → now_given ≡ given
        → TakesFrame TrackStandsFor now_given shown truths (get_or now place none) track
        → ((installed : Installation) (steps : List Step) (frame : LogFrame)
        → TrackStandsFor installed steps (get_or now place none) → MayLog installed steps now_given shown frame truths
        → after ≤ here + questions_of ((get_or now place none).metric ∷ []) installed steps shown truths)
        → next ≤ due → IsDue next track
        → AreWoken given shown truths first before (set now place track) (set marks place true) after next
    one_woken track none after next metric now_given same logs asks sooner is_due = record {
      len = length-set now place track ∙ are.len;
      marked = length-set marks place true ∙ are.marked;
      metrics = map-set_same metric_in now place track none inside metric ∙ are.metrics;
      asleep = λ other rest still. elim (cases_eq other place) [
        | inl same_place ↦ absurd (true≢false
            (sym (get_or-set_same marks place true true (marked_within marks place off))
            ∙ subst (λ p. get_or (set marks place true) p true ≡ false) same_place still))
        | inr differ ↦ get_or-set_other now place other track rest differ
            ∙ are.asleep other rest (sym (get_or-set_other marks place other true true differ) ∙ still)
      ];
      awake = λ other rest within on. elim (cases_eq other place) [
        | inl same_place ↦
            subst (λ p. TakesFrame TrackStandsFor given shown truths (get_or first p rest)
            (get_or (set now place track) p rest)) (sym same_place)
            (subst (TakesFrame TrackStandsFor given shown truths (get_or first place rest))
            (sym (get_or-set_same now place track rest inside))
            (subst (λ old. TakesFrame TrackStandsFor given shown truths old track)
            (get_or_any now place none rest inside ∙ are.asleep place rest off)
            (subst (λ g. TakesFrame TrackStandsFor g shown truths (get_or now place none) track) same logs)))
        | inr differ ↦
            subst (TakesFrame TrackStandsFor given shown truths (get_or first other rest))
            (sym (get_or-set_other now place other track rest differ))
            (are.awake other rest within (sym (get_or-set_other marks place other true true differ) ∙ on))
      ];
      asked = one_few track none after now_given same asks;
      ends = λ other rest within. elim (cases_eq other place) [
        | inl same_place ↦
            subst (λ p. IsDue next (get_or (set now place track) p rest)) (sym same_place)
            (subst (IsDue next) (sym (get_or-set_same now place track rest inside)) is_due)
        | inr differ ↦
            subst (IsDue next) (sym (get_or-set_other now place other track rest differ))
            (due_sooner (get_or now other rest) due next
            (are.ends other rest (subst (λ n. other < n) (length-set now place track) within)) sooner)
      ];
    }

  -- all took the frame: those that it came to, and those that slept through it
  pub all_woken : (first now : List Track) (before after due time : ℕ) (marks : List Bool) (places : List ℕ)
      → AreWoken given shown truths first before now marks after due → log_time shown < time
      → (moment_of shown (log_time shown)).is_pull ≡ false → AllDue time first
      → OthersSleep places given.known.predicates given.states shown truths (map metric_in first)
      → AreAllMarked places marks → TakesFrame AllStandFor given shown truths first now
  all_woken first now before after due time marks places are early no_pull ends sleep marked
      installed steps frame all may
      place none within =
      let inside : place < length first = subst (λ n. place < n) are.len within in
      let stands = all place none inside in
      elim (cases_Bool (get_or marks place true)) [
        | inl on ↦ are.awake place none inside on installed steps frame stands may
        | inr off ↦
            let metrics = map metric_in first in
            let out : is_in place places ≡ false = elim (cases_Bool (is_in place places)) [
              | inl there ↦ absurd (true≢false (sym (marked place there) ∙ off))
              | inr isnt ↦ isnt
            ] in
            let sleeps : SleepsThrough given.known.predicates given.states shown truths
            (get_or first place none).metric =
            subst (SleepsThrough given.known.predicates given.states shown truths)
            (get_or-map metric_in first place none (metric_in none) inside)
            (sleep place (metric_in none) (omega (arith, inside, length-map first metric_in)) out) in
            subst (TrackStandsFor installed (with_logged steps frame truths)) (sym (are.asleep place none off))
            (track_sleeps given shown truths time early no_pull (get_or first place none) sleeps
            (ends place none inside)
            installed steps frame stands may)
      ]

  -- and asked no more than all may
  pub all_few : (first now : List Track) (before after due : ℕ) (marks : List Bool)
      → AreWoken given shown truths first before now marks after due
      → (installed : Installation) (steps : List Step) (frame : LogFrame) → AllStandFor installed steps first
      → MayLog installed steps given shown frame truths
      → after ≤ before + questions_of (map metric_in first) installed steps shown truths
  all_few first now before after due marks are installed steps frame all may =
      let few = are.asked installed steps frame all may in
      let all_of = marked-few marks (map metric_in first) installed steps shown truths in
      omega (arith, few, all_of)

  -- the same by the item that was found at the place
  module _ (first now : List Track) (before here due : ℕ) (marks : List Bool)
      (are : AreWoken given shown truths first before now marks here due) (place : ℕ)
      (off : get_or marks place true ≡ false) (item : Track) (is : item ≡ get_or now place item) where
    pub item_few : (after : ℕ)
        → ((installed : Installation) (steps : List Step) (frame : LogFrame) → TrackStandsFor installed steps item
        → MayLog installed steps given shown frame truths
        → after ≤ here + questions_of (item.metric ∷ []) installed steps shown truths)
        → (installed : Installation) (steps : List Step) (frame : LogFrame) → AllStandFor installed steps first
        → MayLog installed steps given shown frame truths
        → after ≤ before + questions_of (map metric_in first) installed steps shown truths
    item_few after asks installed steps frame all may =
        let few = one_few first now before here due marks are place off item item after given refl
        (subst (λ (t : Track). (installed : Installation) (steps : List Step) (frame : LogFrame)
        → TrackStandsFor installed steps t → MayLog installed steps given shown frame truths
        → after ≤ here + questions_of (t.metric ∷ []) installed steps shown truths) is asks)
        installed steps frame all may in
        let all_of = marked-few (set marks place true) (map metric_in first) installed steps shown truths in
        omega (arith, few, all_of)

    pub item_woken : (track : Track) (after next : ℕ) → track.metric ≡ item.metric
        → TakesFrame TrackStandsFor given shown truths item track
        → ((installed : Installation) (steps : List Step) (frame : LogFrame) → TrackStandsFor installed steps item
        → MayLog installed steps given shown frame truths
        → after ≤ here + questions_of (item.metric ∷ []) installed steps shown truths)
        → next ≤ due → IsDue next track
        → AreWoken given shown truths first before (set now place track) (set marks place true) after next
    item_woken track after next metric logs asks sooner is_due =
        one_woken first now before here due marks are place off track item after next
        (metric ∙ ap metric_in is) given refl
        (subst (λ old. TakesFrame TrackStandsFor given shown truths old track) is logs)
        (subst (λ (t : Track). (installed : Installation) (steps : List Step) (frame : LogFrame)
        → TrackStandsFor installed steps t → MayLog installed steps given shown frame truths
        → after ≤ here + questions_of (t.metric ∷ []) installed steps shown truths) is asks)
        sooner is_due
