-- The calls that a lane makes of timely steps are all admitted.
use Rattle.std.proofs.Common.{append_assoc, append-nil, ◌≡◌, ℕ, ◌<◌, ◌≤◌, Bool, true, false, List, [], ◌∷◌, ◌++◌, Option, Some, None, if◌then◌else◌, refl, sym, ap, subst, ◌∙◌, arith, ⊎_elim}
use Rattle.std.specs.Prelude.{nat_lt}
use Rattle.std.proofs.lemmas.Bool.{cases_lt}
use Rattle.sd_base.specs.Outputs.{outputs_after}
use Rattle.sd_base.proofs.OutputsLemmas.{outputs-push}
use Rattle.bucket_meaning.specs.Limits.{time_limit}
use Rattle.bucket_meaning.specs.Ends.{Moment}
use Rattle.bucket_clock.specs.Sound.{times}
use Rattle.bucket_clock.specs.Clock.{Saw, boundaries, boundaries_at, last_time, ClockStandsFor}
use Rattle.bucket_clock.proofs.ClockLemmas.{cut_made}
use Rattle.metric_producer.specs.Calls.{Call, CutAt, Took, Demands, Standing, standing_from, first_standing, clock_at}
use Rattle.metric_producer.specs.Rules.{AreAdmitted, AreTold}
use Rattle.metric_producer.specs.LaneCalls.{LaneStep, Logged, Reported, told_by, crossing, crossing_of, cutting, calls_at, calls_of, AreTimely, last_of, AreAskedAt, event_asks, coming, event_demands, run_asks, run_demands, AllTaken}
use Rattle.metric_producer.specs.OpeningCalls.{calls_with, calls_before, AskWell}
use Rattle.metric_producer.proofs.RuleLemmas.{MayComeAll, may_come-append, may_come-back, standing_from-append, admitted, told-append, told-back}
use Rattle.metric_producer.proofs.LaneReach.{told_by-cut, told_by-report, some_size, no_size}
use Rattle.metric_producer.proofs.LaneCrossing.{IsAlong, Goes, HasAsked, Owes, asked_come, crossing_goes}

module _ {Event After : Type 0} (demands : Demands Event After) where
  -- a crossing tells nothing
  crossing_told : (before : List (Call Event After)) (start size : ℕ) (ends : List ℕ)
      → AreTold demands before (crossing_of start size ends)
  crossing_told before start size [] = tt
  crossing_told before start size (first ∷ others) = (tt, tt)

  cut_told : (before : List (Call Event After)) (at : ℕ) (sized : Bool)
      → AreTold demands before ((if sized then CutAt at ∷ [] else []) ++ (Took ∷ []))
  cut_told before at true = (tt, (tt, tt))
  cut_told before at false = (tt, tt)

  -- nor does a report
  report_told : (before : List (Call Event After)) (size : ℕ) (include_current : Bool) (at : ℕ)
      → AreTold demands before (cutting size include_current at ++ (Took ∷ []))
  report_told before size true at = cut_told before at (nat_lt 0 size)
  report_told before size false at = (tt, tt)

  module _ {News : Type 0} (asks : List (LaneStep News) → Moment → News → List (Call Event After)) where
    -- the calls of a frame may come: what it crosses, and what the kind asks
    logged_goes : (before : List (LaneStep News)) (last : ℕ) (standing : Standing)
        (along : IsAlong demands before last standing)
        (moment : Moment) (news : News)
        → last ≤ moment.at → moment.at < time_limit → AreAskedAt demands moment.at (asks before moment news)
        → Goes demands (before ++ Logged moment news ∷ []) moment.at standing
        (calls_at demands asks before (Logged moment news))
    unfolding Owes
    logged_goes before last standing along moment news le fits asked =
        let crossed : List (Call Event After) = crossing demands.base demands.size (told_by before) moment in
        let own = asks before moment news in
        let goes = crossing_goes demands before last standing along moment news le fits in
        let middle = standing_from demands standing crossed in
        let owed : middle.owed ≡ None = goes.along.settled in
        let answered = asked_come demands middle.start middle.next_end middle.last None moment.at own asked tt
        (goes.along.not_before)
        (goes.along.from_start) (goes.along.in_bucket) fits in
        let same : record { start = middle.start; next_end = middle.next_end; last = middle.last; owed = None }
        ≡ middle =
        ap (λ o. record { start = middle.start; next_end = middle.next_end; last = middle.last; owed = o })
        (sym owed) in
        let may : MayComeAll demands middle own = subst (λ u. MayComeAll demands u own) same answered.0 in
        let has : HasAsked demands middle.start middle.next_end moment.at (standing_from demands middle own) =
        subst (λ u. HasAsked demands middle.start middle.next_end moment.at
        (standing_from demands u own)) same answered.1 in
        let u = standing_from demands middle own in
        record {
          may = may_come-append demands standing crossed own (goes.may) may;
          along = subst (λ v. IsAlong demands (before ++ Logged moment news ∷ []) moment.at v)
              (sym (standing_from-append demands standing crossed own)) (record {
                settled = has.settled;
                not_before = has.not_before;
                from_start = omega (arith, has.start_is, goes.along.from_start);
                fits = fits;
                in_bucket = λ sized. omega (arith, has.end_is, goes.along.in_bucket sized);
                some_end = λ sized. omega (arith, has.end_is, goes.along.some_end sized);
                bucket = omega (arith, has.start_is, has.end_is, goes.along.bucket);
                stands = λ sized. subst (λ start. ClockStandsFor (times demands.base demands.size start u.next_end)
                    (told_by (before ++ Logged moment news ∷ []))) (sym (has.start_is))
                    (subst (λ end. ClockStandsFor (times demands.base demands.size middle.start end)
                    (told_by (before ++ Logged moment news ∷ []))) (sym (has.end_is)) (goes.along.stands sized));
              });
        }

    -- the calls of a report may come: the cut, if there is one, and the taking
    reported_goes : (before : List (LaneStep News)) (last : ℕ) (standing : Standing)
        (along : IsAlong demands before last standing)
        (at : ℕ) (include_current : Bool)
        → at ≡ last → Goes demands (before ++ Reported at include_current ∷ []) last standing
        (calls_at demands asks before (Reported at include_current))
    reported_goes before last standing along at false is = record {
      may = (along.settled, tt);
      along = record {
        settled = along.settled;
        not_before = along.not_before;
        from_start = along.from_start;
        fits = along.fits;
        in_bucket = along.in_bucket;
        some_end = along.some_end;
        bucket = along.bucket;
        stands = λ sized. subst (λ told. ClockStandsFor (clock_at demands standing) told)
            (sym (told_by-report before at)) (along.stands sized);
      };
    }
    reported_goes before last standing along at true is = ⊎_elim
        (λ (sized : 0 < demands.size). subst
        (λ b. Goes demands (before ++ Reported at true ∷ []) last standing
        ((if b then CutAt at ∷ [] else []) ++ (Took ∷ []))) (sym (some_size demands.size sized))
        (record {
          may = (
            record {
              sized = sized;
              timely = record {
                not_before = omega (arith, is, along.not_before);
                from_start = omega (arith, is, along.from_start);
                in_bucket = λ _. omega (arith, is, along.in_bucket sized);
                fits = omega (arith, is, along.fits);
              };
              settled = along.settled;
            },
            (along.settled, tt),
          );
          along = record {
            settled = along.settled;
            not_before = omega (arith, is);
            from_start = omega (arith, is);
            fits = along.fits;
            in_bucket = along.in_bucket;
            some_end = along.some_end;
            bucket = omega (arith, is, along.from_start, along.bucket);
            stands = λ _. subst (λ told. ClockStandsFor (times demands.base demands.size at standing.next_end) told)
                (sym (told_by-cut before at)) (cut_made (clock_at demands standing) at (told_by before)
                (along.stands sized)).1;
          };
        }))
        (λ (none : demands.size ≤ 0). subst
        (λ b. Goes demands (before ++ Reported at true ∷ []) last standing
        ((if b then CutAt at ∷ [] else []) ++ (Took ∷ []))) (sym (no_size demands.size none))
        (record {
          may = (along.settled, tt);
          along = record {
            settled = along.settled;
            not_before = along.not_before;
            from_start = along.from_start;
            fits = along.fits;
            in_bucket = along.in_bucket;
            some_end = along.some_end;
            bucket = along.bucket;
            stands = λ sized. absurd (omega (arith, none, sized));
          };
        }))
        (cases_lt 0 demands.size)

    module _ (opening : List (Call Event After)) where
      -- the calls of all steps may come
      pub walk : (before steps : List (LaneStep News)) (last : ℕ) (standing : Standing)
          → IsAlong demands before last standing
          → AreTimely last steps → AskWell demands asks opening before steps
          → MayComeAll demands standing (outputs_after (calls_at demands asks) before steps)
      walk before [] last standing along timely well = tt
      walk before (Logged moment news ∷ steps) last standing along timely well =
          let step = Logged moment news in
          let goes = logged_goes before last standing along moment news timely.0.0 timely.0.1 well.0.0 in
          may_come-append demands standing (calls_at demands asks before step)
          (outputs_after (calls_at demands asks) (before ++ step ∷ []) steps) (goes.may)
          (walk (before ++ step ∷ []) steps moment.at
          (standing_from demands standing (calls_at demands asks before step))
          (goes.along) timely.1 well.1)
      walk before (Reported at include_current ∷ steps) last standing along timely well =
          let step : LaneStep News = Reported at include_current in
          let goes = reported_goes before last standing along at include_current timely.0 in
          may_come-append demands standing (calls_at demands asks before step)
          (outputs_after (calls_at demands asks) (before ++ step ∷ []) steps) (goes.may)
          (walk (before ++ step ∷ []) steps last (standing_from demands standing (calls_at demands asks before step))
          (goes.along) timely.1 well)

      -- what holds after all steps
      pub walk_on : (before steps : List (LaneStep News)) (last : ℕ) (standing : Standing)
          → IsAlong demands before last standing
          → AreTimely last steps → AskWell demands asks opening before steps
          → IsAlong demands (before ++ steps) (last_of last steps)
          (standing_from demands standing (outputs_after (calls_at demands asks) before steps))
      walk_on before [] last standing along timely well =
          subst (λ b. IsAlong demands b last standing) (sym (append-nil before)) along
      walk_on before (Logged moment news ∷ steps) last standing along timely well =
          let step = Logged moment news in
          let goes = logged_goes before last standing along moment news timely.0.0 timely.0.1 well.0.0 in
          let middle = standing_from demands standing (calls_at demands asks before step) in
          let more = outputs_after (calls_at demands asks) (before ++ step ∷ []) steps in
          subst (λ b. IsAlong demands b (last_of moment.at steps)
          (standing_from demands standing (calls_at demands asks before step ++ more)))
          (append_assoc before (step ∷ []) steps)
          (subst (λ u. IsAlong demands ((before ++ step ∷ []) ++ steps) (last_of moment.at steps) u)
          (sym (standing_from-append demands standing (calls_at demands asks before step) more))
          (walk_on (before ++ step ∷ []) steps moment.at middle (goes.along) timely.1 well.1))
      walk_on before (Reported at include_current ∷ steps) last standing along timely well =
          let step : LaneStep News = Reported at include_current in
          let goes = reported_goes before last standing along at include_current timely.0 in
          let middle = standing_from demands standing (calls_at demands asks before step) in
          let more = outputs_after (calls_at demands asks) (before ++ step ∷ []) steps in
          subst (λ b. IsAlong demands b (last_of last steps)
          (standing_from demands standing (calls_at demands asks before step ++ more)))
          (append_assoc before (step ∷ []) steps)
          (subst (λ u. IsAlong demands ((before ++ step ∷ []) ++ steps) (last_of last steps) u)
          (sym (standing_from-append demands standing (calls_at demands asks before step) more))
          (walk_on (before ++ step ∷ []) steps last middle (goes.along) timely.1 well))

      -- one more step brings its calls
      pub calls_with-push : (steps : List (LaneStep News)) (step : LaneStep News)
          → calls_with demands asks opening steps ++ calls_at demands asks steps step
          ≡ calls_with demands asks opening (steps ++ step ∷ [])
      calls_with-push steps step =
          append_assoc opening (calls_of demands asks steps) (calls_at demands asks steps step)
          ∙ ap (λ l. opening ++ l) (sym (outputs-push (calls_at demands asks) steps step))

      -- what the calls of all steps tell may be told
      pub walk_told : (before steps : List (LaneStep News)) → AskWell demands asks opening before steps
          → AreTold demands (calls_with demands asks opening before)
          (outputs_after (calls_at demands asks) before steps)
      walk_told before [] well = tt
      walk_told before (Logged moment news ∷ steps) well =
          let step = Logged moment news in
          let seen = calls_with demands asks opening before in
          let ends = boundaries_at demands.base demands.size (told_by before) (Saw moment) in
          let start = last_time demands.base (boundaries demands.base demands.size (told_by before)) in
          told-append demands seen (calls_at demands asks before step)
          (outputs_after (calls_at demands asks) (before ++ step ∷ []) steps)
          (told-append demands seen (crossing_of start demands.size ends) (asks before moment news)
          (crossing_told seen start demands.size ends) well.0.1)
          (subst (λ l. AreTold demands l (outputs_after (calls_at demands asks) (before ++ step ∷ []) steps))
          (sym (calls_with-push before step)) (walk_told (before ++ step ∷ []) steps well.1))
      walk_told before (Reported at include_current ∷ steps) well =
          let step : LaneStep News = Reported at include_current in
          let seen = calls_with demands asks opening before in
          told-append demands seen (calls_at demands asks before step)
          (outputs_after (calls_at demands asks) (before ++ step ∷ []) steps)
          (report_told seen demands.size include_current at)
          (subst (λ l. AreTold demands l (outputs_after (calls_at demands asks) (before ++ step ∷ []) steps))
          (sym (calls_with-push before step)) (walk_told (before ++ step ∷ []) steps well))

    -- it holds at the beginning
    first_along : demands.base < time_limit
        → IsAlong demands {News = News} [] demands.base (first_standing demands)
    first_along fits = record {
      settled = refl;
      not_before = omega arith;
      from_start = omega arith;
      fits = fits;
      in_bucket = λ _. omega arith;
      some_end = λ sized. omega (arith, sized);
      bucket = omega arith;
      stands = λ _. record {
        start = refl;
        next_end = record {
          passed = 0;
          at = omega arith;
          uncrossed = refl;
          crossed = λ i within. absurd (omega (arith, within));
        };
      };
    }

    -- what holds of the calls of all steps
    pub all_along : (steps : List (LaneStep News)) → demands.base < time_limit → AreTimely demands.base steps
        → AskWell demands asks [] [] steps
        → IsAlong demands steps (last_of demands.base steps)
        (standing_from demands (first_standing demands) (calls_of demands asks steps))
    all_along steps fits timely well =
        walk_on [] [] steps demands.base (first_standing demands) (first_along fits) timely well

    -- the law: all calls that a lane makes of timely steps are admitted, each after those before it
    pub lane_admits : (steps : List (LaneStep News)) → demands.base < time_limit → AreTimely demands.base steps
        → AskWell demands asks [] [] steps
        → AreAdmitted demands [] (calls_of demands asks steps)
    lane_admits steps fits timely well =
        admitted demands [] (calls_of demands asks steps)
        (walk [] [] steps demands.base (first_standing demands) (first_along fits) timely well)
        (walk_told [] [] steps well)

    -- the same of one step's calls, after those of the steps before
    pub step_admits : (steps : List (LaneStep News)) (step : LaneStep News) → demands.base < time_limit
        → AreTimely demands.base (steps ++ step ∷ []) → AskWell demands asks [] [] (steps ++ step ∷ [])
        → AreAdmitted demands (calls_of demands asks steps) (calls_at demands asks steps step)
    step_admits steps step fits timely well =
        admitted demands (calls_of demands asks steps) (calls_at demands asks steps step)
        (may_come-back demands (first_standing demands) (calls_of demands asks steps) (calls_at demands asks steps step)
        (subst (λ calls. MayComeAll demands (first_standing demands) calls)
        (outputs-push (calls_at demands asks) steps step)
        (walk [] [] (steps ++ step ∷ []) demands.base (first_standing demands) (first_along fits) timely well)))
        (told-back demands [] (calls_of demands asks steps) (calls_at demands asks steps step)
        (subst (AreTold demands []) (outputs-push (calls_at demands asks) steps step)
        (walk_told [] [] (steps ++ step ∷ []) well)))

-- a lane of events asks well at a frame, whatever comes
event_asked : (Event After : Type 0) (base size at : ℕ) (event : Option Event)
    → (before : List (Call Event After))
    → let calls : List (Call Event After) = coming at event in
    AreAskedAt (event_demands base size) at calls × AreTold (event_demands base size) before calls
event_asked Event After base size at None before = (tt, tt)
event_asked Event After base size at (Some event) before = ((refl, refl, tt, tt), (tt, tt))

-- a lane of events asks well, whatever comes
pub events_ask_well : (Event After : Type 0) (base size : ℕ) (opening : List (Call Event After))
    (before steps : List (LaneStep (Option Event)))
    → AskWell (event_demands base size) event_asks opening before steps
events_ask_well Event After base size opening before [] = tt
events_ask_well Event After base size opening before (Logged moment event ∷ steps) = (
  event_asked Event After base size moment.at event
      (calls_before (event_demands base size) event_asks opening before moment),
  events_ask_well Event After base size opening (before ++ Logged moment event ∷ []) steps,
)
events_ask_well Event After base size opening before (Reported at include_current ∷ steps) =
    events_ask_well Event After base size opening (before ++ Reported at include_current ∷ []) steps

-- the calls of a lane of events are admitted
pub events_admitted : (Event After : Type 0) (base size : ℕ) (steps : List (LaneStep (Option Event)))
    → base < time_limit → AreTimely base steps
    → let asks : List (LaneStep (Option Event)) → Moment → Option Event → List (Call Event After) = event_asks in
    AreAdmitted (event_demands base size) [] (calls_of (event_demands base size) asks steps)
events_admitted Event After base size steps fits timely =
    lane_admits (event_demands base size) event_asks steps fits timely
    (events_ask_well Event After base size [] [] steps)

-- a lane of runs asks well, where all events of its steps pass the test
pub runs_ask_well : (Event After : Type 0) (base size : ℕ) (takes : Event → Bool)
    (opening : List (Call Event After)) (before steps : List (LaneStep (Option Event × After)))
    → AllTaken takes steps → AskWell (run_demands base size takes) run_asks opening before steps
runs_ask_well Event After base size takes opening before [] all = tt
runs_ask_well Event After base size takes opening before (Logged moment (None, after) ∷ steps) all = (
  ((refl, tt), (refl, tt)),
  runs_ask_well Event After base size takes opening (before ++ Logged moment (None, after) ∷ []) steps all,
)
runs_ask_well Event After base size takes opening before (Logged moment (Some event, after) ∷ steps) all = (
  ((refl, all.0, tt, (refl, tt)), (tt, (refl, tt))),
  runs_ask_well Event After base size takes opening (before ++ Logged moment (Some event, after) ∷ []) steps all.1,
)
runs_ask_well Event After base size takes opening before (Reported at include_current ∷ steps) all =
    runs_ask_well Event After base size takes opening (before ++ Reported at include_current ∷ []) steps all

-- the calls of a lane of runs are admitted, where all its events pass the test
pub runs_admitted : (Event After : Type 0) (base size : ℕ) (takes : Event → Bool)
    (steps : List (LaneStep (Option Event × After))) → base < time_limit → AreTimely base steps
    → AllTaken takes steps → AreAdmitted (run_demands base size takes) []
    (calls_of (run_demands base size takes) run_asks steps)
runs_admitted Event After base size takes steps fits timely all =
    lane_admits (run_demands base size takes) run_asks steps fits timely
    (runs_ask_well Event After base size takes [] [] steps all)
