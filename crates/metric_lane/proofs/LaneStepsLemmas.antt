-- What a lane stands for after one more step, for callers: for every kind of metric, by what it asks at a frame.
use Rattle.std.proofs.Common.{◌≡◌, ℕ, ◌<◌, ◌≤◌, Bool, true, false, List, [], ◌∷◌, ◌++◌, Option, Some, None, sym, ap, subst, ◌∙◌, append_assoc, append-nil, arith, suc, ◌+◌, ◌*◌, ⊎_elim}
use Rattle.std.specs.List.{list_any}
use Rattle.std.proofs.lemmas.Bool.{cases_lt, true≢false}
use Rattle.bucket_meaning.specs.Limits.{time_limit}
use Rattle.bucket_meaning.specs.Ends.{Moment, crosses}
use Rattle.bucket_meaning.specs.Meaning.{report_by}
use Rattle.bucket_clock.specs.Sound.{Times}
use Rattle.bucket_clock.specs.Clock.{Told, Saw, IsNextEnd, ClockStandsFor, moments_told}
use Rattle.metric_producer.specs.Calls.{Call, Demands, Standing, standing_of, clock_at}
use Rattle.metric_producer.specs.Rules.{AreAdmitted}
use Rattle.metric_producer.specs.LaneCalls.{coming, event_asks, LaneStep, Logged, Reported, told_by, crossing, cutting, calls_of, last_at, last_of, IsTimelyStep, AreTimely}
use Rattle.metric_producer.proofs.RuleLemmas.{admits-front, admits-back}
use Rattle.metric_producer.proofs.LaneReach.{told_by-frame, told_by-cut, told_by-report}
use Rattle.metric_producer.proofs.LaneCrossing.{IsAlong}
use Rattle.metric_producer.specs.OpeningCalls.{AreOpening, calls_with, AskWell}
use Rattle.metric_producer.proofs.LaneCallsLemmas.{calls_with-push}
use Rattle.metric_producer.proofs.OpeningLemmas.{all_along_opened, opened_step_admits}
use Rattle.metric_producer.specs.declared.row.Row.{Row}
use Rattle.bucket_meaning.specs.Kept.{Taken}
use Rattle.metric_producer.specs.Collecting.{Law, demands_of, calls_mean}
use Rattle.metric_lane.specs.LaneClock.{IsClockFor, HasClock, MayCross, MayCut}
use Rattle.metric_lane.specs.LaneStands.{LaneHas, LaneStandsFor, OpenedStandsFor, GetsFrame, GetsCalls, GetsReport, LogsNews, LogsEvent, told_at}
use Rattle.metric_lane.specs.declared.lane.Lane.{Lane}

-- what one more frame tells the clock
told_by-step : {News : Type 0} (steps : List (LaneStep News)) (at : ℕ) (include_current : Bool)
    → told_by (steps ++ Reported at include_current ∷ []) ≡ told_by steps ++ told_at include_current at
told_by-step steps at true = told_by-cut steps at
told_by-step steps at false = told_by-report steps at ∙ sym (append-nil (told_by steps))

-- there is one next full end
not_passed : (base size : ℕ) (before : List Moment) (end other : ℕ) (one : IsNextEnd base size before end)
    (another : IsNextEnd base size before other) → one.passed < another.passed → ⊥
not_passed base size before end other one another less =
    true≢false (sym (another.crossed one.passed less)
    ∙ subst (λ e. list_any (λ moment. crosses moment e) before ≡ false) one.at one.uncrossed)

-- two next full ends of the same frames are the same
one_next_end : (base size : ℕ) (before : List Moment) (end other : ℕ) → IsNextEnd base size before end
    → IsNextEnd base size before other → end ≡ other
one_next_end base size before end other one another =
    let same : one.passed ≡ another.passed = ⊎_elim
    (λ (less : one.passed < another.passed). absurd (not_passed base size before end other one another less))
    (λ (not_less : another.passed ≤ one.passed). ⊎_elim
    (λ (more : another.passed < one.passed). absurd (not_passed base size before other end another one more))
    (λ (not_more : one.passed ≤ another.passed). omega (arith, not_less, not_more))
    (cases_lt another.passed one.passed))
    (cases_lt one.passed another.passed) in
    one.at ∙ ap (λ passed. base + suc passed * size) same ∙ sym another.at

module _ {Event After : Type 0} (demands : Demands Event After) where
  -- the clock of a lane has the start and the full end of what its calls come to
  record IsSameAs (clock : Times) (standing : Standing) : Type 0 where
    start : clock.start ≡ standing.start
    next_end : clock.next_end ≡ standing.next_end

  -- two clocks that were told the same stand alike
  same_as : (clock : Times) (standing : Standing) (told : List Told)
      → IsClockFor clock demands.base demands.size told → ClockStandsFor (clock_at demands standing) told
      → IsSameAs clock standing
  same_as clock standing told has there =
      let here : ClockStandsFor (record clock { base = demands.base; size = demands.size }) told =
      subst (λ base. ClockStandsFor (record clock { base = base; size = demands.size }) told) has.base_is
      (subst (λ size. ClockStandsFor
      (record clock { base = clock.base; size = size }) told) has.size_is has.stands) in
      record {
        start = here.start ∙ sym there.start;
        next_end = one_next_end demands.base demands.size (moments_told told) clock.next_end standing.next_end
            here.next_end there.next_end;
      }

  module _ {News : Type 0} (steps : List (LaneStep News)) (last : ℕ) (standing : Standing)
      (along : IsAlong demands steps last standing) where
    -- a frame that isn't before the last one may cross
    pub may_cross : (clock : Option Times) (at : ℕ) → HasClock clock demands.base demands.size (told_by steps)
        → last ≤ at
        → at < time_limit → MayCross clock at
    may_cross None at has later fits = tt
    may_cross (Some clock) at has later fits =
        let same = same_as clock standing (told_by steps) has (along.stands has.sized) in
        (omega (arith, same.start, along.from_start, later), fits)

    -- a report at the time of the last frame may cut
    may_cut : (clock : Option Times) → HasClock clock demands.base demands.size (told_by steps) → MayCut clock last
    may_cut None has = tt
    may_cut (Some clock) has =
        let same = same_as clock standing (told_by steps) has (along.stands has.sized) in (
          omega (arith, same.start, along.from_start),
          omega (arith, same.next_end, along.in_bucket has.sized),
          along.fits,
        )

-- the last of timely steps comes in time
last_step : {News : Type 0} (last : ℕ) (steps : List (LaneStep News)) (step : LaneStep News)
    → AreTimely last (steps ++ step ∷ []) → AreTimely last steps × IsTimelyStep (last_of last steps) step
last_step last [] step timely = (tt, timely.0)
last_step last (first ∷ steps) step timely =
    let rest = last_step (last_at last first) steps step timely.1 in ((timely.0, rest.0), rest.1)

-- what a kind asks is well at the steps before the last
asks_before : {News Event After : Type 0} (demands : Demands Event After)
    (asks : List (LaneStep News) → Moment → News → List (Call Event After)) (opening : List (Call Event After))
    (before steps : List (LaneStep News)) (step : LaneStep News)
    → AskWell demands asks opening before (steps ++ step ∷ []) → AskWell demands asks opening before steps
asks_before demands asks opening before [] step well = tt
asks_before demands asks opening before (Logged moment news ∷ steps) step well =
    (well.0, asks_before demands asks opening (before ++ Logged moment news ∷ []) steps step well.1)
asks_before demands asks opening before (Reported at include_current ∷ steps) step well =
    asks_before demands asks opening (before ++ Reported at include_current ∷ []) steps step well

module _ {P Params Event After X K C Value : Type 0} (law : Law P Params Event After X K C (Row Value)) where
  module _ {News : Type 0} (asks : List (LaneStep News) → Moment → News → List (Call Event After)) (params : Params)
      (steps : List (LaneStep News)) (fits : (demands_of law params).base < time_limit) where
    module _ (opening : List (Call Event After)) (opens : AreOpening (demands_of law params) opening) where
      -- what one more frame of a lane that was opened crosses, and that what the kind asks may come then
      pub opened_crosses : (old middle : Lane P Event After Value) (moment : Moment) (news : News)
          → GetsFrame law old middle moment → OpenedStandsFor law asks opening old params steps
          → AreTimely (demands_of law params).base (steps ++ Logged moment news ∷ [])
          → AskWell (demands_of law params) asks opening [] (steps ++ Logged moment news ∷ [])
          → let demands = demands_of law params in
          let before : List (Call Event After) = calls_with demands asks opening steps
          ++ crossing demands.base demands.size (told_by steps) moment in
          LaneHas law middle params (told_by steps ++ Saw moment ∷ []) before
          × AreAdmitted demands before (asks steps moment news)
      opened_crosses old middle moment news crosses has timely well =
          let step : LaneStep News = Logged moment news in
          let base = (demands_of law params).base in
          let in_time = last_step base steps step timely in
          let well_before = asks_before (demands_of law params) asks opening [] steps step well in
          let along = all_along_opened (demands_of law params) fits opening opens asks steps in_time.0 well_before in
          let before = calls_with (demands_of law params) asks opening steps in
          let crossed : List (Call Event After) = crossing base (demands_of law params).size (told_by steps) moment in
          let own = asks steps moment news in
          let admitted = opened_step_admits (demands_of law params) fits opening opens asks steps step timely well in
          let may = may_cross (demands_of law params) steps (last_of base steps)
          (standing_of (demands_of law params) before) along old.clock moment.at has.clock in_time.1.0 in_time.1.1 in (
            crosses params (told_by steps) before has may
                (admits-front (demands_of law params) before crossed own admitted),
            admits-back (demands_of law params) before crossed own admitted,
          )

      -- one more frame of a lane that was opened: what it crosses, and then what the kind asks
      pub opened_logs : (old middle new : Lane P Event After Value) (moment : Moment) (news : News)
          → GetsFrame law old middle moment → GetsCalls law middle new (asks steps moment news)
          → OpenedStandsFor law asks opening old params steps
          → AreTimely (demands_of law params).base (steps ++ Logged moment news ∷ [])
          → AskWell (demands_of law params) asks opening [] (steps ++ Logged moment news ∷ [])
          → OpenedStandsFor law asks opening new params (steps ++ Logged moment news ∷ [])
      opened_logs old middle new moment news crosses tells has timely well =
          let step : LaneStep News = Logged moment news in
          let base = (demands_of law params).base in
          let before = calls_with (demands_of law params) asks opening steps in
          let crossed : List (Call Event After) = crossing base (demands_of law params).size (told_by steps) moment in
          let own = asks steps moment news in
          let both = opened_crosses old middle moment news crosses has timely well in
          let new_has = tells params (told_by steps ++ Saw moment ∷ []) (before ++ crossed) both.0 both.1 in
          subst (λ told. LaneHas law new params told
          (calls_with (demands_of law params) asks opening (steps ++ step ∷ [])))
          (sym (told_by-frame steps moment news))
          (subst (LaneHas law new params (told_by steps ++ Saw moment ∷ []))
          (append_assoc before crossed own ∙ calls_with-push (demands_of law params) asks opening steps step) new_has)

      -- one more report of a lane that was opened: the cut, and then what is kept
      pub opened_reports : (old new : Lane P Event After Value) (at : ℕ) (include_current : Bool)
          (closed : Taken (Row Value))
          → GetsReport law old new at include_current closed
          → OpenedStandsFor law asks opening old params steps
          → AreTimely (demands_of law params).base (steps ++ Reported at include_current ∷ [])
          → AskWell (demands_of law params) asks opening [] (steps ++ Reported at include_current ∷ [])
          → OpenedStandsFor law asks opening new params (steps ++ Reported at include_current ∷ [])
          × (closed ≡ report_by (calls_mean law.collecting) params
          (calls_with (demands_of law params) asks opening steps
          ++ cutting (demands_of law params).size include_current at))
      opened_reports old new at include_current closed reports has timely well =
          let step : LaneStep News = Reported at include_current in
          let base = (demands_of law params).base in
          let in_time = last_step base steps step timely in
          let well_before = asks_before (demands_of law params) asks opening [] steps step well in
          let along = all_along_opened (demands_of law params) fits opening opens asks steps in_time.0 well_before in
          let before = calls_with (demands_of law params) asks opening steps in
          let admitted = opened_step_admits (demands_of law params) fits opening opens asks steps step timely well in
          let may = subst (MayCut old.clock) (sym in_time.1)
          (may_cut (demands_of law params) steps (last_of base steps) (standing_of (demands_of law params) before) along
          old.clock has.clock) in
          let both = reports params (told_by steps) before has may admitted in (
            subst (λ told. LaneHas law new params told
                (calls_with (demands_of law params) asks opening (steps ++ step ∷ [])))
                (sym (told_by-step steps at include_current))
                (subst (LaneHas law new params (told_by steps ++ told_at include_current at))
                (calls_with-push (demands_of law params) asks opening steps step) both.0),
            both.1,
          )

    -- one more frame of a lane without opening calls
    pub lane_logs : (old middle new : Lane P Event After Value) (moment : Moment) (news : News)
        → GetsFrame law old middle moment → GetsCalls law middle new (asks steps moment news)
        → LaneStandsFor law asks old params steps
        → AreTimely (demands_of law params).base (steps ++ Logged moment news ∷ [])
        → AskWell (demands_of law params) asks [] [] (steps ++ Logged moment news ∷ [])
        → LaneStandsFor law asks new params (steps ++ Logged moment news ∷ [])
    lane_logs = opened_logs [] (tt, tt)

    -- one more report of such a lane
    pub lane_reports : (old new : Lane P Event After Value) (at : ℕ) (include_current : Bool)
        (closed : Taken (Row Value))
        → GetsReport law old new at include_current closed
        → LaneStandsFor law asks old params steps
        → AreTimely (demands_of law params).base (steps ++ Reported at include_current ∷ [])
        → AskWell (demands_of law params) asks [] [] (steps ++ Reported at include_current ∷ [])
        → LaneStandsFor law asks new params (steps ++ Reported at include_current ∷ [])
        × (closed ≡ report_by (calls_mean law.collecting) params
        (calls_of (demands_of law params) asks steps ++ cutting (demands_of law params).size include_current at))
    lane_reports = opened_reports [] (tt, tt)

  -- one more frame of a lane, for a kind that asks the same whatever the steps before
  pub news_logs : {News : Type 0} (asks : List (LaneStep News) → Moment → News → List (Call Event After))
      (old middle new : Lane P Event After Value) (moment : Moment) (news : News)
      → GetsFrame law old middle moment
      → ((steps : List (LaneStep News)) → GetsCalls law middle new (asks steps moment news))
      → LogsNews law asks old new moment news
  news_logs asks old middle new moment news crosses tells params opening steps opens has fits timely well =
      opened_logs asks params steps fits opening opens old middle new moment news crosses (tells steps) has timely well

  -- one more frame of a lane of events
  pub event_logs : (old middle new : Lane P Event After Value) (moment : Moment) (event : Option Event)
      → GetsFrame law old middle moment → GetsCalls law middle new (coming moment.at event)
      → LogsEvent law old new moment event
  event_logs old middle new moment event crosses tells =
      news_logs event_asks old middle new moment event crosses (λ steps. tells)
