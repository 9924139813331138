-- A lane that was handed one frame for a run of frames that bring nothing has what the run brings.
use Rattle.std.proofs.Common.{◌≡◌, ℕ, suc, ◌+◌, ◌*◌, Bool, true, false, ◌||◌, List, [], ◌∷◌, ◌++◌, map, length, Option, Some, None, refl, sym, ap, subst, ◌∙◌, append_assoc, append-nil, length-append, arith, ◌<◌, ◌≤◌, ⊎_elim}
use Rattle.std.specs.List.{list_any, AllByRecursion}
use Rattle.std.proofs.lemmas.List.Folds.{list_any-append}
use Rattle.bucket_meaning.proofs.OutputsLemmas.{outputs-push}
use Rattle.bucket_meaning.specs.Outputs.{outputs_after}
use Rattle.bucket_meaning.specs.Ends.{Moment, crosses, ends_at}
use Rattle.bucket_meaning.proofs.EndsLemmas.{crosses-le}
use Rattle.bucket_clock.specs.declared.crossings.Crossings.{Crossings}
use Rattle.bucket_clock.specs.Sound.{Times}
use Rattle.bucket_clock.specs.Clock.{Told, Saw, Cut, moments_told, boundaries, boundaries_at, last_time}
use Rattle.bucket_clock.proofs.ClockLemmas.{moments_told-frame}
use Rattle.metric_producer.specs.Calls.{Call}
use Rattle.metric_producer.specs.Joining.{Joins}
use Rattle.metric_producer.specs.LaneCalls.{LaneStep, Logged, told_by, crossing, crossing_of}
use Rattle.metric_producer.specs.OpeningCalls.{calls_with}
use Rattle.metric_producer.specs.Collecting.{Law, demands_of}
use Rattle.metric_producer.specs.declared.row.Row.{Row}
use Rattle.metric_producer.proofs.LaneCallsLemmas.{calls_with-push}
use Rattle.metric_producer.proofs.LaneReach.{told_by-frame}
use Rattle.metric_lane.specs.LaneClock.{HasClock}
use Rattle.metric_lane.specs.LaneStands.{LaneHas}
use Rattle.metric_lane.specs.LaneJoining.{Covers, IsCoveredBy, StandsForRun, crossings_of, CatchesUp, TakesBefore}
use Rattle.metric_lane.specs.declared.lane.Lane.{Lane}
use Rattle.metric_lane.proofs.JoinedEnds.{AreApart, ends_apart, ends_joined, ends_none, go_on}

-- the last of more times
last_time-append : (first : ℕ) (times more : List ℕ)
    → last_time first (times ++ more) ≡ last_time (last_time first times) more
last_time-append first [] more = refl
last_time-append first (time ∷ times) more = last_time-append time times more

module _ {P Params Event After X K C R : Type 0} (law : Law P Params Event After X K C R) (joins : Joins law) where
  -- an object that has got the one crossing of two lists of ends has got that of the first, and that of the second
  crossings_join : (object : P) (params : Params) (calls : List (Call Event After)) (start size : ℕ)
      (ends more : List ℕ) → AreApart size (ends ++ more)
      → law.stands object params (calls ++ crossing_of start size (ends ++ more))
      → law.stands object params
      (calls ++ (crossing_of start size ends ++ crossing_of (last_time start ends) size more))
  crossings_join object params calls start size [] more apart stands = stands
  crossings_join object params calls start size (first ∷ ends) [] apart stands =
      subst (λ l. law.stands object params (calls ++ crossing_of start size (first ∷ l))) (append-nil ends) stands
  crossings_join object params calls start size (first ∷ ends) (next ∷ more) apart stands =
      let on = go_on apart.first size apart.number first ends next more (sym apart.are) in
      let one : Crossings =
      record { start = start; first_end = first; full_buckets = length ends; size = size } in
      let other : Crossings =
      record { start = last_time first ends; first_end = next; full_buckets = length more; size = size } in
      let whole : Crossings =
      record { start = start; first_end = first; full_buckets = length (ends ++ (next ∷ more)); size = size } in
      joins object params calls one other whole
      (record {
        follows = on.last;
        next_end = on.next_is;
        same_size = refl;
        start = refl;
        first_end = refl;
        size = refl;
        full_buckets = length-append ends (next ∷ more);
      }) stands

-- an end is crossed by one of these frames
abbrev any_crosses : List Moment → ℕ → Bool
any_crosses moments end = list_any (λ moment. crosses moment end) moments

-- a frame that a later one covers changes no end that is crossed
any_joined : (before : List Moment) (earlier later : Moment) (end : ℕ)
    → (crosses earlier end ≡ true → crosses later end ≡ true)
    → any_crosses (before ++ later ∷ []) end ≡ any_crosses (before ++ earlier ∷ later ∷ []) end
any_joined before earlier later end goes =
    list_any-append (λ m. crosses m end) before (later ∷ [])
    ∙ by (any_crosses before end) (crosses earlier end) (crosses later end) goes
    ∙ sym (list_any-append (λ m. crosses m end) before (earlier ∷ later ∷ []))
  where
    by : (b c d : Bool) → (c ≡ true → d ≡ true) → (b || (d || false)) ≡ (b || (c || (d || false)))
    by true c d goes = refl
    by false true d goes = ap (λ e. e || false) (goes refl)
    by false false d goes = refl

-- nor does one more that crosses nothing new
any_again : (before : List Moment) (moment : Moment) (end : ℕ)
    → (crosses moment end ≡ true → any_crosses before end ≡ true)
    → any_crosses (before ++ moment ∷ []) end ≡ any_crosses before end
any_again before moment end goes =
    list_any-append (λ m. crosses m end) before (moment ∷ [])
    ∙ by (any_crosses before end) (crosses moment end) goes
  where
    by : (b c : Bool) → (c ≡ true → b ≡ true) → (b || (c || false)) ≡ b
    by true c goes = refl
    by false true goes = sym (goes refl)
    by false false goes = refl

-- an end of a frame that one of these covers is crossed by that one
any_covers : (frames : List Moment) (moment : Moment) (end : ℕ) → IsCoveredBy frames moment
    → crosses moment end ≡ true → any_crosses frames end ≡ true
any_covers [] moment end covered is = absurd covered
any_covers (frame ∷ frames) moment end covered is = ⊎_elim
    (λ (covers : Covers moment frame). ap (λ b. b || any_crosses frames end) (covers.crosses_all end is))
    (λ (behind : IsCoveredBy frames moment).
    by (crosses frame end) (any_crosses frames end) (any_covers frames moment end behind is))
    covered
  where
    by : (b c : Bool) → c ≡ true → (b || c) ≡ true
    by true c is = refl
    by false c is = is

-- a frame that stands for a run crosses no end after the base that none of all these crosses
pub any_stands : (base : ℕ) (came run : List Moment) (moment : Moment) (end : ℕ) → StandsForRun base came run moment
    → base < end → crosses moment end ≡ true → any_crosses (came ++ run) end ≡ true
any_stands base came run moment end stands after is = ⊎_elim
    (λ (early : moment.at ≤ base).
    let within = crosses-le moment end is in absurd (omega (arith, after, early, within)))
    (λ (covered : IsCoveredBy (came ++ run) moment). any_covers (came ++ run) moment end covered is)
    stands.is_covered

-- a run's frames cross, one after the other, what a frame crosses that covers them all, but for what is left to it
joined_with : (base size : ℕ) (came run : List Moment) (moment : Moment)
    → AllByRecursion (λ frame. Covers frame moment) run
    → ends_at base size came moment
    ≡ outputs_after (ends_at base size) came run ++ ends_at base size (came ++ run) moment
joined_with base size came [] moment covers = ap (λ l. ends_at base size l moment) (sym (append-nil came))
joined_with base size came (frame ∷ run) moment covers =
    let first = ends_at base size came frame in
    let others = outputs_after (ends_at base size) (came ++ frame ∷ []) run in
    ends_joined base size came frame moment covers.0
    ∙ ap (λ l. first ++ l) (joined_with base size (came ++ frame ∷ []) run moment covers.1
    ∙ ap (λ l. others ++ ends_at base size l moment) (append_assoc came (frame ∷ []) run))
    ∙ sym (append_assoc first others (ends_at base size (came ++ (frame ∷ run)) moment))

-- For callers: a frame that stands for a run crosses just what the run's frames cross, one after the other.
pub joined_ends : (base size : ℕ) (came run : List Moment) (moment : Moment) → StandsForRun base came run moment
    → ends_at base size came moment ≡ outputs_after (ends_at base size) came run
joined_ends base size came run moment stands =
    let each = outputs_after (ends_at base size) came run in
    joined_with base size came run moment stands.covers_all
    ∙ ap (λ l. each ++ l)
    (ends_none base size (came ++ run) moment (λ end. any_stands base came run moment end stands))
    ∙ append-nil each

-- Two lists of what a clock with a base may be told make it stand alike.
record StandAlike (base : ℕ) (told others : List Told) : Type 0 where
  last : (size : ℕ) → last_time base (boundaries base size told) ≡ last_time base (boundaries base size others)
  crossed : (end : ℕ) → base < end → any_crosses (moments_told told) end ≡ any_crosses (moments_told others) end

-- a clock that was told the one has what one has that was told the other
clock_alike : (clock : Option Times) (base size : ℕ) (told others : List Told) → StandAlike base told others
    → HasClock clock base size told → HasClock clock base size others
clock_alike None base size told others alike has = has
clock_alike (Some clock) base size told others alike has =
    let next = has.stands.next_end in
    let sized : 0 < clock.size = subst (λ n. 0 < n) (sym has.size_is) has.sized in
    let here : StandAlike clock.base told others = subst (λ b. StandAlike b told others) (sym has.base_is) alike in
    record {
      base_is = has.base_is;
      size_is = has.size_is;
      sized = has.sized;
      stands = record {
        start = has.stands.start ∙ here.last clock.size;
        next_end = record {
          passed = next.passed;
          at = next.at;
          uncrossed = sym (here.crossed clock.next_end (omega (arith, next.at, sized))) ∙ next.uncrossed;
          crossed = λ i within.
              sym (here.crossed (clock.base + suc i * clock.size) (omega (arith, sized))) ∙ next.crossed i within;
        };
      };
    }

-- the last boundary with one more frame
last-frame : (base size : ℕ) (told : List Told) (moment : Moment)
    → last_time base (boundaries base size (told ++ Saw moment ∷ []))
    ≡ last_time (last_time base (boundaries base size told)) (ends_at base size (moments_told told) moment)
last-frame base size told moment =
    ap (last_time base) (outputs-push (boundaries_at base size) told (Saw moment))
    ∙ last_time-append base (boundaries base size told) (ends_at base size (moments_told told) moment)

-- a frame that was told crosses nothing after the base that wasn't crossed before
abbrev AddsNone : ℕ → List Told → Moment → Type 0
AddsNone base told moment =
    (end : ℕ) → base < end → crosses moment end ≡ true → any_crosses (moments_told told) end ≡ true

-- so a clock that wasn't told of it stands as one that was
again_alike : (base : ℕ) (told : List Told) (moment : Moment) → AddsNone base told moment
    → StandAlike base (told ++ Saw moment ∷ []) told
again_alike base told moment none = record {
  last = λ size.
      last-frame base size told moment
      ∙ ap (last_time (last_time base (boundaries base size told)))
      (ends_none base size (moments_told told) moment none);
  crossed = λ end after.
      ap (λ moments. any_crosses moments end) (moments_told-frame told moment)
      ∙ any_again (moments_told told) moment end (none end after);
}

-- the frames that were told, with a run
moments_told-run : (told : List Told) (run : List Moment)
    → moments_told (told ++ map Saw run) ≡ moments_told told ++ run
moments_told-run [] [] = refl
moments_told-run [] (frame ∷ run) = ap (λ l. frame ∷ l) (moments_told-run [] run)
moments_told-run (Saw first ∷ told) run = ap (λ l. first ∷ l) (moments_told-run told run)
moments_told-run (Cut at ∷ told) run = moments_told-run told run

-- a frame that stands for a run adds nothing after it
adds_none : (base : ℕ) (told : List Told) (run : List Moment) (moment : Moment)
    → StandsForRun base (moments_told told) run moment → AddsNone base (told ++ map Saw run) moment
adds_none base told run moment stands end after is =
    ap (λ moments. any_crosses moments end) (moments_told-run told run)
    ∙ any_stands base (moments_told told) run moment end stands after is

module _ (told : List Told) (earlier later : Moment) (covers : Covers earlier later) where
  -- two frames, as one after the other
  both_told : (told ++ Saw earlier ∷ []) ++ Saw later ∷ [] ≡ told ++ Saw earlier ∷ Saw later ∷ []
  both_told = append_assoc told (Saw earlier ∷ []) (Saw later ∷ [])

  both_moments : moments_told (told ++ Saw earlier ∷ Saw later ∷ []) ≡ moments_told told ++ earlier ∷ later ∷ []
  both_moments =
      ap moments_told (sym both_told) ∙ moments_told-frame (told ++ Saw earlier ∷ []) later
      ∙ ap (λ moments. moments ++ later ∷ []) (moments_told-frame told earlier)
      ∙ append_assoc (moments_told told) (earlier ∷ []) (later ∷ [])

  -- what the later one crosses after the earlier one
  later_ends : (base size : ℕ)
      → ends_at base size (moments_told (told ++ Saw earlier ∷ [])) later
      ≡ ends_at base size (moments_told told ++ earlier ∷ []) later
  later_ends base size = ap (λ moments. ends_at base size moments later) (moments_told-frame told earlier)

  -- a clock that was told of the later frame alone stands as one that was told of both
  before_alike : (base : ℕ) → StandAlike base (told ++ Saw later ∷ []) (told ++ Saw earlier ∷ Saw later ∷ [])
  before_alike base = record {
    last = λ size.
        let start = last_time base (boundaries base size told) in
        let seen = moments_told told in
        let first = ends_at base size seen earlier in
        last-frame base size told later
        ∙ ap (last_time start) (ends_joined base size seen earlier later covers)
        ∙ last_time-append start first (ends_at base size (seen ++ earlier ∷ []) later)
        ∙ ap (last_time (last_time start first)) (sym (later_ends base size))
        ∙ ap (λ from. last_time from (ends_at base size (moments_told (told ++ Saw earlier ∷ [])) later))
        (sym (last-frame base size told earlier))
        ∙ sym (last-frame base size (told ++ Saw earlier ∷ []) later)
        ∙ ap (λ all. last_time base (boundaries base size all)) both_told;
    crossed = λ end after.
        ap (λ moments. any_crosses moments end) (moments_told-frame told later)
        ∙ any_joined (moments_told told) earlier later end (covers.crosses_all end)
        ∙ ap (λ moments. any_crosses moments end) (sym both_moments);
  }

module _ {P Params Event After X K C Value : Type 0} (law : Law P Params Event After X K C (Row Value))
    (lane : Lane P Event After Value) (params : Params) where
  abbrev base : ℕ
  base = (demands_of law params).base

  abbrev size : ℕ
  size = (demands_of law params).size

  -- what a frame crosses after this was told
  abbrev crossed_at : List Told → Moment → List (Call Event After)
  crossed_at told moment = crossing base size told moment

  -- a frame that crosses nothing new may be left out
  lane_without : (told : List Told) (calls : List (Call Event After)) (moment : Moment) → AddsNone base told moment
      → LaneHas law lane params (told ++ Saw moment ∷ []) (calls ++ crossed_at told moment)
      → LaneHas law lane params told calls
  lane_without told calls moment none has = record {
    clock = clock_alike lane.clock base size (told ++ Saw moment ∷ []) told (again_alike base told moment none)
        has.clock;
    producer = subst (law.stands lane.producer params)
        (ap (λ ends. calls ++ crossing_of (last_time base (boundaries base size told)) size ends)
        (ends_none base size (moments_told told) moment none)
        ∙ append-nil calls)
        has.producer;
  }

  module _ (joins : Joins law) where
    -- a frame that a later one covers may come before it
    lane_before : (told : List Told) (calls : List (Call Event After)) (earlier later : Moment) → Covers earlier later
        → LaneHas law lane params (told ++ Saw later ∷ []) (calls ++ crossed_at told later)
        → LaneHas law lane params (told ++ Saw earlier ∷ Saw later ∷ [])
        (calls ++ (crossed_at told earlier ++ crossed_at (told ++ Saw earlier ∷ []) later))
    lane_before told calls earlier later covers has =
        let start = last_time base (boundaries base size told) in
        let seen = moments_told told in
        let first = ends_at base size seen earlier in
        let second = ends_at base size (seen ++ earlier ∷ []) later in
        let joined : ends_at base size seen later ≡ first ++ second = ends_joined base size seen earlier later covers in
        record {
          clock = clock_alike lane.clock base size (told ++ Saw later ∷ []) (told ++ Saw earlier ∷ Saw later ∷ [])
              (before_alike told earlier later covers base) has.clock;
          producer =
              subst (λ ends. law.stands lane.producer params
              (calls ++ (crossed_at told earlier
              ++ crossing_of (last_time base (boundaries base size (told ++ Saw earlier ∷ []))) size ends)))
              (sym (later_ends told earlier later covers base size))
              (subst (λ from. law.stands lane.producer params
              (calls ++ (crossed_at told earlier ++ crossing_of from size second)))
              (sym (last-frame base size told earlier))
              (crossings_join law joins lane.producer params calls start size first second
              (subst (AreApart size) joined (ends_apart base size seen later))
              (subst (λ ends. law.stands lane.producer params (calls ++ crossing_of start size ends)) joined
              has.producer)));
        }

    -- so may a run of frames that it covers
    lane_run : (moment : Moment) (run : List Moment) (told : List Told) (calls : List (Call Event After))
        → AllByRecursion (λ frame. Covers frame moment) run
        → LaneHas law lane params (told ++ Saw moment ∷ []) (calls ++ crossed_at told moment)
        → LaneHas law lane params ((told ++ map Saw run) ++ Saw moment ∷ [])
        ((calls ++ crossings_of base size told run) ++ crossed_at (told ++ map Saw run) moment)
    lane_run moment [] told calls all has =
        subst (λ t. LaneHas law lane params (t ++ Saw moment ∷ []) ((calls ++ []) ++ crossed_at t moment))
        (sym (append-nil told))
        (subst (λ l. LaneHas law lane params (told ++ Saw moment ∷ []) (l ++ crossed_at told moment))
        (sym (append-nil calls)) has)
    lane_run moment (frame ∷ run) told calls all has =
        let told_more = told ++ Saw frame ∷ [] in
        let two = lane_before told calls frame moment all.0 has in
        let next : LaneHas law lane params (told_more ++ Saw moment ∷ [])
        ((calls ++ crossed_at told frame) ++ crossed_at told_more moment) =
        subst (λ t. LaneHas law lane params t ((calls ++ crossed_at told frame) ++ crossed_at told_more moment))
        (sym (append_assoc told (Saw frame ∷ []) (Saw moment ∷ [])))
        (subst (LaneHas law lane params (told ++ Saw frame ∷ Saw moment ∷ []))
        (sym (append_assoc calls (crossed_at told frame) (crossed_at told_more moment))) two) in
        subst (λ t. LaneHas law lane params (t ++ Saw moment ∷ [])
        ((calls ++ crossings_of base size told (frame ∷ run)) ++ crossed_at t moment))
        (append_assoc told (Saw frame ∷ []) (map Saw run))
        (subst (λ l. LaneHas law lane params ((told_more ++ map Saw run) ++ Saw moment ∷ [])
        (l ++ crossed_at (told_more ++ map Saw run) moment))
        (append_assoc calls (crossed_at told frame) (crossings_of base size told_more run))
        (lane_run moment run told_more (calls ++ crossed_at told frame) all.1 next))

module _ {P Params Event After X K C Value : Type 0} (law : Law P Params Event After X K C (Row Value))
    (joins : Joins law) where
  -- the one frame that stands for a run brings what the run brings
  pub catches_up : CatchesUp law
  catches_up lane params told calls moment run stands has =
      let demands = demands_of law params in
      lane_without law lane params (told ++ map Saw run)
      (calls ++ crossings_of demands.base demands.size told run) moment
      (adds_none demands.base told run moment stands)
      (lane_run law lane params joins moment run told calls stands.covers_all has)

  module _ {News : Type 0} (asks : List (LaneStep News) → Moment → News → List (Call Event After))
      (opening : List (Call Event After)) where
    -- the calls with a frame more that asks nothing
    calls_more : (params : Params) (steps : List (LaneStep News)) (moment : Moment) (news : News)
        → asks steps moment news ≡ []
        → let demands = demands_of law params in
        calls_with demands asks opening steps ++ crossing demands.base demands.size (told_by steps) moment
        ≡ calls_with demands asks opening (steps ++ Logged moment news ∷ [])
    calls_more params steps moment news none =
        let demands = demands_of law params in
        let crossed : List (Call Event After) = crossing demands.base demands.size (told_by steps) moment in
        ap (λ l. calls_with demands asks opening steps ++ l)
        (sym (append-nil crossed) ∙ ap (λ l. crossed ++ l) (sym none))
        ∙ calls_with-push demands asks opening steps (Logged moment news)

    -- a frame that asks nothing may come before another that covers it
    pub takes_before : TakesBefore law asks opening
    takes_before lane params steps earlier later news next covers none none_next none_then has =
        let demands = demands_of law params in
        let told = told_by steps in
        let one : LaneStep News = Logged earlier news in
        let other : LaneStep News = Logged later next in
        let calls = calls_with demands asks opening steps in
        let crossed : List (Call Event After) = crossing demands.base demands.size told earlier in
        let then : List (Call Event After) =
        crossing demands.base demands.size (told ++ Saw earlier ∷ []) later in
        let alone : LaneHas law lane params (told ++ Saw later ∷ [])
        (calls ++ crossing demands.base demands.size told later) =
        subst (LaneHas law lane params (told ++ Saw later ∷ [])) (sym (calls_more params steps later next none_next))
        (subst (λ t. LaneHas law lane params t (calls_with demands asks opening (steps ++ other ∷ [])))
        (told_by-frame steps later next) has) in
        let both = lane_before law lane params joins told calls earlier later covers alone in
        let steps_are : (steps ++ one ∷ []) ++ other ∷ [] ≡ steps ++ one ∷ other ∷ [] =
        append_assoc steps (one ∷ []) (other ∷ []) in
        let told_are : told ++ Saw earlier ∷ Saw later ∷ [] ≡ told_by (steps ++ one ∷ other ∷ []) =
        sym (append_assoc told (Saw earlier ∷ []) (Saw later ∷ []))
        ∙ ap (λ t. t ++ Saw later ∷ []) (sym (told_by-frame steps earlier news))
        ∙ sym (told_by-frame (steps ++ one ∷ []) later next)
        ∙ ap told_by steps_are in
        let calls_are : calls ++ (crossed ++ then) ≡ calls_with demands asks opening (steps ++ one ∷ other ∷ []) =
        sym (append_assoc calls crossed then)
        ∙ ap (λ l. l ++ then) (calls_more params steps earlier news none)
        ∙ ap (λ t. calls_with demands asks opening (steps ++ one ∷ [])
        ++ crossing demands.base demands.size t later) (sym (told_by-frame steps earlier news))
        ∙ calls_more params (steps ++ one ∷ []) later next none_then
        ∙ ap (calls_with demands asks opening) steps_are in
        subst (λ t. LaneHas law lane params t (calls_with demands asks opening (steps ++ one ∷ other ∷ [])))
        told_are (subst (LaneHas law lane params (told ++ Saw earlier ∷ Saw later ∷ [])) calls_are both)
