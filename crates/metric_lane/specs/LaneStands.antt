-- What a lane stands for, and what one more step does to it.
use Rattle.std.specs.Prelude.{◌≡◌, ℕ, ◌<◌, Bool, true, false, List, [], ◌∷◌, ◌++◌, Option}
use Rattle.bucket_meaning.specs.Limits.{time_limit}
use Rattle.bucket_meaning.specs.Ends.{Moment}
use Rattle.bucket_meaning.specs.Meaning.{report_by}
use Rattle.bucket_clock.specs.Clock.{Told, Saw, Cut}
use Rattle.metric_producer.specs.Calls.{Call, Took}
use Rattle.metric_producer.specs.Rules.{AreAdmitted}
use Rattle.metric_producer.specs.LaneCalls.{LaneStep, Logged, told_by, crossing, cutting, calls_of, event_asks, AreTimely}
use Rattle.metric_producer.specs.OpeningCalls.{AreOpening, calls_with, AskWell}
use Rattle.metric_producer.specs.declared.row.Row.{Row}
use Rattle.bucket_meaning.specs.Kept.{Taken}
use Rattle.metric_producer.specs.Collecting.{Law, demands_of, calls_mean}
use Rattle.metric_lane.specs.LaneClock.{HasClock, MayCross, MayCut}
use Rattle.metric_lane.specs.declared.lane.Lane.{Lane}

-- what a report tells a clock: the cut, if it asks for one
abbrev pub told_at : Bool → ℕ → List Told
told_at true at = Cut at ∷ []
told_at false at = []

module _ {P Params Event After X K C Value : Type 0} (law : Law P Params Event After X K C (Row Value)) where
  -- the clock was told this, and the producer got these calls
  pub record LaneHas (lane : Lane P Event After Value) (params : Params) (told : List Told)
      (calls : List (Call Event After)) : Type 0 where
    pub clock : HasClock lane.clock (demands_of law params).base (demands_of law params).size told
    pub producer : law.stands lane.producer params calls

  -- The lane of these steps: its clock was told of their frames and cuts, and its producer got their calls. A kind of
  -- metric says what it asks at a frame.
  abbrev pub LaneStandsFor : {News : Type 0}
      → (List (LaneStep News) → Moment → News → List (Call Event After))
      → Lane P Event After Value → Params → List (LaneStep News) → Type 0
  LaneStandsFor asks lane params steps =
      LaneHas lane params (told_by steps) (calls_of (demands_of law params) asks steps)

  -- The same of a lane whose producer got opening calls before the first step.
  abbrev pub OpenedStandsFor : {News : Type 0}
      → (List (LaneStep News) → Moment → News → List (Call Event After)) → List (Call Event After)
      → Lane P Event After Value → Params → List (LaneStep News) → Type 0
  OpenedStandsFor asks opening lane params steps =
      LaneHas lane params (told_by steps) (calls_with (demands_of law params) asks opening steps)

  -- whatever a lane had, a frame that may come adds itself for the clock, and what it crosses for the producer
  abbrev pub GetsFrame : Lane P Event After Value → Lane P Event After Value → Moment → Type 0
  GetsFrame old new moment =
      (params : Params) (told : List Told) (calls : List (Call Event After)) → LaneHas old params told calls
      → MayCross old.clock moment.at
      → let demands = demands_of law params in
      let crossed : List (Call Event After) = crossing demands.base demands.size told moment in
      AreAdmitted demands calls crossed → LaneHas new params (told ++ Saw moment ∷ []) (calls ++ crossed)

  -- whatever a lane had, calls that may come are added for the producer
  abbrev pub GetsCalls : Lane P Event After Value → Lane P Event After Value → List (Call Event After) → Type 0
  GetsCalls old new more =
      (params : Params) (told : List Told) (calls : List (Call Event After)) → LaneHas old params told calls
      → AreAdmitted (demands_of law params) calls more → LaneHas new params told (calls ++ more)

  -- the same of one call
  abbrev pub GetsCall : Lane P Event After Value → Lane P Event After Value → Call Event After → Type 0
  GetsCall old new call = GetsCalls old new (call ∷ [])

  -- whatever a lane had, a report that may come adds its cut, if it asks for one
  abbrev pub GetsCut : Lane P Event After Value → Lane P Event After Value → ℕ → Bool → Type 0
  GetsCut old new at include_current =
      (params : Params) (told : List Told) (calls : List (Call Event After)) → LaneHas old params told calls
      → MayCut old.clock at
      → let cut : List (Call Event After) = cutting (demands_of law params).size include_current at in
      AreAdmitted (demands_of law params) calls cut
      → LaneHas new params (told ++ told_at include_current at) (calls ++ cut)

  -- One more frame of the log with such news, for a kind that asks so, after any opening calls that may come: where
  -- times don't fall, and what is asked may come.
  abbrev pub LogsNews : {News : Type 0} → (List (LaneStep News) → Moment → News → List (Call Event After))
      → Lane P Event After Value → Lane P Event After Value → Moment → News → Type 0
  LogsNews {News} asks old new moment news =
      (params : Params) (opening : List (Call Event After)) (steps : List (LaneStep News))
      → AreOpening (demands_of law params) opening → OpenedStandsFor asks opening old params steps
      → let all : List (LaneStep News) = steps ++ Logged moment news ∷ [] in
      (demands_of law params).base < time_limit → AreTimely (demands_of law params).base all
      → AskWell (demands_of law params) asks opening [] all
      → OpenedStandsFor asks opening new params all

  -- the same of a lane of events alone
  abbrev pub LogsEvent : Lane P Event After Value → Lane P Event After Value → Moment → Option Event → Type 0
  LogsEvent old new moment event = LogsNews event_asks old new moment event

  -- whatever a lane had, a report that may come adds its cut and the taking, and hands out what the calls up to the
  -- cut mean
  abbrev pub GetsReport : Lane P Event After Value → Lane P Event After Value → ℕ → Bool → Taken (Row Value) → Type 0
  GetsReport old new at include_current closed =
      (params : Params) (told : List Told) (calls : List (Call Event After)) → LaneHas old params told calls
      → MayCut old.clock at
      → let cut : List (Call Event After) = cutting (demands_of law params).size include_current at in
      AreAdmitted (demands_of law params) calls (cut ++ (Took ∷ []))
      → LaneHas new params (told ++ told_at include_current at) (calls ++ (cut ++ (Took ∷ [])))
      × (closed ≡ report_by (calls_mean law.collecting) params (calls ++ cut))
