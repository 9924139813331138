-- A run of frames that bring a metric nothing, and the one frame that stands for all.
use Rattle.std.specs.Prelude.{◌≡◌, ◌⊎◌, ℕ, ◌<◌, ◌≤◌, true, ◌||◌, not, nat_lt, if◌then◌else◌, List, [], ◌∷◌, ◌++◌, map}
use Rattle.std.specs.List.{AllByRecursion}
use Rattle.bucket_meaning.specs.Limits.{time_limit}
use Rattle.bucket_meaning.specs.Ends.{Moment, crosses}
use Rattle.bucket_clock.specs.Clock.{Told, Saw, moments_told}
use Rattle.metric_producer.specs.Calls.{Call}
use Rattle.metric_producer.specs.LaneCalls.{LaneStep, Logged, told_by, crossing, AreTimely, last_of}
use Rattle.metric_producer.specs.OpeningCalls.{AreOpening, AskWell}
use Rattle.metric_producer.specs.Collecting.{Law, demands_of}
use Rattle.metric_producer.specs.declared.row.Row.{Row}
use Rattle.metric_lane.specs.LaneStands.{LaneHas, OpenedStandsFor}
use Rattle.metric_lane.specs.declared.lane.Lane.{Lane}

-- A frame covers another: it doesn't come before it, and crosses each end that the other one crosses. Of two at the
-- same time one that is no pull covers the other, and a pull covers a pull alone, since it leaves the end at its
-- own time.
pub record Covers (covered frame : Moment) : Type 0 where
  pub not_sooner : covered.at ≤ frame.at
  pub crosses_all : (end : ℕ) → crosses covered end ≡ true → crosses frame end ≡ true

-- a frame is covered by one of these
abbrev pub IsCoveredBy : List Moment → Moment → Type 0
IsCoveredBy [] moment = ⊥
IsCoveredBy (frame ∷ frames) moment = Covers moment frame ⊎ IsCoveredBy frames moment

-- One frame stands for a run that comes after others: it covers each frame of the run, and crosses no full end but what
-- all these cross, since one of them covers it or it isn't after the base of the buckets.
pub record StandsForRun (base : ℕ) (came run : List Moment) (moment : Moment) : Type 0 where
  pub covers_all : AllByRecursion (λ frame. Covers frame moment) run
  pub is_covered : (moment.at ≤ base) ⊎ IsCoveredBy (came ++ run) moment

-- the frame that stands for a run with one more, where times don't fall: the last one, unless it is a pull at the time
-- of the frame that stood for the run
abbrev pub with_frame : Moment → Moment → Moment
with_frame moment next = if nat_lt moment.at next.at || not next.is_pull then next else moment

-- the calls for the ends that the frames of a run cross, one after the other
abbrev pub crossings_of : {Event After : Type 0} → ℕ → ℕ → List Told → List Moment → List (Call Event After)
crossings_of base size told [] = []
crossings_of base size told (moment ∷ run) =
    crossing base size told moment ++ crossings_of base size (told ++ Saw moment ∷ []) run

-- frames with what they bring, as steps of a lane
abbrev pub steps_of_run : {News : Type 0} → List (Moment × News) → List (LaneStep News)
steps_of_run run = map (λ frame. Logged frame.0 frame.1) run

-- the same frames as moments
abbrev pub moments_of : {News : Type 0} → List (Moment × News) → List Moment
moments_of run = map (λ frame. frame.0) run

-- each of these frames asks nothing where it comes, after these steps
abbrev pub AskNone : {News Event After : Type 0} → (List (LaneStep News) → Moment → News → List (Call Event After))
    → List (LaneStep News) → List (Moment × News) → Type 0
AskNone asks before [] = Unit {0}
AskNone asks before (frame ∷ run) =
    (asks before frame.0 frame.1 ≡ []) × AskNone asks (before ++ Logged frame.0 frame.1 ∷ []) run

module _ {P Params Event After X K C Value : Type 0} (law : Law P Params Event After X K C (Row Value)) where
  -- whatever a lane had when the one frame came that stands for a run, it has as well what the run brings
  abbrev pub CatchesUp : Type 0
  CatchesUp =
      (lane : Lane P Event After Value) (params : Params) (told : List Told) (calls : List (Call Event After))
      (moment : Moment) (run : List Moment)
      → let base = (demands_of law params).base in
      StandsForRun base (moments_told told) run moment
      → let size = (demands_of law params).size in
      let once : List (Call Event After) = crossing base size told moment in
      let each : List (Call Event After) = crossings_of base size told run in
      LaneHas law lane params (told ++ Saw moment ∷ []) (calls ++ once)
      → LaneHas law lane params (told ++ map Saw run) (calls ++ each)

  module _ {News : Type 0} (asks : List (LaneStep News) → Moment → News → List (Call Event After))
      (opening : List (Call Event After)) where
    -- a lane of these steps and a frame more, which asks nothing, is one with another such frame before that, which it
    -- covers
    abbrev pub TakesBefore : Type 0
    TakesBefore =
        (lane : Lane P Event After Value) (params : Params) (steps : List (LaneStep News)) (earlier later : Moment)
        (news next : News) → Covers earlier later
        → asks steps earlier news ≡ [] → asks steps later next ≡ []
        → asks (steps ++ Logged earlier news ∷ []) later next ≡ []
        → OpenedStandsFor law asks opening lane params (steps ++ Logged later next ∷ [])
        → OpenedStandsFor law asks opening lane params (steps ++ Logged earlier news ∷ Logged later next ∷ [])

  -- A run of frames more, of which each asks nothing, whatever opening calls and steps there were: where times don't
  -- fall, and this one frame stands for the run and comes in time after the steps.
  abbrev pub LogsRun : {News : Type 0} → (List (LaneStep News) → Moment → News → List (Call Event After))
      → Lane P Event After Value → Lane P Event After Value → Moment → Type 0
  LogsRun {News} asks old new moment =
      (params : Params) (opening : List (Call Event After)) (steps : List (LaneStep News)) (run : List (Moment × News))
      → AreOpening (demands_of law params) opening → OpenedStandsFor law asks opening old params steps
      → StandsForRun (demands_of law params).base (moments_told (told_by steps)) (moments_of run) moment
      → last_of (demands_of law params).base steps ≤ moment.at → moment.at < time_limit → AskNone asks steps run
      → (demands_of law params).base < time_limit → AreTimely (demands_of law params).base (steps ++ steps_of_run run)
      → AskWell (demands_of law params) asks opening [] steps
      → OpenedStandsFor law asks opening new params (steps ++ steps_of_run run)
