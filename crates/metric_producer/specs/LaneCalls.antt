-- The calls that a metric's steps make of its producer.
use Rattle.std.specs.Prelude.{◌≡◌, ℕ, ◌<◌, ◌≤◌, Bool, true, false, List, [], ◌∷◌, ◌++◌, length, Option, Some, None, if◌then◌else◌, nat_lt}
use Rattle.sd_base.specs.Outputs.{outputs}
use Rattle.bucket_meaning.specs.Limits.{time_limit}
use Rattle.bucket_meaning.specs.Ends.{Moment}
use Rattle.bucket_clock.specs.declared.crossings.Crossings.{Crossings}
use Rattle.bucket_clock.specs.Clock.{Told, Saw, Cut, boundaries, boundaries_at, last_time, frame_at, last_end}
use Rattle.metric_producer.specs.Calls.{Call, Got, Learned, Crossed, CutAt, Took, Demands}

-- One step, as a lane sees it: a frame of the log with what it brings to the metric, or a report.
pub data LaneStep (News : Type 0) : Type 0 where
  Logged : (moment : Moment) → (news : News) → LaneStep News
  Reported : (at : ℕ) → (include_current : Bool) → LaneStep News

-- what the lane's clock is told by the steps
abbrev pub told_by : {News : Type 0} → List (LaneStep News) → List Told
told_by [] = []
told_by (Logged moment news ∷ steps) = Saw moment ∷ told_by steps
told_by (Reported at true ∷ steps) = Cut at ∷ told_by steps
told_by (Reported at false ∷ steps) = told_by steps

-- the one call for these ends, or none where there are none
abbrev pub crossing_of : {Event After : Type 0} → ℕ → ℕ → List ℕ → List (Call Event After)
crossing_of start size [] = []
crossing_of start size (first ∷ others) =
    Crossed (record { start = start; first_end = first; full_buckets = length others; size = size }) ∷ []

-- the call for the ends that a frame crosses
abbrev pub crossing : {Event After : Type 0} → ℕ → ℕ → List Told → Moment → List (Call Event After)
crossing base size told moment =
    crossing_of (last_time base (boundaries base size told)) size (boundaries_at base size told (Saw moment))

-- the call for a cut, if the report asks for one; without buckets there is none
abbrev pub cutting : {Event After : Type 0} → ℕ → Bool → ℕ → List (Call Event After)
cutting size true at = if nat_lt 0 size then CutAt at ∷ [] else []
cutting size false at = []

module _ {News Event After : Type 0} (demands : Demands Event After)
    (asks : List (LaneStep News) → Moment → News → List (Call Event After)) where
  -- The calls of one step. A kind of metric says what it asks of its producer at a frame; all else is the same for
  -- each.
  abbrev pub calls_at : List (LaneStep News) → LaneStep News → List (Call Event After)
  calls_at before (Logged moment news) =
      crossing demands.base demands.size (told_by before) moment ++ asks before moment news
  calls_at before (Reported at include_current) = cutting demands.size include_current at ++ (Took ∷ [])

  -- the calls of all steps
  abbrev pub calls_of : List (LaneStep News) → List (Call Event After)
  calls_of steps = outputs calls_at steps

-- a step may come after the time of the last frame: frames' times don't fall, and a report is made at the time of the
-- last frame
abbrev pub IsTimelyStep : {News : Type 0} → ℕ → LaneStep News → Type 0
IsTimelyStep last (Logged moment news) = (last ≤ moment.at) × (moment.at < time_limit)
IsTimelyStep last (Reported at include_current) = at ≡ last

-- the time of the last frame, after one more step
abbrev pub last_at : {News : Type 0} → ℕ → LaneStep News → ℕ
last_at last (Logged moment news) = moment.at
last_at last (Reported at include_current) = last

-- each step may come where it comes
abbrev pub AreTimely : {News : Type 0} → ℕ → List (LaneStep News) → Type 0
AreTimely last [] = Unit {0}
AreTimely last (step ∷ steps) = IsTimelyStep last step × AreTimely (last_at last step) steps

-- the time of the last frame, after these steps
abbrev pub last_of : {News : Type 0} → ℕ → List (LaneStep News) → ℕ
last_of last [] = last
last_of last (step ∷ steps) = last_of (last_at last step) steps

module _ {Event After : Type 0} (demands : Demands Event After) where
  -- a condition is told next
  abbrev pub TellsNext : List (Call Event After) → Type 0
  TellsNext (Learned at now ∷ calls) = Unit {0}
  TellsNext _ = ⊥

  -- a condition is told next, if it has to be
  abbrev pub IsFollowed : Bool → List (Call Event After) → Type 0
  IsFollowed true calls = TellsNext calls
  IsFollowed false calls = Unit {0}

  -- what a kind may ask at a frame: events that the producer takes and conditions, all at the frame's time, and each
  -- event followed by its condition where that has to be
  abbrev pub AreAskedAt : ℕ → List (Call Event After) → Type 0
  AreAskedAt time [] = Unit {0}
  AreAskedAt time (Got at event ∷ calls) =
      (at ≡ time) × (demands.takes event ≡ true) × IsFollowed demands.is_paired calls × AreAskedAt time calls
  AreAskedAt time (Learned at now ∷ calls) = (at ≡ time) × AreAskedAt time calls
  AreAskedAt time _ = ⊥

-- the event, if one comes
abbrev pub coming : {Event After : Type 0} → ℕ → Option Event → List (Call Event After)
coming at None = []
coming at (Some event) = Got at event ∷ []

-- a lane that gets events alone asks one thing: the event, if one arrives
abbrev pub event_asks : {Event After : Type 0} → List (LaneStep (Option Event)) → Moment → Option Event
    → List (Call Event After)
event_asks before moment event = coming moment.at event

-- what a producer of events alone demands: it takes every event
abbrev pub event_demands : {Event After : Type 0} → ℕ → ℕ → Demands Event After
event_demands base size = record {
  base = base;
  size = size;
  is_paired = false;
  takes = λ event. true;
  tells = λ calls now. true;
}

-- a lane of runs tells the condition at each frame, after the event if one comes
abbrev pub run_asks : {Event After : Type 0} → List (LaneStep (Option Event × After)) → Moment → Option Event × After
    → List (Call Event After)
run_asks before moment news = coming moment.at news.0 ++ (Learned moment.at news.1 ∷ [])

-- what a producer of runs demands: the condition after each event, and events that pass a test
abbrev pub run_demands : {Event After : Type 0} → ℕ → ℕ → (Event → Bool) → Demands Event After
run_demands base size takes = record {
  base = base;
  size = size;
  is_paired = true;
  takes = takes;
  tells = λ calls now. true;
}

-- all events of these steps pass the test
abbrev pub AllTaken : {Event After : Type 0} → (Event → Bool) → List (LaneStep (Option Event × After)) → Type 0
AllTaken takes [] = Unit {0}
AllTaken takes (Logged moment (None, now) ∷ steps) = AllTaken takes steps
AllTaken takes (Logged moment (Some event, now) ∷ steps) = (takes event ≡ true) × AllTaken takes steps
AllTaken takes (Reported at include_current ∷ steps) = AllTaken takes steps

-- what a clock was told, as a producer's calls show it: a frame at the last end that was crossed, and each cut
abbrev pub told_of : {Event After : Type 0} → List (Call Event After) → List Told
told_of [] = []
told_of (Got at event ∷ calls) = told_of calls
told_of (Learned at now ∷ calls) = told_of calls
told_of (Crossed crossings ∷ calls) = Saw (frame_at (last_end crossings) false) ∷ told_of calls
told_of (CutAt at ∷ calls) = Cut at ∷ told_of calls
told_of (Took ∷ calls) = told_of calls

-- the call that hands on what a clock answered
abbrev pub handed_on : {Event After : Type 0} → Option Crossings → List (Call Event After)
handed_on None = []
handed_on (Some crossings) = Crossed crossings ∷ []
