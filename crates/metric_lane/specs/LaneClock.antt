-- The clock of a lane, and what frames and cuts do to it. A metric without buckets has none.
use Rattle.std.specs.Prelude.{◌≡◌, ℕ, ◌<◌, ◌≤◌, Bool, true, false, List, [], ◌∷◌, length, Option, Some, None}
use Rattle.bucket_meaning.specs.Limits.{time_limit}
use Rattle.bucket_meaning.specs.Ends.{Moment, ends_at}
use Rattle.bucket_clock.specs.declared.crossings.Crossings.{Crossings}
use Rattle.bucket_clock.specs.Sound.{Times, IsSound}
use Rattle.bucket_clock.specs.Clock.{Told, Saw, Cut, moments_told, ends_of, Answers, ClockStandsFor, TakesCall}

-- a clock with this base and this size that was told this
pub record IsClockFor (clock : Times) (base size : ℕ) (told : List Told) : Type 0 where
  pub base_is : clock.base ≡ base
  pub size_is : clock.size ≡ size
  pub sized : 0 < size
  pub stands : ClockStandsFor clock told

-- the clock of a lane that was told this, or none where there are no buckets
abbrev pub HasClock : Option Times → ℕ → ℕ → List Told → Type 0
HasClock None base size told = size ≡ 0
HasClock (Some clock) base size told = IsClockFor clock base size told

-- a lane's clock at its beginning
abbrev pub IsNewClock : ℕ → ℕ → Option Times → Type 0
IsNewClock base size clock = HasClock clock base size []

-- a frame may come at this time
abbrev pub MayCross : Option Times → ℕ → Type 0
MayCross None at = Unit {0}
MayCross (Some clock) at = (clock.start ≤ at) × (at < time_limit)

-- a report may come at this time: it lies in the open part
abbrev pub MayCut : Option Times → ℕ → Type 0
MayCut None at = Unit {0}
MayCut (Some clock) at = (clock.start ≤ at) × (at ≤ clock.next_end) × (at < time_limit)

-- the clock answered a frame, and was told of it
abbrev pub ClockAnswers : Times → Option Times → Moment → Option Crossings → Type 0
ClockAnswers old None moment answer = ⊥
ClockAnswers old (Some new) moment answer = Answers old moment answer new
    × TakesCall old new (Saw moment) (ends_of answer)

-- a frame that may come makes the clock answer, if there is one
abbrev pub ClockCrosses : Option Times → Option Times → Moment → Option Crossings → Type 0
ClockCrosses None new moment answer = (new ≡ None) × (answer ≡ None)
ClockCrosses (Some old) new moment answer = MayCross (Some old) moment.at → ClockAnswers old new moment answer

-- this is how many full ends a frame crosses that may come, whatever the lane's clock was told
abbrev pub CountsEnds : Option Times → Moment → ℕ → Type 0
CountsEnds clock moment n =
    (base size : ℕ) (told : List Told) → HasClock clock base size told → MayCross clock moment.at
    → n ≡ length (ends_at base size (moments_told told) moment)

-- the clock was cut
abbrev pub ClockIsCut : Times → Option Times → ℕ → Bool → Type 0
ClockIsCut old new at false = ⊥
ClockIsCut old new at true = (new ≡ Some (record old { start = at }))
    × TakesCall old (record old { start = at }) (Cut at) (at ∷ [])

-- a report that may come cuts the clock, if there is one
abbrev pub ClockCuts : Option Times → Option Times → ℕ → Bool → Type 0
ClockCuts None new at was_cut = (new ≡ None) × (was_cut ≡ false)
ClockCuts (Some old) new at was_cut = MayCut (Some old) at → ClockIsCut old new at was_cut

-- a clock whose next end doesn't come before a time
pub record EndsNoSooner (clock : Times) (time : ℕ) : Type 0 where
  pub sound : IsSound clock.base clock.size clock.start clock.next_end
  pub later : time ≤ clock.next_end

-- no bucket ends before this time; without buckets none does, and nothing is said of 0
abbrev pub NoEndBefore : ℕ → Option Times → Type 0
NoEndBefore time None = Unit {0}
NoEndBefore time (Some clock) = 0 < time → EndsNoSooner clock time
