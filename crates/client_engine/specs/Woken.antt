-- The metrics of a configuration while a frame comes to those that it wakes, and when the next bucket of theirs ends.
-- For private clauses.
use Rattle.std.specs.Prelude.{◌≡◌, ℕ, ◌+◌, ◌≤◌, ◌<◌, Bool, true, false, List, [], ◌∷◌, length, map, get_or, All, Option, if◌then◌else◌}
use Rattle.atom_record.specs.declared.log.LogFrame.{LogFrame}
use Rattle.bucket_clock.specs.Sound.{Times}
use Rattle.config_links.specs.declared.linked.LMetric.{LMetric}
use Rattle.metric_lane.specs.LaneClock.{NoEndBefore}
use Rattle.metric_meaning.specs.Histories.{Step, Installation}
use Rattle.client_engine.specs.Bringing.{handed_with}
use Rattle.client_engine.specs.Handed.{Handed}
use Rattle.known_conditions.specs.Known.{Known}
use Rattle.client_engine.specs.NextSteps.{MayLog, TakesFrame}
use Rattle.client_engine.specs.Questions.{questions_of}
use Rattle.client_engine.specs.Tracks.{metric_in, AllStandFor}
use Rattle.client_engine.specs.TrackStands.{TrackStandsFor}
use Rattle.known_conditions.specs.Marks.{AreAllMarked, IsMarked}
use Rattle.client_engine.specs.Waking.{OthersSleep}
use Rattle.client_engine.specs.declared.brought.Brought.{Brought}
use Rattle.client_engine.specs.declared.lanes.MetricLane.{MetricLane}
use Rattle.client_engine.specs.declared.lanes.MetricLane.TheVariants.{Counts, Values, PulledValues, Gauges, PulledGauges, Events, Sums, Longest}
use Rattle.client_engine.specs.declared.track.Track.{Track}

-- the clock of a lane
abbrev pub clock_of_lane : MetricLane → Option Times
clock_of_lane (Counts lane) = lane.lane.clock
clock_of_lane (Values lane) = lane.clock
clock_of_lane (PulledValues lane) = lane.clock
clock_of_lane (Gauges lane) = lane.clock
clock_of_lane (PulledGauges lane) = lane.clock
clock_of_lane (Events lane) = lane.clock
clock_of_lane (Sums lane) = lane.clock
clock_of_lane (Longest lane) = lane.clock

-- no bucket of a metric ends before this time
abbrev pub IsDue : ℕ → Track → Type 0
IsDue time track = NoEndBefore time (clock_of_lane track.lane)

-- no bucket of any of these does
abbrev pub AllDue : ℕ → List Track → Type 0
AllDue time tracks = All (IsDue time) tracks

-- the sum of a number over the metrics that are marked
abbrev pub sum_marked : (LMetric → ℕ) → List Bool → List LMetric → ℕ
sum_marked f [] metrics = 0
sum_marked f (mark ∷ marks) [] = 0
sum_marked f (mark ∷ marks) (metric ∷ metrics) = (if mark then f metric else 0) + sum_marked f marks metrics

-- the questions of the metrics that are marked
abbrev pub marked_questions : List Bool → List LMetric → Installation → List Step → LogFrame → List Bool → ℕ
marked_questions marks metrics installed steps frame truths =
    sum_marked (λ metric. questions_of (metric ∷ []) installed steps frame truths) marks metrics

-- A frame that is shown so, with these truths, came to the metrics that are marked; the others are as they were. A
-- counter of questions rose by no more than theirs, and no bucket ends before a time.
pub record AreWoken (given : Handed) (shown : LogFrame) (truths : List Bool) (first : List Track) (before : ℕ)
    (now : List Track) (marks : List Bool) (after due : ℕ) : Type 0 where
  pub len : length now ≡ length first
  pub marked : length marks ≡ length first
  pub metrics : map metric_in now ≡ map metric_in first
  pub asleep : (place : ℕ) (none : Track) → get_or marks place true ≡ false
      → get_or now place none ≡ get_or first place none
  pub awake : (place : ℕ) (none : Track) → place < length first → IsMarked marks place
      → TakesFrame TrackStandsFor given shown truths (get_or first place none) (get_or now place none)
  pub asked : (installed : Installation) (steps : List Step) (frame : LogFrame) → AllStandFor installed steps first
      → MayLog installed steps given shown frame truths
      → after ≤ before + marked_questions marks (map metric_in first) installed steps shown truths
  pub ends : AllDue due now

-- The same of metrics that are marked somehow, those at these places among them.
pub record WakesThese (places : List ℕ) (given : Handed) (shown : LogFrame) (truths : List Bool) (first : List Track)
    (before : ℕ) (now : List Track) (after due : ℕ) : Type 0 where
  pub marks : List Bool
  pub woken : AreWoken given shown truths first before now marks after due
  pub all : AreAllMarked places marks

module _ (given : Handed) (shown : LogFrame) (truths : List Bool) (old : List Track) (marks : List Bool) (here due : ℕ)
  where
    -- wherever the frame came to those that were marked, what comes next is so of those that are marked then
    abbrev pub OnMoreWoken : ((List Track → List Bool → ℕ → ℕ → Type 0) → Type 0) → Type 0
    OnMoreWoken next =
        (first : List Track) (before : ℕ) → AreWoken given shown truths first before old marks here due
        → next (AreWoken given shown truths first before)

    -- wherever it did, the counter is no higher now than the questions of all allow
    abbrev pub FewAsked : ℕ → Type 0
    FewAsked after =
        (first : List Track) (before : ℕ) → AreWoken given shown truths first before old marks here due
        → (installed : Installation) (steps : List Step) (frame : LogFrame) → AllStandFor installed steps first
        → MayLog installed steps given shown frame truths
        → after ≤ before + questions_of (map metric_in first) installed steps shown truths

-- The same of a frame that is brought, where predicates know this.
module _ (known : Known) (brought : Brought) where
  -- it came to the metrics that are marked
  abbrev pub CameToMarked : List Track → ℕ → List Track → List Bool → ℕ → ℕ → Type 0
  CameToMarked first before now marks after due =
      AreWoken (handed_with known brought) brought.frame.now brought.matched.now first before now marks after due

  -- it came to metrics that are marked somehow, those at these places among them
  abbrev pub CameToThese : List ℕ → List Track → ℕ → List Track → ℕ → ℕ → Type 0
  CameToThese places first before now after due =
      WakesThese places (handed_with known brought) brought.frame.now brought.matched.now first before now after due

  -- wherever it came to those that were marked, what comes next is so of those that are marked then
  abbrev pub OnMoreMarked : List Track → List Bool → ℕ → ℕ → ((List Track → List Bool → ℕ → ℕ → Type 0) → Type 0)
      → Type 0
  OnMoreMarked old marks here due next =
      OnMoreWoken (handed_with known brought) brought.frame.now brought.matched.now old marks here due next

  -- wherever it did, the counter is no higher now than the questions of all allow
  abbrev pub FewOfMarked : List Track → List Bool → ℕ → ℕ → ℕ → Type 0
  FewOfMarked old marks here due after =
      FewAsked (handed_with known brought) brought.frame.now brought.matched.now old marks here due after

  -- all metrics sleep through it but those at these places
  abbrev pub OthersSleepOn : List ℕ → List Track → Type 0
  OthersSleepOn places tracks =
      OthersSleep places known.predicates brought.states.now brought.frame.now brought.matched.now
      (map metric_in tracks)
