-- A metric that a run of steps leaves alone takes all by the one frame that stands for them. For private clauses.
use Rattle.std.specs.Prelude.{◌≡◌, ◌<◌, ◌≤◌, false, List, ◌++◌, map, All}
use Rattle.std.specs.List.{AllByRecursion}
use Rattle.atom_record.specs.declared.log.LogFrame.TheVariants.{Tick, AtomAt, Pull}
use Rattle.bucket_meaning.specs.Ends.{Moment}
use Rattle.bucket_meaning.specs.Limits.{time_limit}
use Rattle.config_links.specs.declared.linked.LMetric.{LMetric}
use Rattle.config_links.specs.declared.linked.Linked.{Linked}
use Rattle.metric_lane.specs.LaneJoining.{StandsForRun}
use Rattle.metric_meaning.specs.Histories.{What, Logged, Reported, Step, Installation}
use Rattle.metric_meaning.specs.StepMarks.{moments}
use Rattle.metric_calls.specs.SnapshotCalls.{is_told_of}
use Rattle.client_engine.specs.NextSteps.{ComeInTime, last_from}
use Rattle.known_conditions.specs.Touchers.{one_holds, tells_one}
use Rattle.client_engine.specs.TrackStands.{TrackStandsFor}
use Rattle.client_engine.specs.Tracks.{metric_in, AllStandFor}
use Rattle.client_engine.specs.Waking.{wakers, told_slices}
use Rattle.client_engine.specs.declared.track.Track.{Track}

-- a step leaves a metric alone: a tick, an atom that can change nothing of it, or a pull that isn't told to it
abbrev pub LeavesAlone : Linked → LMetric → Step → Type 0
LeavesAlone linked metric step = of_what step.what where
  of_what : What → Type 0
  of_what (Logged (Tick at)) = Unit {0}
  of_what (Logged (AtomAt at atom)) =
      (one_holds step.truths (wakers linked.predicates metric) ≡ false)
      × (tells_one linked.states atom.id (told_slices metric) ≡ false)
  of_what (Logged (Pull at id outcome)) = is_told_of linked.matchers metric id ≡ false
  of_what (Reported include_current) = ⊥

-- all of these steps do
abbrev pub AllLeaveAlone : Linked → List Step → LMetric → Type 0
AllLeaveAlone linked run metric = AllByRecursion (LeavesAlone linked metric) run

-- a run comes in time after these steps, and one frame stands for it, which comes in time, too
pub record MayCatchUp (installed : Installation) (steps run : List Step) (moment : Moment) : Type 0 where
  pub in_time : ComeInTime installed.base (steps ++ run)
  pub stands : StandsForRun installed.base (moments steps) (moments run) moment
  pub not_before : last_from installed.base steps ≤ moment.at
  pub fits : moment.at < time_limit

-- whatever steps a metric's lane stood for, it then stands for those and a run that leaves the metric alone, where this
-- frame stands for the run
abbrev pub TakesRun : {A : Type 0} → (Installation → List Step → A → Type 0) → LMetric → Moment → A → A → Type 0
TakesRun stands metric moment old new =
    (installed : Installation) (steps run : List Step) → stands installed steps old
    → AllLeaveAlone installed.linked run metric → MayCatchUp installed steps run moment
    → stands installed (steps ++ run) new

-- the same of a metric with its lane
abbrev pub TrackTakesRun : Moment → Track → Track → Type 0
TrackTakesRun moment old new = TakesRun TrackStandsFor old.metric moment old new

-- the same of all metrics, where the run leaves each alone
abbrev pub AllTakeRun : Moment → List Track → List Track → Type 0
AllTakeRun moment old new =
    (installed : Installation) (steps run : List Step) → AllStandFor installed steps old
    → All (AllLeaveAlone installed.linked run) (map metric_in old) → MayCatchUp installed steps run moment
    → AllStandFor installed (steps ++ run) new
