-- A live configuration sleeps between the frames that it hears, and is caught up by the last frame that came.
use Rattle.std.specs.Prelude.{◌≡◌, ℕ, ◌+◌, ◌≤◌, Bool, false, ◌||◌, List, ◌∷◌, [], ◌++◌, Option, Some, None}
use Rattle.std.specs.Option.{option_map_or}
use Rattle.atom_record.specs.declared.log.LogFrame.{LogFrame}
use Rattle.atom_record.specs.declared.log.LogFrame.TheVariants.{Tick, AtomAt, Pull}
use Rattle.bucket_meaning.specs.Ends.{Moment}
use Rattle.bucket_clock.specs.Clock.{frame_at}
use Rattle.session_frames.specs.FrameReading.{log_time}
use Rattle.config_links.specs.declared.linked.Linked.{Linked}
use Rattle.heard_ids.specs.declared.hearing.Hearing.{Hearing}
use Rattle.heard_ids.specs.Hearing.{heard_ids, is_heard, hears_all}
use Rattle.state_slicer.specs.StateBooks.{StateBookStandsFor}
use Rattle.report_writer.specs.declared.tree.ReportTree.{ReportTree}
use Rattle.metric_lane.specs.LaneJoining.{StandsForRun}
use Rattle.metric_meaning.specs.Histories.{Step, History, with_step, log_of_history, moment_of}
use Rattle.metric_meaning.specs.ShownFrames.{shown_as}
use Rattle.metric_meaning.specs.StepMarks.{moments}
use Rattle.client_engine.specs.Asleep.{AreUntouching}
use Rattle.client_engine.specs.Handed.{BookOfStates}
use Rattle.client_engine.specs.InstanceStands.{Running, InstanceStandsFor, IsView, last_step_time, requested_report}
use Rattle.client_engine.specs.NextSteps.{ComeInTime, reported_step}
use Rattle.known_conditions.specs.Known.{logged_step}
use Rattle.client_engine.specs.Questions.{questions_at}
use Rattle.client_engine.specs.declared.request.ReportRequest.{ReportRequest}
use Rattle.hub_core.specs.declared.log_clock.LogClock.{LogClock}

-- the last frame of the log, as ends of buckets see it
abbrev pub moment_of_clock : LogClock → Moment
moment_of_clock clock = frame_at clock.time clock.is_pull

-- a frame of the log, as ends of buckets see it
abbrev pub moment_of_frame : LogFrame → Moment
moment_of_frame frame = moment_of frame (log_time frame)

-- the id whose hearers a frame comes to: that of an atom or of a pull, and none of a tick
abbrev pub heard_id_of : LogFrame → Option ℕ
heard_id_of (Tick at) = None
heard_id_of (AtomAt at atom) = Some atom.id
heard_id_of (Pull at id outcome) = Some id

-- a configuration hears the frames of an id
abbrev pub hears_id : Linked → ℕ → Bool
hears_id linked id = hears_all linked || is_heard linked id

-- a configuration hears a frame
abbrev pub hears : Linked → LogFrame → Bool
hears linked frame = option_map_or (hears_id linked) (heard_id_of frame) false

-- this is what a configuration hears
pub record IsHearing (hearing : Hearing) (linked : Linked) : Type 0 where
  pub ids : hearing.ids ≡ heard_ids linked
  pub all : hearing.all ≡ hears_all linked

-- A configuration sleeps since some step of a history: it stands for the steps up to there, none of those since touches
-- anything of it, and this one frame stands for them.
pub record StandsAsleep (moment : Moment) (it : Running) (history : History) : Type 0 where
  pub woken : List Step
  pub slept : List Step
  pub steps : history.steps ≡ woken ++ slept
  pub stands : InstanceStandsFor it (record history { steps = woken })
  pub untouching : AreUntouching history.installed.linked slept
  pub in_time : ComeInTime history.installed.base history.steps
  pub run : StandsForRun history.installed.base (moments woken) (moments slept) moment
  pub time : last_step_time history ≡ moment.at

module _ (moment : Moment) where
  -- whatever history the old slept in, the new stands for it
  abbrev pub WakesUp : Running → Running → Type 0
  WakesUp old new = (history : History) → StandsAsleep moment old history → InstanceStandsFor new history

  -- whatever history the old slept in, if this frame may come next and is shown so, and the book stands for the log
  -- with it, the new stands for that history with this frame
  abbrev pub LogsAwake : Running → LogFrame → List Bool → BookOfStates → Running → Type 0
  LogsAwake old shown truths book new =
      (history : History) (frame : LogFrame) → StandsAsleep moment old history
      → last_step_time history ≤ log_time frame → IsView history.installed.linked frame truths
      → shown ≡ shown_as (log_of_history history) frame
      → StateBookStandsFor book (log_of_history history ++ frame ∷ [])
      → InstanceStandsFor new (with_step history (logged_step frame truths))

  -- whatever history the old slept in, if this frame may come next and is shown so, and the book stands for the log
  -- with it, a counter of questions rises by no more than the questions of its metrics at the frame
  abbrev pub AsksAwake : Running → LogFrame → List Bool → BookOfStates → ℕ → ℕ → Type 0
  AsksAwake old shown truths book before after =
      (history : History) (frame : LogFrame) → StandsAsleep moment old history
      → last_step_time history ≤ log_time frame → IsView history.installed.linked frame truths
      → shown ≡ shown_as (log_of_history history) frame
      → StateBookStandsFor book (log_of_history history ++ frame ∷ [])
      → after ≤ before + questions_at history frame truths

  -- whatever history the old slept in, the new stands for it with that report, and what is shown is its report, if the
  -- book is that of the log
  abbrev pub ReportsAwake : Running → ReportRequest → BookOfStates → Running → ReportTree → Type 0
  ReportsAwake old request book new tree =
      (history : History) → StandsAsleep moment old history → last_step_time history ≡ request.at
      → InstanceStandsFor new (with_step history (reported_step request))
      × (StateBookStandsFor book (log_of_history history) → tree ≡ requested_report history request)
