-- The steps that may come next after others: a frame of the log, with what is handed with it, or a report.
use Rattle.std.specs.Prelude.{◌≡◌, ℕ, Bool, List, [], ◌∷◌, ◌++◌, map}
use Rattle.atom_record.specs.declared.log.LogFrame.{LogFrame}
use Rattle.config_links.specs.declared.linked.LMetric.{LMetric}
use Rattle.session_frames.specs.FrameReading.{log_time}
use Rattle.metric_producer.specs.LaneCalls.{LaneStep, AreTimely, last_of}
use Rattle.metric_calls.specs.LaneSteps.{lane_step}
use Rattle.metric_meaning.specs.Histories.{Reported, Step, Installation, log_after}
use Rattle.metric_meaning.specs.ActivationSteps.{is_active_after}
use Rattle.metric_meaning.specs.ShownFrames.{shown_as}
use Rattle.metric_meaning.specs.Scenes.{scene_after}
use Rattle.metric_meaning.specs.Reports.{metric_tree}
use Rattle.report_writer.specs.declared.tree.MetricTree.{MetricTree}
use Rattle.client_engine.specs.Handed.{Handed, IsOfScene}
use Rattle.client_engine.specs.declared.request.ReportRequest.{ReportRequest}
use Rattle.known_conditions.specs.Known.{logged_step}

-- the step of a report
abbrev pub reported_step : ReportRequest → Step
reported_step request = record { at = request.at; what = Reported request.include_current; truths = [] }

-- these steps, and a frame of the log with these truths
abbrev pub with_logged : List Step → LogFrame → List Bool → List Step
with_logged steps frame truths = steps ++ logged_step frame truths ∷ []

-- these steps, and a report
abbrev pub with_reported : List Step → ReportRequest → List Step
with_reported steps request = steps ++ reported_step request ∷ []

-- a step as a lane sees it to which no step brings anything
abbrev pub bare_step : Step → LaneStep (Unit {0})
bare_step step = lane_step (λ step. tt) step

-- each of these steps comes in time, as for a lane
abbrev pub ComeInTime : ℕ → List Step → Type 0
ComeInTime last steps = AreTimely last (map bare_step steps)

-- the time of the last frame among these steps, or the time before them
abbrev pub last_from : ℕ → List Step → ℕ
last_from time steps = last_of time (map bare_step steps)

-- what a report that is asked for after these steps shows of a metric
abbrev pub requested_tree : Installation → List Step → ReportRequest → LMetric → MetricTree
requested_tree installed steps request metric =
    metric_tree installed steps request.include_current request.at metric

-- a frame of the log comes in time after these steps, it is shown so, and what is handed with it is what is found then
pub record MayLog (installed : Installation) (steps : List Step) (given : Handed) (shown frame : LogFrame)
    (truths : List Bool) : Type 0 where
  pub shown_is : shown ≡ shown_as (log_after installed steps) frame
  pub found : IsOfScene given (scene_after installed (with_logged steps frame truths))
  pub in_time : ComeInTime installed.base (with_logged steps frame truths)

-- a report comes in time after these steps of what was installed at this clock
pub record MayReport (installed : Installation) (steps : List Step) (base : ℕ) (request : ReportRequest)
    : Type 0 where
  pub base_is : installed.base ≡ base
  pub in_time : ComeInTime installed.base (with_reported steps request)

-- What stands for steps of what was installed, as a metric's lane does, and takes one step more.
module _ {A : Type 0} (stands : Installation → List Step → A → Type 0) where
  -- whatever steps the old one stood for, the new one stands for those and a frame of the log, which is shown so
  abbrev pub TakesFrame : Handed → LogFrame → List Bool → A → A → Type 0
  TakesFrame given shown truths old new =
      (installed : Installation) (steps : List Step) (frame : LogFrame) → stands installed steps old
      → MayLog installed steps given shown frame truths → stands installed (with_logged steps frame truths) new

  -- the same of a frame at which a metric is active or isn't, as is said
  abbrev pub TakesWhile : Bool → LMetric → Handed → LogFrame → List Bool → A → A → Type 0
  TakesWhile active metric given shown truths old new =
      (installed : Installation) (steps : List Step) (frame : LogFrame)
      → active ≡ is_active_after metric (with_logged steps frame truths) (log_time frame) → stands installed steps old
      → MayLog installed steps given shown frame truths → stands installed (with_logged steps frame truths) new

  -- whatever steps the old one stood for, the new one stands for those and a report, which shows this metric so
  abbrev pub TakesReport : LMetric → ℕ → ReportRequest → A → A → MetricTree → Type 0
  TakesReport metric base request old new tree =
      (installed : Installation) (steps : List Step) → stands installed steps old
      → MayReport installed steps base request
      → stands installed (with_reported steps request) new
      × (tree ≡ requested_tree installed steps request metric)
