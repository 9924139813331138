-- What history an instance stands for, and how it goes from step to step.
use Rattle.std.specs.Prelude.{◌≡◌, ℕ, ◌+◌, ◌≤◌, Bool, List, [], ◌∷◌, ◌++◌, length}
use Rattle.atom_record.specs.declared.log.LogFrame.{LogFrame}
use Rattle.atom_record.specs.declared.log.LogFrame.TheVariants.{AtomAt}
use Rattle.session_frames.specs.FrameReading.{log_time}
use Rattle.config_links.specs.declared.linked.Linked.{Linked}
use Rattle.state_slicer.specs.StateBooks.{StateBookStandsFor}
use Rattle.report_writer.specs.declared.tree.ReportTree.{ReportTree}
use Rattle.metric_meaning.specs.Histories.{History, with_step, log_of_history}
use Rattle.metric_meaning.specs.ShownFrames.{shown_as}
use Rattle.metric_meaning.specs.Reports.{last_report, report_of}
pub use Rattle.client_engine.specs.NextSteps.{reported_step, last_from}
pub use Rattle.known_conditions.specs.Known.{logged_step}
use Rattle.client_engine.specs.NextSteps.{ComeInTime}
pub use Rattle.client_engine.specs.Running.{Running, linked_of}
use Rattle.known_conditions.specs.Known.{KnowsAfter}
use Rattle.client_engine.specs.Tracks.{AllStandFor}
use Rattle.client_engine.specs.Handed.{BookOfStates}
use Rattle.client_engine.specs.Questions.{questions_at}
use Rattle.client_engine.specs.declared.request.ReportRequest.{ReportRequest}

-- What an instance stands for, part by part: its configuration, the clock at its installation and at its last report,
-- steps whose times don't fall, what predicates know after these steps, and for each metric what they make of it.
pub record InstanceStandsFor (it : Running) (history : History) : Type 0 where
  pub linked : linked_of it ≡ history.installed.linked
  pub base : it.base ≡ history.installed.base
  pub last : it.last ≡ last_report history.installed.base history.steps
  pub in_time : ComeInTime history.installed.base history.steps
  pub knows : KnowsAfter history.steps it.known
  pub tracks : AllStandFor history.installed history.steps it.tracks

-- the time of the last step, or the base
abbrev pub last_step_time : History → ℕ
last_step_time history = last_from history.installed.base history.steps

-- the history of what was just installed, after this log
abbrev pub new_history : ℕ → List LogFrame → Linked → History
new_history base opening linked = record {
  installed = record { base = base; opening = opening; linked = linked };
  steps = [];
}

-- an instance that has seen nothing, after this log
abbrev pub IsFresh : Linked → ℕ → List LogFrame → Running → Type 0
IsFresh linked base opening it = InstanceStandsFor it (new_history base opening linked)

-- an atom is shown with one truth for each matcher, and another frame with none
abbrev pub IsView : Linked → LogFrame → List Bool → Type 0
IsView linked (AtomAt at atom) truths = length truths ≡ length linked.matchers
IsView linked _ truths = truths ≡ []

-- whatever history the old stood for, if this frame may come next and is shown so, and the book stands for the log
-- with it, the new stands for that history with this frame
abbrev pub Logs : Running → LogFrame → List Bool → BookOfStates → Running → Type 0
Logs old shown truths book new =
    (history : History) (frame : LogFrame) → InstanceStandsFor old history
    → last_step_time history ≤ log_time frame → IsView history.installed.linked frame truths
    → shown ≡ shown_as (log_of_history history) frame
    → StateBookStandsFor book (log_of_history history ++ frame ∷ [])
    → InstanceStandsFor new (with_step history (logged_step frame truths))

-- whatever history the old stood for, if this frame may come next and is shown so, and the book stands for the log with
-- it, a counter of questions rises by no more than the questions of its metrics at the frame
abbrev pub AsksAtMost : Running → LogFrame → List Bool → BookOfStates → ℕ → ℕ → Type 0
AsksAtMost old shown truths book before after =
    (history : History) (frame : LogFrame) → InstanceStandsFor old history
    → last_step_time history ≤ log_time frame → IsView history.installed.linked frame truths
    → shown ≡ shown_as (log_of_history history) frame
    → StateBookStandsFor book (log_of_history history ++ frame ∷ [])
    → after ≤ before + questions_at history frame truths

-- the report that is asked for after a history
abbrev pub requested_report : History → ReportRequest → ReportTree
requested_report history request =
    report_of history request.name.uid request.name.id request.include_current request.at

-- whatever history the old stood for, the new stands for it with that report, and what is shown is its report, if the
-- book is that of the log
abbrev pub Reports : Running → ReportRequest → BookOfStates → Running → ReportTree → Type 0
Reports old request book new tree =
    (history : History) → InstanceStandsFor old history → last_step_time history ≡ request.at
    → InstanceStandsFor new (with_step history (reported_step request))
    × (StateBookStandsFor book (log_of_history history) → tree ≡ requested_report history request)
