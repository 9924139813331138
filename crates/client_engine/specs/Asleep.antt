-- A configuration that slept through frames which touch nothing of it is caught up by one frame that stands for them.
use Rattle.std.specs.Prelude.{◌≡◌, ◌<◌, ◌≤◌, false, List, ◌++◌}
use Rattle.std.specs.List.{AllByRecursion}
use Rattle.atom_record.specs.declared.log.LogFrame.TheVariants.{Tick, AtomAt, Pull}
use Rattle.bucket_meaning.specs.Ends.{Moment}
use Rattle.bucket_meaning.specs.Limits.{time_limit}
use Rattle.config_links.specs.declared.linked.Linked.{Linked}
use Rattle.heard_ids.specs.Hearing.{is_heard, heeded_matchers, some_holds}
use Rattle.metric_lane.specs.LaneJoining.{StandsForRun}
use Rattle.metric_meaning.specs.Histories.{What, Logged, Reported, Step, History, with_steps}
use Rattle.metric_meaning.specs.StepMarks.{moments}
use Rattle.client_engine.specs.NextSteps.{ComeInTime}
use Rattle.client_engine.specs.Running.{Running}
use Rattle.client_engine.specs.InstanceStands.{InstanceStandsFor, last_step_time}

-- a step touches nothing of a configuration: a tick, an atom or a pull that it doesn't hear, and of an atom none of the
-- matchers that it heeds holds
abbrev pub IsUntouching : Linked → Step → Type 0
IsUntouching linked step = of_what step.what where
  of_what : What → Type 0
  of_what (Logged (Tick at)) = Unit {0}
  of_what (Logged (AtomAt at atom)) =
      (is_heard linked atom.id ≡ false) × (some_holds step.truths (heeded_matchers linked) ≡ false)
  of_what (Logged (Pull at id outcome)) = is_heard linked id ≡ false
  of_what (Reported include_current) = ⊥

-- none of these steps touches anything of it
abbrev pub AreUntouching : Linked → List Step → Type 0
AreUntouching linked run = AllByRecursion (IsUntouching linked) run

-- whatever history the old stood for, and whatever steps came since that touch nothing of it, the new stands for the
-- history with these, where this frame stands for them and comes in time after the history
abbrev pub IsCaughtUp : Running → Moment → Running → Type 0
IsCaughtUp old moment new =
    (history : History) (run : List Step) → InstanceStandsFor old history
    → AreUntouching history.installed.linked run → ComeInTime history.installed.base (history.steps ++ run)
    → StandsForRun history.installed.base (moments history.steps) (moments run) moment
    → last_step_time history ≤ moment.at → moment.at < time_limit → InstanceStandsFor new (with_steps history run)
