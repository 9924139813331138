-- What an installed configuration has seen: one step for each later frame of the log, and for each report of it.
use Rattle.std.specs.Prelude.{ℕ, zero, suc, Bool, true, false, List, [], ◌∷◌, ◌++◌}
use Rattle.std.specs.List.{flat_map}
use Rattle.atom_record.specs.declared.log.LogFrame.{LogFrame}
use Rattle.atom_record.specs.declared.log.LogFrame.TheVariants.{Tick, AtomAt, Pull}
use Rattle.bucket_meaning.specs.Ends.{Moment}
use Rattle.config_links.specs.declared.linked.Linked.{Linked}

-- What a step is: a frame of the log, or a report, with or without a cut.
pub data What : Type 0 where
  Logged : (frame : LogFrame) → What
  Reported : (include_current : Bool) → What

-- A step: its time, which for a report is the clock; what it is; and for an atom the truth of each matcher, in config
-- order. The truths are handed in with the step, whatever they are.
pub record Step : Type 0 where
  pub at : ℕ
  pub what : What
  pub truths : List Bool

-- What was installed, and when: the clock at the installation, the frames of the log up to it, and the configuration's
-- parts with places in place of ids.
pub record Installation : Type 0 where
  pub base : ℕ
  pub opening : List LogFrame
  pub linked : Linked

-- An installed configuration, and the steps since.
pub record History : Type 0 where
  pub installed : Installation
  pub steps : List Step

-- a history with more steps
abbrev pub with_steps : History → List Step → History
with_steps history more = record history { steps = history.steps ++ more }

-- a history with one step more
abbrev pub with_step : History → Step → History
with_step history step = with_steps history (step ∷ [])

-- the frame of the log that a step is, if it is one
abbrev pub frames_at : What → List LogFrame
frames_at (Logged frame) = frame ∷ []
frames_at (Reported include_current) = []

-- the frames of the log among these steps
abbrev pub logged_frames : List Step → List LogFrame
logged_frames steps = flat_map (λ (step : Step). frames_at step.what) steps

-- the whole log after these steps: the frames up to the installation, and those since
abbrev pub log_after : Installation → List Step → List LogFrame
log_after installed steps = installed.opening ++ logged_frames steps

-- the whole log of a history
abbrev pub log_of_history : History → List LogFrame
log_of_history history = log_after history.installed history.steps

-- the truth at a place
abbrev pub truth_at : ℕ → List Bool → Bool
truth_at place [] = false
truth_at zero (truth ∷ truths) = truth
truth_at (suc place) (truth ∷ truths) = truth_at place truths

-- a pull at the very end of a bucket still belongs to it, so ends of buckets have to know one
abbrev pub is_pull : LogFrame → Bool
is_pull (Tick at) = false
is_pull (AtomAt at atom) = false
is_pull (Pull at id outcome) = true

-- a frame of the log as ends of buckets see it
abbrev pub moment_of : LogFrame → ℕ → Moment
moment_of frame time = record { at = time; is_pull = is_pull frame }

-- the frames of the log among the steps, as ends of buckets see them: reports cross none
abbrev pub moments_at : What → ℕ → List Moment
moments_at (Logged frame) time = moment_of frame time ∷ []
moments_at (Reported include_current) time = []
