-- What steps tell the book of a metric's activations, and what the book stands for. For private clauses.
use Rattle.std.specs.Prelude.{◌≡◌, ℕ, ◌<◌, Bool, false, List, [], map, get_or, slice_get}
use Rattle.std.specs.Option.{option_map_or}
use Rattle.atom_record.specs.declared.log.LogFrame.{LogFrame}
use Rattle.atom_record.specs.declared.log.LogFrame.TheVariants.{AtomAt}
use Rattle.bucket_meaning.specs.Limits.{time_limit}
use Rattle.config_links.specs.declared.linked.LActivation.{LActivation}
use Rattle.config_links.specs.declared.linked.LMetric.{LMetric}
use Rattle.session_frames.specs.FrameReading.{log_time}
use Rattle.metric_activation.specs.Activations.{Heard}
use Rattle.metric_activation.specs.Timers.{idle, ttls_of, heard_of, BookStandsFor}
use Rattle.metric_activation.specs.declared.timer.Timer.{Timer}
use Rattle.metric_meaning.specs.ActivationSteps.{is_active_after}
use Rattle.metric_meaning.specs.Histories.{What, Logged, Step, truth_at}
use Rattle.metric_meaning.specs.PredicateSteps.{named_truth}
use Rattle.metric_meaning.specs.ShownFrames.{shown_as}
use Rattle.client_engine.specs.NextSteps.{with_logged}

-- an atom with these truths starts an activation
abbrev pub starts_by : List Bool → LActivation → Bool
starts_by truths activation = truth_at activation.start truths

-- it cancels an activation
abbrev pub cancels_by : List Bool → LActivation → Bool
cancels_by truths activation = named_truth activation.cancel truths

-- a timer for each activation, none of which was started
abbrev pub timers_of : List LActivation → List Timer
timers_of activations = map (λ (activation : LActivation). idle activation.ttl) activations

-- what a step tells the book of a metric's activations: nothing, unless it is an atom
abbrev pub said_by : LMetric → Step → Heard
said_by metric step = of_what step.what where
  of_what : What → Heard
  of_what (Logged (AtomAt at atom)) =
      heard_of step.at (map (starts_by step.truths) metric.activations)
      (map (cancels_by step.truths) metric.activations)
  of_what _ = heard_of step.at [] []

-- a book is what these steps make of a metric's activations
pub record ActsAlong (metric : LMetric) (steps : List Step) (acts : List Timer) : Type 0 where
  pub ttls : ttls_of acts ≡ map (λ (activation : LActivation). activation.ttl) metric.activations
  pub stands : BookStandsFor acts (map (said_by metric) steps)

-- so many truths of a list are what is said of the activations at these places, and false where there is none
abbrev pub AreSaid : (LActivation → Bool) → List LActivation → ℕ → List Bool → Type 0
AreSaid says activations count truths =
    (place : ℕ) → place < count → get_or truths place false ≡ option_map_or says (slice_get activations place) false

-- whatever steps the old book was of, the new one is of those and a frame of the log that is shown so, with these
-- truths
abbrev pub TellsFrame : LMetric → LogFrame → List Bool → List Timer → List Timer → Type 0
TellsFrame metric shown truths old new =
    (log : List LogFrame) (steps : List Step) (frame : LogFrame) → shown ≡ shown_as log frame
    → log_time frame < time_limit → ActsAlong metric steps old → ActsAlong metric (with_logged steps frame truths) new

-- whatever steps a book is of, the metric is active at a time after them, or isn't, as is said
abbrev pub SaysActive : LMetric → List Timer → ℕ → Bool → Type 0
SaysActive metric acts now active =
    (steps : List Step) → ActsAlong metric steps acts → active ≡ is_active_after metric steps now
