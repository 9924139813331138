-- The atoms that arrive at a metric, and the key by which one is told from others.
use Rattle.std.specs.Prelude.{ℕ, Bool, ◌&&◌, List, [], ◌∷◌, ◌++◌, Option, Some, None, if◌then◌else◌}
use Rattle.atom_record.specs.declared.atom.Atom.{Atom}
use Rattle.atom_record.specs.declared.log.LogFrame.TheVariants.{AtomAt}
use Rattle.atom_record.specs.declared.value.MetricKey.{MetricKey}
use Rattle.config_links.specs.declared.linked.LMetric.{LMetric}
use Rattle.metric_meaning.specs.Histories.{What, Logged, Step, Installation, truth_at}
use Rattle.metric_meaning.specs.ActivationSteps.{is_active_after}
use Rattle.metric_meaning.specs.Readings.{LeafReading, atom_reading}
use Rattle.metric_meaning.specs.MetricConditions.{is_condition_true}
use Rattle.metric_meaning.specs.StateSlices.{named_slices}
use Rattle.metric_meaning.specs.Scenes.{Scene, scene_after}

-- a metric's key of what is read: the values at its dimensions, and the slices by states
abbrev pub metric_key : Scene → LMetric → LeafReading → MetricKey
metric_key scene metric reading = record {
  dims = reading metric.dims;
  slices = named_slices scene.linked.states scene.log reading metric.slices;
}

-- whether a metric's condition is true in a scene, for what is read
abbrev pub holds_in : Scene → LMetric → LeafReading → Bool
holds_in scene metric reading = is_condition_true scene.linked.predicates scene.tables metric reading

-- whether a metric is active in a scene, at a time
abbrev pub is_active_in : Scene → LMetric → ℕ → Bool
is_active_in scene metric now = is_active_after metric scene.steps now

-- the atom that arrives at a step which leaves this scene: that of the step, where the matcher of what is counted
-- holds, the metric is active and the condition is true
abbrev pub arriving_by : Scene → LMetric → Step → Option Atom
arriving_by scene metric step = of_what step.what where
  of_what : What → Option Atom
  of_what (Logged (AtomAt at atom)) =
      if truth_at metric.what step.truths && (is_active_in scene metric step.at
      && holds_in scene metric (atom_reading atom)) then Some atom else None
  of_what _ = None

-- the atom that arrives at a step after others: the condition is asked after what the step itself does to it
abbrev pub arriving : Installation → LMetric → List Step → Step → Option Atom
arriving installed metric before step = arriving_by (scene_after installed (before ++ step ∷ [])) metric step

-- a metric's key of an atom
abbrev pub atom_key : Scene → LMetric → Atom → MetricKey
atom_key scene metric atom = metric_key scene metric (atom_reading atom)
