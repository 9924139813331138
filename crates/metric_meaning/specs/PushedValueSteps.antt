-- What a metric of pushed values gets at each step.
use Rattle.std.specs.Prelude.{ℕ, ℤ, Bool, List, [], ◌∷◌, ◌++◌, false, Option}
use Rattle.std.specs.Option.{option_map, option_and_then}
use Rattle.atom_record.specs.declared.atom.Atom.{Atom}
use Rattle.atom_record.specs.declared.value.MetricKey.{MetricKey}
use Rattle.bucket_meaning.specs.Kept.{Taken}
use Rattle.config_types.specs.declared.metric.Aggregation.{Aggregation}
use Rattle.config_links.specs.declared.linked.LMetric.{LMetric}
use Rattle.metric_producer.specs.declared.row.Row.{Row}
use Rattle.metric_kinds.specs.Values.{value_kind}
use Rattle.metric_meaning.specs.Histories.{Step, Installation}
use Rattle.metric_meaning.specs.Scenes.{Scene, scene_after}
use Rattle.metric_meaning.specs.Arrivals.{atom_key, arriving_by}
use Rattle.metric_meaning.specs.ValueLeaves.{ValueLeaf, integer_in}
use Rattle.metric_meaning.specs.StepMarks.{arrivals_alone}
use Rattle.metric_meaning.specs.Ways.{Way, shown_by_steps}

-- an atom's key with its integer, if it has one
abbrev pub keyed_integer : Scene → LMetric → ValueLeaf → Atom → Option (MetricKey × ℤ)
keyed_integer scene metric source atom =
    option_map (λ integer. (atom_key scene metric atom, integer)) (integer_in source atom)

-- what arrives at a step which leaves this scene: the key and the integer of the atom that arrives, if it has one
abbrev pub value_arrival_by : Scene → LMetric → ValueLeaf → Step → Option (MetricKey × ℤ)
value_arrival_by scene metric source step =
    option_and_then (keyed_integer scene metric source) (arriving_by scene metric step)

-- what arrives at a step after others: conditions and states are asked after what the step itself does to them
abbrev pub value_arrival_at : Installation → LMetric → ValueLeaf → List Step → Step → Option (MetricKey × ℤ)
value_arrival_at installed metric source before step =
    value_arrival_by (scene_after installed (before ++ step ∷ [])) metric source step

-- what a metric of pushed values is: zeros aren't hidden
abbrev pub pushed_value_way : Installation → LMetric → ValueLeaf → Aggregation
    → Way (MetricKey × ℤ) MetricKey ℤ (Row ℤ)
pushed_value_way installed metric source aggregation = record {
  base = installed.base;
  size = metric.size;
  bound = metric.bound;
  kind = value_kind aggregation false;
  shown = arrivals_alone (value_arrival_at installed metric source);
}

-- what a report shows of a metric of pushed values, which is made after these steps
abbrev pub pushed_values_shown : Installation → LMetric → ValueLeaf → Aggregation → List Step → Bool → ℕ
    → Taken (Row ℤ)
pushed_values_shown installed metric source aggregation =
    shown_by_steps (pushed_value_way installed metric source aggregation)
