-- What a pushed gauge gets at each step.
use Rattle.std.specs.Prelude.{ℕ, Bool, List, [], ◌∷◌, ◌++◌, Option}
use Rattle.std.specs.Option.{option_map}
use Rattle.atom_record.specs.declared.atom.Atom.{Atom}
use Rattle.atom_record.specs.declared.value.MetricKey.{MetricKey}
use Rattle.bucket_meaning.specs.Kept.{Taken}
use Rattle.field_select.specs.declared.leaf.FieldSet.{FieldSet}
use Rattle.config_links.specs.declared.linked.LMetric.{LMetric}
use Rattle.metric_producer.specs.declared.row.Row.{Row}
use Rattle.metric_kinds.specs.Gauges.{gauge_kind}
use Rattle.metric_meaning.specs.Histories.{Step, Installation}
use Rattle.metric_meaning.specs.Scenes.{Scene, scene_after}
use Rattle.metric_meaning.specs.Arrivals.{atom_key, arriving_by}
use Rattle.metric_meaning.specs.Samples.{sample_of}
use Rattle.metric_meaning.specs.StepMarks.{arrivals_alone}
use Rattle.metric_meaning.specs.Ways.{Way, shown_by_steps}

-- an atom's key with its sample
abbrev pub keyed_sample : Scene → LMetric → Option FieldSet → Atom → MetricKey × Atom
keyed_sample scene metric fields atom = (atom_key scene metric atom, sample_of fields atom)

-- what arrives at a step which leaves this scene: the key and the sample of the atom that arrives, if one does
abbrev pub sample_arrival_by : Scene → LMetric → Option FieldSet → Step → Option (MetricKey × Atom)
sample_arrival_by scene metric fields step =
    option_map (keyed_sample scene metric fields) (arriving_by scene metric step)

-- what arrives at a step after others: the condition is asked after what the step itself does to it
abbrev pub sample_arrival_at : Installation → LMetric → Option FieldSet → List Step → Step → Option (MetricKey × Atom)
sample_arrival_at installed metric fields before step =
    sample_arrival_by (scene_after installed (before ++ step ∷ [])) metric fields step

-- what a pushed gauge is, which keeps so many samples of a key in a part
abbrev pub pushed_gauge_way : Installation → LMetric → Option FieldSet → ℕ
    → Way (MetricKey × Atom) MetricKey Atom (Row (List Atom))
pushed_gauge_way installed metric fields samples = record {
  base = installed.base;
  size = metric.size;
  bound = metric.bound;
  kind = gauge_kind samples;
  shown = arrivals_alone (sample_arrival_at installed metric fields);
}

-- what a report shows of a pushed gauge, which is made after these steps
abbrev pub pushed_gauge_shown : Installation → LMetric → Option FieldSet → ℕ → List Step → Bool → ℕ
    → Taken (Row (List Atom))
pushed_gauge_shown installed metric fields samples =
    shown_by_steps (pushed_gauge_way installed metric fields samples)
