-- What a pushed gauge asks of its producer.
use Rattle.std.specs.Prelude.{ℕ, List, [], ◌∷◌, ◌++◌, Option}
use Rattle.std.specs.Option.{option_map}
use Rattle.atom_record.specs.declared.atom.Atom.{Atom}
use Rattle.atom_record.specs.declared.value.MetricKey.{MetricKey}
use Rattle.field_select.specs.declared.leaf.FieldSet.{FieldSet}
use Rattle.config_links.specs.declared.linked.LMetric.{LMetric}
use Rattle.metric_producer.specs.LaneCalls.{event_asks}
use Rattle.metric_producer.specs.declared.row.Row.{Row}
use Rattle.gauge_metric.specs.declared.gauge.KeyedAtom.{KeyedAtom}
use Rattle.gauge_metric.specs.Sampling.{GaugeParams}
use Rattle.metric_meaning.specs.Histories.{Step, Installation}
use Rattle.metric_meaning.specs.Scenes.{Scene, scene_after}
use Rattle.metric_meaning.specs.PushedGaugeSteps.{sample_arrival_by, pushed_gauge_way}
use Rattle.metric_calls.specs.Askings.{Asking}

-- what the producer of a pushed gauge is made with, which keeps so many samples of a key in a part
abbrev pub gauge_params : ℕ → LMetric → ℕ → GaugeParams
gauge_params base metric samples = record {
  base = base;
  size = metric.size;
  bound = metric.bound;
  samples = samples;
}

-- a sample with its key, as a producer gets them
abbrev pub handed_sample : MetricKey × Atom → KeyedAtom
handed_sample arrival = record { key = arrival.0; atom = arrival.1 }

-- the sample that comes at a step which leaves this scene, with its key, if one does
abbrev pub sample_by : Scene → LMetric → Option FieldSet → Step → Option KeyedAtom
sample_by scene metric fields step = option_map handed_sample (sample_arrival_by scene metric fields step)

-- the sample that comes at a step after others
abbrev pub sample_at : Installation → LMetric → Option FieldSet → List Step → Step → Option KeyedAtom
sample_at installed metric fields before step =
    sample_by (scene_after installed (before ++ step ∷ [])) metric fields step

-- the producer of a pushed gauge gets the sample that comes, if one does
abbrev pub pushed_gauge_asking : Installation → LMetric → Option FieldSet → ℕ
    → Asking GaugeParams (Option KeyedAtom) KeyedAtom (Unit {0}) (MetricKey × Atom) MetricKey Atom (Row (List Atom))
pushed_gauge_asking installed metric fields samples = record {
  way = pushed_gauge_way installed metric fields samples;
  params = gauge_params installed.base metric samples;
  opens = [];
  news = sample_at installed metric fields;
  asks = event_asks;
}
