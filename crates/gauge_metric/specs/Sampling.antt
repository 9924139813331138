-- Samples by key: what a pushed gauge makes of its calls.
use Rattle.std.specs.Prelude.{ℕ, List, [], ◌∷◌}
use Rattle.atom_record.specs.declared.atom.Atom.{Atom}
use Rattle.atom_record.specs.declared.value.MetricKey.{MetricKey}
use Rattle.bucket_meaning.specs.Marks.{Came, no_edges}
use Rattle.metric_producer.specs.Calls.{Call, Demands}
use Rattle.metric_producer.specs.LaneCalls.{event_demands}
use Rattle.metric_producer.specs.Collecting.{Collecting}
use Rattle.metric_producer.specs.declared.row.Row.{Row}
use Rattle.metric_kinds.specs.Gauges.{gauge_kind}
use Rattle.gauge_metric.specs.declared.gauge.KeyedAtom.{KeyedAtom}

-- the most samples that a gauge may keep of a key
abbrev pub most_key_samples : ℕ
most_key_samples = 100

-- What a gauge is made with: where its time begins, how long a bucket is, how many keys a part admits, and how many
-- samples of each it keeps.
pub record GaugeParams : Type 0 where
  pub base : ℕ
  pub size : ℕ
  pub bound : ℕ
  pub samples : ℕ

-- a call of a pushed gauge
abbrev pub GaugeCall : Type 0
GaugeCall = Call KeyedAtom (Unit {0})

-- it takes every sample, and its calls keep to buckets
abbrev pub gauge_demands : GaugeParams → Demands KeyedAtom (Unit {0})
gauge_demands params = event_demands params.base params.size

-- each sample that comes arrives with its key, a condition changes nothing, and nothing more happens at a boundary
abbrev pub gauge_collecting
    : Collecting GaugeParams KeyedAtom (Unit {0}) (MetricKey × Atom) MetricKey Atom (Row (List Atom))
gauge_collecting = record {
  demands = gauge_demands;
  bound = λ params. params.bound;
  kind = λ params. gauge_kind params.samples;
  comes = λ params before at event. Came (event.key, event.atom) ∷ [];
  learns = λ params before at now. [];
  edges = λ params before. no_edges;
}
