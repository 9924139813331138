-- Pushed values by key: what a producer of them makes of its calls.
use Rattle.std.specs.Prelude.{ℕ, ℤ, false, [], ◌∷◌}
use Rattle.atom_record.specs.declared.value.MetricKey.{MetricKey}
use Rattle.bucket_meaning.specs.Marks.{Came, no_edges}
use Rattle.config_types.specs.declared.metric.Aggregation.{Aggregation}
use Rattle.metric_producer.specs.Calls.{Call, Demands}
use Rattle.metric_producer.specs.LaneCalls.{event_demands}
use Rattle.metric_producer.specs.Collecting.{Collecting}
use Rattle.metric_producer.specs.declared.row.Row.{Row}
use Rattle.metric_kinds.specs.Values.{value_kind}
use Rattle.value_metric.specs.declared.keyed_int.KeyedInt.{KeyedInt}

-- What a producer of pushed values is made with: where its time begins, how long a bucket is, how many keys a part
-- admits, and what the integers of a key give.
pub record PushedParams : Type 0 where
  pub base : ℕ
  pub size : ℕ
  pub bound : ℕ
  pub aggregation : Aggregation

-- a call of a producer of pushed values
abbrev pub PushedCall : Type 0
PushedCall = Call KeyedInt (Unit {0})

-- it takes every integer, and its calls keep to buckets
abbrev pub pushed_demands : PushedParams → Demands KeyedInt (Unit {0})
pushed_demands params = event_demands params.base params.size

-- each integer that comes arrives with its key, a condition changes nothing, nothing more happens at a boundary, and
-- rows of 0 are shown
abbrev pub pushed_collecting : Collecting PushedParams KeyedInt (Unit {0}) (MetricKey × ℤ) MetricKey ℤ (Row ℤ)
pushed_collecting = record {
  demands = pushed_demands;
  bound = λ params. params.bound;
  kind = λ params. value_kind params.aggregation false;
  comes = λ params before at event. Came (event.key, event.value) ∷ [];
  learns = λ params before at now. [];
  edges = λ params before. no_edges;
}
