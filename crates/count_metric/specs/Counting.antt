-- Counts by key: what a producer of counts makes of its calls.
use Rattle.std.specs.Prelude.{ℕ, Bool, [], ◌∷◌}
use Rattle.atom_record.specs.declared.value.MetricKey.{MetricKey}
use Rattle.bucket_meaning.specs.Marks.{Came, no_edges}
use Rattle.metric_producer.specs.Calls.{Call, Demands}
use Rattle.metric_producer.specs.LaneCalls.{event_demands}
use Rattle.metric_producer.specs.Collecting.{Collecting}
use Rattle.metric_producer.specs.declared.row.CountCell.{CountCell}
use Rattle.metric_producer.specs.declared.row.Row.{Row}
use Rattle.metric_kinds.specs.Counts.{count_kind}

-- What a producer of counts is made with: where its time begins, how long a bucket is, how many keys a part admits, and
-- whether the arrivals of other keys are gathered in an overflow row.
pub record CountParams : Type 0 where
  pub base : ℕ
  pub size : ℕ
  pub bound : ℕ
  pub overflow : Bool

-- a call of a producer of counts
abbrev pub CountCall : Type 0
CountCall = Call MetricKey (Unit {0})

-- it takes every key, and its calls keep to buckets
abbrev pub count_demands : CountParams → Demands MetricKey (Unit {0})
count_demands params = event_demands params.base params.size

-- each key that comes arrives, a condition changes nothing, and nothing more happens at a boundary
abbrev pub count_collecting : Collecting CountParams MetricKey (Unit {0}) (MetricKey × ℕ) MetricKey ℕ (Row CountCell)
count_collecting = record {
  demands = count_demands;
  bound = λ params. params.bound;
  kind = λ params. count_kind params.overflow;
  comes = λ params before at key. Came (key, 1) ∷ [];
  learns = λ params before at now. [];
  edges = λ params before. no_edges;
}
