-- What a metric of pushed values asks of its producer.
use Rattle.std.specs.Prelude.{ℕ, ℤ, [], Option}
use Rattle.std.specs.Option.{option_map}
use Rattle.atom_record.specs.declared.value.MetricKey.{MetricKey}
use Rattle.config_types.specs.declared.metric.Aggregation.{Aggregation}
use Rattle.config_links.specs.declared.linked.LMetric.{LMetric}
use Rattle.metric_producer.specs.LaneCalls.{event_asks}
use Rattle.metric_producer.specs.declared.row.Row.{Row}
use Rattle.value_metric.specs.PushedValues.{PushedParams}
use Rattle.value_metric.specs.declared.keyed_int.KeyedInt.{KeyedInt}
use Rattle.metric_meaning.specs.Histories.{Installation}
use Rattle.metric_meaning.specs.ValueLeaves.{ValueLeaf}
use Rattle.metric_meaning.specs.PushedValueSteps.{value_arrival_at, pushed_value_way}
use Rattle.metric_calls.specs.Askings.{Asking}

-- what a metric's producer of pushed values is made with
abbrev pub value_params : ℕ → LMetric → Aggregation → PushedParams
value_params base metric aggregation = record {
  base = base;
  size = metric.size;
  bound = metric.bound;
  aggregation = aggregation;
}

-- a key with its integer, as the producer gets them
abbrev pub keyed_int : MetricKey × ℤ → KeyedInt
keyed_int came = record { key = came.0; value = came.1 }

-- the producer of a metric of pushed values gets the key and the integer that arrive, if they do
abbrev pub value_asking : Installation → LMetric → ValueLeaf → Aggregation
    → Asking PushedParams (Option KeyedInt) KeyedInt (Unit {0}) (MetricKey × ℤ) MetricKey ℤ (Row ℤ)
value_asking installed metric source aggregation = record {
  way = pushed_value_way installed metric source aggregation;
  params = value_params installed.base metric aggregation;
  opens = [];
  news = λ before step. option_map keyed_int (value_arrival_at installed metric source before step);
  asks = event_asks;
}
