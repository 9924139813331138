-- What a metric of counts asks of its producer.
use Rattle.std.specs.Prelude.{ℕ, Bool, [], Option}
use Rattle.atom_record.specs.declared.value.MetricKey.{MetricKey}
use Rattle.config_links.specs.declared.linked.LMetric.{LMetric}
use Rattle.metric_producer.specs.LaneCalls.{event_asks}
use Rattle.metric_producer.specs.declared.row.CountCell.{CountCell}
use Rattle.metric_producer.specs.declared.row.Row.{Row}
use Rattle.count_metric.specs.Counting.{CountParams}
use Rattle.metric_meaning.specs.Histories.{Installation}
use Rattle.metric_meaning.specs.CountSteps.{arrival_at, count_way}
use Rattle.metric_calls.specs.Askings.{Asking}

-- what a metric's producer of counts is made with
abbrev pub count_params : ℕ → LMetric → Bool → CountParams
count_params base metric overflow =
    record { base = base; size = metric.size; bound = metric.bound; overflow = overflow }

-- the producer of a metric of counts gets the key that arrives, if one does
abbrev pub count_asking : Installation → LMetric → Bool
    → Asking CountParams (Option MetricKey) MetricKey (Unit {0}) (MetricKey × ℕ) MetricKey ℕ (Row CountCell)
count_asking installed metric overflow = record {
  way = count_way installed metric overflow;
  params = count_params installed.base metric overflow;
  opens = [];
  news = arrival_at installed metric;
  asks = event_asks;
}
