-- What a metric of events asks of its producer.
use Rattle.std.specs.Prelude.{ℕ, List, [], Option}
use Rattle.atom_record.specs.declared.atom.Atom.{Atom}
use Rattle.atom_record.specs.declared.value.MetricKey.{MetricKey}
use Rattle.config_links.specs.declared.linked.LMetric.{LMetric}
use Rattle.metric_producer.specs.LaneCalls.{event_asks}
use Rattle.metric_producer.specs.declared.row.Row.{Row}
use Rattle.metric_kinds.specs.Events.{EventAtom}
use Rattle.metric_meaning.specs.Histories.{Installation}
use Rattle.metric_meaning.specs.Arrivals.{arriving}
use Rattle.metric_meaning.specs.EventSteps.{event_way}
use Rattle.metric_calls.specs.Askings.{Asking}

-- the producer of a metric of events knows when its time begins, and gets the atom that arrives, if one does
abbrev pub event_asking : Installation → LMetric
    → Asking ℕ (Option Atom) Atom (Unit {0}) (MetricKey × EventAtom) MetricKey EventAtom (Row (List Atom))
event_asking installed metric = record {
  way = event_way installed metric;
  params = installed.base;
  opens = [];
  news = arriving installed metric;
  asks = event_asks;
}
