-- The lane of a metric of events: what it stands for, and how a report shows what it hands out.
use Rattle.std.specs.Prelude.{◌≡◌, ℕ, List}
use Rattle.atom_record.specs.declared.atom.Atom.{Atom}
use Rattle.config_links.specs.declared.linked.LMetric.{LMetric}
use Rattle.config_links.specs.declared.linked.LKind.TheVariants as kinds
use Rattle.gauge_metric.specs.declared.events.EventProducer.{EventProducer}
use Rattle.gauge_metric.specs.EventStands.{event_law}
use Rattle.metric_producer.specs.declared.row.Row.{Row}
use Rattle.bucket_meaning.specs.Kept.{Taken}
use Rattle.metric_lane.specs.declared.lane.Lane.{Lane}
use Rattle.metric_meaning.specs.Histories.{Step, Installation}
use Rattle.metric_meaning.specs.EventTrees.{events_body}
use Rattle.metric_calls.specs.EventCalls.{event_asking}
use Rattle.report_writer.specs.AtomMessage.{message_of}
use Rattle.report_writer.specs.declared.tree.EventTree.{EventTree}
use Rattle.report_writer.specs.declared.tree.MetricTree.{MetricTree}
use Rattle.client_engine.specs.Along.{Along}

-- a lane of a producer of events
abbrev pub EventLane : Type 0
EventLane = Lane EventProducer Atom (Unit {0}) (List Atom)

-- The metric is one of events, and the lane collects for it, after these steps of what was installed.
pub record EventsAlong (metric : LMetric) (installed : Installation) (steps : List Step) (lane : EventLane)
    : Type 0 where
  pub events : metric.kind ≡ kinds.Event
  pub along : Along (event_asking installed metric) event_law steps lane

-- the message of an atom, with the time of its row
abbrev pub event_at : ℕ → Atom → EventTree
event_at at atom = record { at = at; atom = message_of atom }

-- a metric of events as a report shows it, of what its producer handed out
abbrev pub events_shown_by : ℕ → LMetric → Taken (Row (List Atom)) → MetricTree
events_shown_by base metric closed = record {
  id = metric.id;
  base = base;
  size = metric.size;
  dropped = closed.dropped;
  not_kept = closed.not_kept;
  missing = closed.missing;
  body = events_body closed.rows;
}
