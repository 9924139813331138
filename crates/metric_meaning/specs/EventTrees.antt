-- How a report shows events: one by one, as they came.
use Rattle.std.specs.Prelude.{List, map}
use Rattle.std.specs.List.{flat_map}
use Rattle.atom_record.specs.declared.atom.Atom.{Atom}
use Rattle.report_writer.specs.AtomMessage.{message_of}
use Rattle.report_writer.specs.declared.tree.EventTree.{EventTree}
use Rattle.report_writer.specs.declared.tree.MetricBody.{MetricBody}
use Rattle.report_writer.specs.declared.tree.MetricBody.TheVariants.{Events}
use Rattle.metric_producer.specs.declared.row.Row.{Row}

-- the atom of a row, with its time
abbrev pub event_trees : Row (List Atom) → List EventTree
event_trees row = map (λ atom. record { at = row.start; atom = message_of atom }) row.value

-- the rows of a metric of events
abbrev pub events_body : List (Row (List Atom)) → MetricBody
events_body rows = Events (flat_map event_trees rows)
