-- The messages of the rows so far are there, and can be written.
use Rattle.std.proofs.Common.{◌≡◌, take}
use Rattle.std.specs.Prelude.{All}
use Rattle.std.specs.List.{flat_map}
use Rattle.metric_meaning.specs.EventTrees.{event_trees}
use Rattle.report_writer.specs.Writable.{IsWritableEvent}
use Rattle.client_engine.proofs.kinds.events.events_of.Given as goal

abbrev pub invariant-loop-row : goal.invariant-loop-row
invariant-loop-row l =
    (l.events ≡ flat_map event_trees (take l.row-index l.rows)) × All IsWritableEvent l.events
