-- The messages so far were added, and all can be written.
use Rattle.std.proofs.Common.{◌≡◌, ◌++◌, map, take}
use Rattle.std.specs.Prelude.{All}
use Rattle.report_writer.specs.Writable.{IsWritableEvent}
use Rattle.client_engine.specs.EventsAlong.{event_at}
use Rattle.client_engine.proofs.kinds.events.add_events.Given as goal

abbrev pub invariant-loop-atom : goal.invariant-loop-atom
invariant-loop-atom l =
    (l.events ≡ l.fn.events ++ map (event_at l.at) (take l.atom-index l.atoms)) × All IsWritableEvent l.events
