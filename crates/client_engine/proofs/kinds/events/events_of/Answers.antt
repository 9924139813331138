-- The events of one row more are added.
use Rattle.std.proofs.Common.{[], ◌++◌, ◌∙◌, map, ap, All, sym, subst}
use Rattle.std.proofs.lemmas.List.Elements.{All-nil}
use Rattle.atom_record.proofs.LoopLemmas.{adds_one, adds_all}
use Rattle.metric_meaning.specs.EventTrees.{event_trees}
use Rattle.report_writer.specs.Writable.{IsWritableEvent}
use Rattle.client_engine.specs.EventsAlong.{event_at}
use Rattle.client_engine.proofs.kinds.events.events_of.Goals as goal

pub loop-row-init : goal.loop-row-init
loop-row-init c = (
  c.in_ok-events.ensures,
  subst (All IsWritableEvent) (sym c.in_ok-events.ensures) (All-nil IsWritableEvent),
)

pub loop-row-preserved : goal.loop-row-preserved
loop-row-preserved c = (
  adds_one c.args.rows.now c.loop-row.row-index c.row-item.result c.loop-row-test.true c.row-item.is event_trees []
      c.loop-row.events c.add_events.new.events c.loop-row.invariant.0
      (c.in_ok-add_events.ensures.shown
      ∙ ap (λ atoms. c.loop-row.events ++ map (event_at c.row-item.result.start) atoms) c.as_slice.ensures),
  c.in_ok-add_events.ensures.writable,
)

pub returns-clause-shown : goal.returns-clause-shown
returns-clause-shown c =
    adds_all c.args.rows.now c.loop-row.row-index c.loop-row-test.false event_trees [] c.loop-row.events
    c.loop-row.invariant.0
