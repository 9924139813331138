-- The messages of the rows, one by one, are the events.
use Rattle.std.proofs.Common.{◌∙◌, ap}
use Rattle.std.specs.List.{flat_map}
use Rattle.metric_meaning.specs.EventTrees.{event_trees}
use Rattle.report_writer.specs.declared.tree.MetricBody.TheVariants.{Events}
use Rattle.client_engine.proofs.kinds.events.events_body.Goals as goal

pub returns-clause-shown : goal.returns-clause-shown
returns-clause-shown c =
    ap (λ events. Events events)
    (c.in_ok-events.ensures.shown ∙ ap (flat_map event_trees) c.as_slice.ensures)

pub returns-clause-writable : goal.returns-clause-writable
returns-clause-writable c = c.in_ok-events.ensures.writable
