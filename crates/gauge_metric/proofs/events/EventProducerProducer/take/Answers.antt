-- What was kept is handed out.
use Rattle.gauge_metric.proofs.EventLemmas.{event_took}
use Rattle.gauge_metric.proofs.events.EventProducerProducer.take.Goals as goal

pub returns-clause-moves : goal.returns-clause-moves
returns-clause-moves c = event_took c.args.self.now _ c.take-rows.ensures.stands
