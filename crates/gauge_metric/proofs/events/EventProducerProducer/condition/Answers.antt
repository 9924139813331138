-- A condition changes nothing.
use Rattle.gauge_metric.proofs.EventLemmas.{event_learned}
use Rattle.gauge_metric.proofs.events.EventProducerProducer.condition.Goals as goal

pub returns : goal.returns
returns c = event_learned c.args.self.now c.args.at c.args.now
