-- A condition changes nothing.
use Rattle.gauge_metric.proofs.GaugeLemmas.{gauge_learned}
use Rattle.gauge_metric.proofs.gauge.PushedGaugeProducer.condition.Goals as goal

pub returns : goal.returns
returns c = gauge_learned c.args.self.now c.args.at c.args.now
