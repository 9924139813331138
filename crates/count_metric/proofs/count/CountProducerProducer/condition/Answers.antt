-- A condition changes nothing.
use Rattle.count_metric.proofs.CountLemmas.{learned}
use Rattle.count_metric.proofs.count.CountProducerProducer.condition.Goals as goal

pub returns : goal.returns
returns c = learned c.args.self.now c.args.at c.args.now
