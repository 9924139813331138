-- A condition changes nothing.
use Rattle.value_metric.proofs.PushedLemmas.{learned}
use Rattle.value_metric.proofs.pushed_value.PushedValueProducer.condition.Goals as goal

pub returns : goal.returns
returns c = learned c.args.self.now c.args.at c.args.now
