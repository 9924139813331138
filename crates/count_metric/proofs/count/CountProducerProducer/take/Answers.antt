-- What was kept is handed out.
use Rattle.std.proofs.Common.{refl}
use Rattle.count_metric.proofs.CountLemmas.{took}
use Rattle.count_metric.proofs.count.CountProducerProducer.take.Goals as goal

pub returns-clause-moves : goal.returns-clause-moves
returns-clause-moves c = took c.args.self.now _ refl refl refl c.take_dropped.ensures.left c.take-rows.ensures.stands
