-- What was kept is handed out.
use Rattle.duration_metric.proofs.SparseLemmas.{took}
use Rattle.duration_metric.proofs.sparse.MaxProducerProducer.take.Goals as goal

pub returns-clause-moves : goal.returns-clause-moves
returns-clause-moves c = took c.args.self.now c.take.new.self c.take.ensures.moves
