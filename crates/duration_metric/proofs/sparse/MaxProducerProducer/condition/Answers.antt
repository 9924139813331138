-- A condition was told.
use Rattle.std.proofs.Common.{refl}
use Rattle.duration_metric.proofs.SparseLemmas.{learned}
use Rattle.duration_metric.proofs.sparse.MaxProducerProducer.condition.Goals as goal

pub returns : goal.returns
returns c = learned c.args.self.now _ c.args.at c.args.now refl c.learn.ensures
