-- The open part was cut.
use Rattle.std.proofs.lemmas.Result.{on_ok_weaker}
use Rattle.duration_metric.proofs.SparseLemmas.{cuts}
use Rattle.duration_metric.proofs.sparse.MaxProducerProducer.cut.Goals as goal

pub returns : goal.returns
returns c = on_ok_weaker c.close.result (cuts c.args.self.now c.close.new.self c.args.at) c.close.ensures
