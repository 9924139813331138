-- No call has come.
use Rattle.std.proofs.Common.{arith}
use Rattle.duration_metric.proofs.SparseLemmas.{begins_with}
use Rattle.duration_metric.proofs.sparse.MaxProducer.new.Goals as goal

pub returns : goal.returns
returns c =
    begins_with (record { keys = c.new.result; books = c.new-2.result })
    (record { base = c.args.base; size = c.args.size; spec = c.args.spec }) c.new.ensures c.new-2.ensures
    (omega (arith, c.requires.least_size))
