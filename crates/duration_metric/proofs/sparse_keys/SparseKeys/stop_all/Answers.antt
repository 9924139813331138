-- All keys are stopped.
use Rattle.std.proofs.Common.{arith}
use Rattle.duration_metric.proofs.SparseTurnLemmas.{stops_all}
use Rattle.duration_metric.proofs.sparse_keys.SparseKeys.stop_all.Goals as goal

pub returns : goal.returns
returns c = rw c.move_out.ensures.rows
    (stops_all c.args.self.now c.args.at c.args.key.now c.move_out.new.self (omega (arith, c.ranges.at))
    c.move_out.ensures.left)
