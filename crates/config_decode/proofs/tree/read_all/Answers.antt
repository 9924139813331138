-- One more message is read, and the rest is left.
use Rattle.std.proofs.Common.{ap}
use Rattle.config_decode.proofs.TreeLemmas.{one_more}
use Rattle.config_decode.proofs.tree.read_all.Goals as goal

pub loop-inner-preserved : goal.loop-inner-preserved
loop-inner-preserved g c =
    one_more g.T.FromMessage.tree c.args.messages.now c.loop-inner.inner-index _ c.loop-inner.read _ _
    c.loop-inner-test.true (ap g.T.FromMessage.tree c.inner-item.is) c.in_ok-add_read.ensures c.loop-inner.invariant
