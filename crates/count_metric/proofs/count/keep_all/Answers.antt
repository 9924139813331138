-- Each row in its turn is kept or counted.
use Rattle.std.proofs.Common.{refl}
use Rattle.metric_kinds.specs.Counts.{row_weight}
use Rattle.count_metric.proofs.CountLemmas.{adds_next}
use Rattle.count_metric.proofs.count.keep_all.Goals as goal

pub loop-key-preserved : goal.loop-key-preserved
loop-key-preserved c =
    adds_next c.args.start c.args.end c.args.kept.now c.loop-key.kept c.put.new.self c.into_iter-key-iterator.result
    c.loop-key.invariant.0 c.loop-key.key-iterator c.next.new.self (c.in-Some.key, c.in-Some.number)
    c.loop-key.invariant.1 c.loop-key.invariant.2 c.in-Some.ensures.steps (c.in_ok-put.ensures.stands row_weight refl)
