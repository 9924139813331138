-- Each row in its turn is kept or counted.
use Rattle.std.proofs.Common.{arith}
use Rattle.metric_kinds.specs.Gauges.{samples_weight}
use Rattle.gauge_metric.proofs.GaugeLemmas.{keeps_next}
use Rattle.gauge_metric.proofs.gauge.keep_all.Goals as goal

pub loop-key-preserved : goal.loop-key-preserved
loop-key-preserved c =
    keeps_next c.args.start c.args.end c.args.kept.now c.loop-key.kept c.put.new.self c.into_iter-key-iterator.result
    c.loop-key.invariant.0 c.loop-key.key-iterator c.next.new.self (c.in-Some.key, c.in-Some.value)
    c.loop-key.invariant.1 c.loop-key.invariant.2 c.in-Some.ensures.steps
    (λ some. c.in_ok-put.ensures.stands samples_weight (omega (arith, some)))
