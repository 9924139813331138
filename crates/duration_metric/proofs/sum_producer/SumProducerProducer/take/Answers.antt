-- What was kept is handed out.
use Rattle.std.proofs.Common.{subst}
use Rattle.metric_producer.specs.Calls.{Took}
use Rattle.metric_producer.specs.Moves.{Moves}
use Rattle.duration_metric.specs.SumParts.{Summing, seen}
use Rattle.duration_metric.specs.SumStands.{sum_law}
use Rattle.duration_metric.proofs.SumLemmas.{took}
use Rattle.duration_metric.proofs.sum_producer.SumProducerProducer.take.Goals as goal

pub returns-clause-moves : goal.returns-clause-moves
returns-clause-moves c =
    let old = seen c.self.inside.sums in
    let table = c.take_dropped.new.self in
    let new : Summing = record old { kept = c.take-rows.new.self; table = table; reported = c.dropped-lost.result } in
    subst (λ (it : Summing). Moves sum_law it new Took) c.self.view_is
    (took old c.take-rows.new.self table c.dropped-lost.result c.take-rows.ensures.stands c.take_dropped.ensures.left
    c.dropped-lost.ensures)
