-- It is the one of its inner keys.
use Rattle.std.proofs.Common.{sym, subst}
use Rattle.duration_metric.specs.SumParts.{Summing}
use Rattle.duration_metric.specs.SumStands.{SumStandsFor}
use Rattle.duration_metric.proofs.sum_producer.SumProducer.inner_len.Goals as goal

pub returns-clause-value : goal.returns-clause-value
returns-clause-value c params calls stands =
    let has = subst (λ (it : Summing). SumStandsFor it params calls) (sym c.self.view_is) stands in
    c.len.ensures.value params.spec calls has.inner
