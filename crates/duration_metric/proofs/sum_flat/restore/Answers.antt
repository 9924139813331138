-- The tally that was counted again is right.
use Rattle.std.proofs.Common.{subst}
use Rattle.duration_metric.specs.Tallies.{tally_at, CountsAll}
use Rattle.duration_metric.proofs.SumTallyLemmas.{tally_recounted}
use Rattle.duration_metric.proofs.sum_flat.restore.Goals as goal

pub invariant_of-result : goal.invariant_of-result
invariant_of-result c =
    let rows = c.args.parts.1.1.1.1.0.rows in
    tally_recounted _
    (subst (λ gone. CountsAll (tally_at c.in_ok-tally.tally) rows gone) c.as_slice.ensures c.in_ok-tally.ensures.counts)
    c.in_ok-tally.ensures.zeros
