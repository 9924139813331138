-- A sum is built from its parts.
use Rattle.std.proofs.lemmas.Result.{err_from_is_err_and}
use Rattle.duration_metric.proofs.SumFormLemmas.{sum_parts_fail, sum_unmade, sum_made}
use Rattle.duration_metric.proofs.sum_flat.SumProducerFlat.build.Goals as goal

-- the parts don't stand there
pub returns-in_err-parts : goal.returns-in_err-parts
returns-in_err-parts c =
    let p = err_from_is_err_and c.from_residual.result c.from_residual.ensures.1 in
    rw (p.1, p.2) (sum_parts_fail c.args.items.now c.args.place c.in_err-parts.field-0.0 c.in_err-parts.ensures)

-- no sum has the parts that stand there
pub returns-in_err-sums : goal.returns-in_err-sums
returns-in_err-sums c =
    let p = err_from_is_err_and c.from_residual-in_err-sums.result c.from_residual-in_err-sums.ensures.1 in
    rw (p.1, p.2) (sum_unmade c.args.items.now c.args.place c.in_ok-parts.parts c.in_ok-parts.next
    c.in_ok-parts.ensures c.in_err-sums.field-0.0 c.in_err-sums.ensures)

-- the sum has the parts that stand there
pub returns : goal.returns
returns c =
    sum_made c.args.items.now c.args.place c.in_ok-parts.parts c.in_ok-parts.next c.in_ok-parts.ensures
    c.in_ok-sums.sums c.in_ok-sums.ensures
