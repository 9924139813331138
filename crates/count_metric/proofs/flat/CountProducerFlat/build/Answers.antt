-- A producer of counts is built from its parts.
use Rattle.std.proofs.lemmas.Result.{err_from_is_err_and}
use Rattle.count_metric.proofs.CountItemsLemmas.{count_fails, count_built}
use Rattle.count_metric.proofs.flat.CountProducerFlat.build.Goals as goal

-- no such parts stand there
pub returns-in_err-parts : goal.returns-in_err-parts
returns-in_err-parts c =
    let p = err_from_is_err_and c.from_residual.result c.from_residual.ensures.1 in
    rw (p.1, p.2) (count_fails c.args.items.now c.args.place c.in_err-parts.field-0.0 c.in_err-parts.ensures)

-- the producer of the parts
pub returns : goal.returns
returns c = count_built c.args.alloc c.args.items.now c.args.place c.in_ok-parts.parts c.in_ok-parts.next
    c.in_ok-parts.ensures
