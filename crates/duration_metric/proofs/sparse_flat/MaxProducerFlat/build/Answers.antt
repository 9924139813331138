-- A longest duration is built from its parts.
use Rattle.std.proofs.lemmas.Result.{err_from_is_err_and}
use Rattle.duration_metric.proofs.SparseFormLemmas.{longest_parts_fail, longest_unmade, longest_made}
use Rattle.duration_metric.proofs.sparse_flat.MaxProducerFlat.build.Goals as goal

-- the parts don't stand there
pub returns-in_err-parts : goal.returns-in_err-parts
returns-in_err-parts c =
    let p = err_from_is_err_and c.from_residual.result c.from_residual.ensures.1 in
    rw (p.1, p.2) (longest_parts_fail c.args.items.now c.args.place c.in_err-parts.field-0.0 c.in_err-parts.ensures)

-- no longest duration has the parts that stand there
pub returns-in_default : goal.returns-in_default
returns-in_default c =
    longest_unmade c.args.items.now c.args.place c.in_ok-parts.parts c.in_ok-parts.next c.in_ok-parts.ensures
    c.in_default.ensures

-- the one that has the parts that stand there
pub returns : goal.returns
returns c =
    longest_made c.args.items.now c.args.place c.in_ok-parts.parts c.in_ok-parts.next c.in_ok-parts.ensures
    c.in-Some.longest c.in-Some.ensures
