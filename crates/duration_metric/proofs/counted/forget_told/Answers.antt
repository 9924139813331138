-- The key that was told of a row goes, if there is one.
use Rattle.std.proofs.Common.{subst}
use Rattle.dim_table.specs.Table.{keys}
use Rattle.duration_metric.specs.Tallies.{Forgets}
use Rattle.duration_metric.proofs.ZerosLemmas.{forgets_none}
use Rattle.duration_metric.proofs.counted.forget_told.Goals as goal

-- there is none
pub returns-in_default-clause-zeros : goal.returns-in_default-clause-zeros
returns-in_default-clause-zeros c =
    let rows = keys c.args.table.now in
    subst (λ some. Forgets c.args.tally.now c.args.tally.now some rows) c.in_default.ensures
    (forgets_none c.args.tally.now rows)

pub returns-clause-zeros : goal.returns-clause-zeros
returns-clause-zeros c =
    subst (λ some. Forgets c.args.tally.now c.forget_one.new.tally some (keys c.args.table.now)) c.in-Some.ensures
    c.forget_one.ensures.zeros
