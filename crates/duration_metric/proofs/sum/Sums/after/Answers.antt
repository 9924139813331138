-- Behind an error no inner key is left, and none is counted.
use Rattle.std.proofs.Common.{ap}
use Rattle.std.proofs.lemmas.Result.{IfOk-at_ok}
use Rattle.predicate_state.specs.PredicateTable.{LeafKey}
use Rattle.dim_table.specs.Table.{Table}
use Rattle.duration_metric.specs.declared.inner.Inner.{Inner}
use Rattle.duration_metric.specs.SumParts.{HasRightTally}
use Rattle.duration_metric.proofs.SumTallyLemmas.{tally_begins}
use Rattle.duration_metric.proofs.sum.Sums.after.Goals as goal

-- there was none
pub returns-in_default-clause-tally : goal.returns-in_default-clause-tally
returns-in_default-clause-tally c right =
    IfOk-at_ok (λ _. HasRightTally c.args.self.now) c.in_default.is right

pub returns-clause-tally : goal.returns-clause-tally
returns-clause-tally c right =
    tally_begins _ (ap (λ (t : Table LeafKey Inner). t.rows) c.clear.ensures) c.clear-2.ensures c.new.ensures
