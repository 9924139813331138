-- A listed key has the count after one more start.
use Rattle.std.proofs.Common.{ap, ◌∙◌}
use Rattle.predicate_state.specs.PredicateStates.{count_after_start}
use Rattle.predicate_state.specs.PredicateTable.{PredicateTable}
use Rattle.predicate_state.proofs.PredicateStateLemmas.{started}
use Rattle.predicate_state.proofs.table.PredTable.start.Goals as goal

pub returns-in-Some-clause-state : goal.returns-in-Some-clause-state
returns-in-Some-clause-state c =
    c.set_count.ensures
    ∙ started c.args.self.now c.args.key.now c.in-Some.place c.in-Some.count c.in-Some.ensures.count
    c.in-Some.ensures.place c.add_start-more.result
    (c.add_start-more.ensures
    ∙ ap (λ (t : PredicateTable). count_after_start t.spec.nesting c.in-Some.count) c.self.view_is)
