-- A new key is listed last, or dropped.
use Rattle.std.proofs.Common.{Contains, sym, subst}
use Rattle.std.specs.Map.{keys_of}
use Rattle.predicate_state.specs.PredicateTable.{PredicateTable}
use Rattle.predicate_state.proofs.PredicateStateLemmas.{new_key}
use Rattle.predicate_state.proofs.table.PredTable.append.Goals as goal

pub returns-clause-state : goal.returns-clause-state
returns-clause-state c =
    let absent = subst (λ (t : PredicateTable). ¬ Contains (keys_of t.state.counts) c.args.key.now) (sym c.self.view_is)
    c.requires.absent in
    rw (← c.self.view_is)
    (new_key c.self.inside.spec c.self.inside.unknown c.self.inside.counts c.admit_copy.new.self c.args.key.now
    c.args.count c.in_ok-admit_copy.field-0 c.self.invariant.0 absent c.in_ok-admit_copy.ensures.answer)
