-- The tables so far, before those of the predicates that are left.
use Rattle.std.proofs.Common.{◌≡◌, [], ◌++◌, drop}
use Rattle.metric_meaning.specs.PredicateSteps.{tables_after}
use Rattle.known_conditions.proofs.tables.new_tables.Given as goal

abbrev pub invariant-loop-predicate : goal.invariant-loop-predicate
invariant-loop-predicate l =
    l.tables.items ++ tables_after (drop l.predicate-index l.predicates) [] ≡ tables_after l.predicates []
