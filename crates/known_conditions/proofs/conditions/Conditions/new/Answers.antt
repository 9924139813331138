use Rattle.std.proofs.Common.{◌∙◌, [], All, sym, ap, subst}
use Rattle.metric_meaning.specs.PredicateSteps.{tables_after}
use Rattle.known_conditions.specs.KeptPredicates.{HasBound}
use Rattle.known_conditions.proofs.KeptPredicatesLemmas.{new_kept}
use Rattle.known_conditions.proofs.conditions.Conditions.new.Goals as goal

-- each table has a bound
pub new_tables-requires : goal.new_tables-requires
new_tables-requires c =
    record { bound = subst (All HasBound) (sym c.as_slice.ensures) c.requires.can_be_kept.bounds }

-- the tables are kept as the predicates say
pub with_tables-requires : goal.with_tables-requires
with_tables-requires c = record {
  kept = new_kept c.args.predicates c.in_ok-tables.tables.items c.requires.can_be_kept
      (c.in_ok-tables.ensures ∙ ap (λ predicates. tables_after predicates []) c.as_slice.ensures);
}
