-- A table that isn't kept as its predicate says is none of those that are.
use Rattle.std.proofs.Common.{◌<◌, length, sym, ap, ◌∙◌, arith}
use Rattle.predicate_state.specs.PredicateTable.{PredicateTable}
use Rattle.known_conditions.proofs.KeptPredicatesLemmas.{spec_there}
use Rattle.client_engine.proofs.saved.tables.have_their_specs.Goals as goal

pub returns-then-not-is_same_spec : goal.returns-then-not-is_same_spec
returns-then-not-is_same_spec c =
    let same = c.if-predicates-tables.false in
    let there = c.loop-place-test.true in
    let within : c.loop-place.place < length c.args.predicates.now = omega (arith, same, there) in (
      λ no. absurd cc,
      λ have. c.if-not-is_same_spec.ensures.1 (
          c.spec.ensures ∙ ap (λ (t : PredicateTable). t.spec) c.index-tables-place.is
          ∙ spec_there c.args.predicates.now c.args.tables.now c.loop-place.place c.index-predicates-place.result
          c.index-tables-place.result have within
          ∙ sym c.spec_of.ensures),
    )
