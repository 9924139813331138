use Rattle.std.proofs.Common.{◌≡◌, drop}
use Rattle.link_rules.specs.EntityNames.{unknown_in}
use Rattle.link_rules.specs.LinkFaults.{unknown_predicate}
use Rattle.link_rules.proofs.names.unknown_predicate_in.Given as goal

abbrev pub invariant-loop-entity : goal.invariant-loop-entity
invariant-loop-entity g l =
    unknown_in unknown_predicate l.kind l.known g.E.Entity.predicates (drop l.entity-index l.entities)
    ≡ unknown_in unknown_predicate l.kind l.known g.E.Entity.predicates l.entities
