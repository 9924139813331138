use Rattle.std.proofs.Common.{◌≡◌, drop}
use Rattle.link_rules.specs.EntityNames.{unknown_in}
use Rattle.link_rules.specs.LinkFaults.{unknown_matcher}
use Rattle.link_rules.proofs.names.unknown_matcher_in.Given as goal

abbrev pub invariant-loop-entity : goal.invariant-loop-entity
invariant-loop-entity g l =
    unknown_in unknown_matcher l.kind l.known g.E.Entity.matchers (drop l.entity-index l.entities)
    ≡ unknown_in unknown_matcher l.kind l.known g.E.Entity.matchers l.entities
