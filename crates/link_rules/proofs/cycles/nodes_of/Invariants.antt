use Rattle.std.proofs.Common.{map, take}
use Rattle.link_rules.specs.CycleNodes.{ArePlacesOf}
use Rattle.link_rules.proofs.cycles.nodes_of.Given as goal

abbrev pub invariant-loop-entity : goal.invariant-loop-entity
invariant-loop-entity g l = ArePlacesOf l.known (map g.E.Linking.node (take l.entity-index l.entities)) l.nodes
