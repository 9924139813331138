use Rattle.std.proofs.Common.{◌≡◌, map, take}
use Rattle.link_rules.specs.EntityIds.{place_in}
use Rattle.link_rules.proofs.cycles.children_of.Given as goal

abbrev pub invariant-loop-id : goal.invariant-loop-id
invariant-loop-id l = l.places ≡ map (place_in l.known) (take l.id-index l.ids)
