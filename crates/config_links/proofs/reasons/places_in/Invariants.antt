use Rattle.std.proofs.Common.{◌≡◌, map, take}
use Rattle.link_rules.specs.EntityIds.{place_in}
use Rattle.config_links.proofs.reasons.places_in.Given as goal

-- the places so far are those of the ids so far
abbrev pub invariant-loop-id : goal.invariant-loop-id
invariant-loop-id l = l.places ≡ map (place_in l.known) (take l.id-index l.ids)
