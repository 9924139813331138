use Rattle.std.proofs.Common.{◌≡◌, drop, map}
use Rattle.link_rules.specs.EntityIds.{no_id_from, no_id_in}
use Rattle.link_rules.proofs.ids.find_missing_id.Given as goal

abbrev pub invariant-loop-place : goal.invariant-loop-place
invariant-loop-place g l =
    no_id_from l.kind l.place (map g.E.Entity.id (drop l.place l.entities))
    ≡ no_id_in l.kind (map g.E.Entity.id l.entities)
