use Rattle.std.proofs.Common.{◌≡◌, drop, map, Some}
use Rattle.link_rules.specs.EntityNames.{first_unknown}
use Rattle.link_rules.proofs.names.find_unknown_child.Given as goal

abbrev pub invariant-loop-id : goal.invariant-loop-id
invariant-loop-id l =
    first_unknown l.known (map Some (drop l.id-index l.children))
    ≡ first_unknown l.known (map Some l.children)
