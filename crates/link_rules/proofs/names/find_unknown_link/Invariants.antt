use Rattle.std.proofs.Common.{◌≡◌, drop, map}
use Rattle.link_rules.specs.EntityNames.{first_unknown, link_condition}
use Rattle.link_rules.proofs.names.find_unknown_link.Given as goal

abbrev pub invariant-loop-link : goal.invariant-loop-link
invariant-loop-link l =
    first_unknown l.known (map link_condition (drop l.link-index l.links))
    ≡ first_unknown l.known (map link_condition l.links)
