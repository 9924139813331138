use Rattle.std.proofs.Common.{◌≡◌, drop}
use Rattle.std.specs.List.{list_all}
use Rattle.config_links.specs.MetricLinks.{is_even}
use Rattle.config_links.proofs.links.are_even.Given as goal

-- what is left is even exactly if all are
abbrev pub invariant-loop-sets : goal.invariant-loop-sets
invariant-loop-sets l = list_all is_even (drop l.sets-index l.links) ≡ list_all is_even l.links
