use Rattle.std.proofs.Common.{◌≡◌, ◌++◌, map, drop}
use Rattle.link_rules.specs.EntityIds.{set_ids}
use Rattle.config_links.specs.MetricLinks.{named_condition}
use Rattle.config_links.proofs.asked.named_conditions.Given as goal

-- the ids so far and those of what is left are all
abbrev pub invariant-loop-sets : goal.invariant-loop-sets
invariant-loop-sets l =
    l.ids ++ set_ids (map named_condition (drop l.sets-index l.links)) ≡ set_ids (map named_condition l.links)
