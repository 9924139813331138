use Rattle.std.proofs.Common.{◌≡◌, drop}
use Rattle.std.specs.List.{list_all}
use Rattle.config_links.specs.declared.sets.LinkSets.{LinkSets}
use Rattle.config_links.specs.MetricLinks.{is_asked}
use Rattle.config_links.proofs.asked.all_asked.Given as goal

-- what is left is asked exactly if all are
abbrev pub invariant-loop-sets : goal.invariant-loop-sets
invariant-loop-sets l =
    list_all (λ (sets : LinkSets). is_asked l.scope l.condition sets.condition) (drop l.sets-index l.links)
    ≡ list_all (λ (sets : LinkSets). is_asked l.scope l.condition sets.condition) l.links
