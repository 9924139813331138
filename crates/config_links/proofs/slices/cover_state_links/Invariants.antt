use Rattle.std.proofs.Common.{◌≡◌, drop}
use Rattle.std.specs.List.{list_all}
use Rattle.config_links.specs.declared.sets.StateLinkSets.{StateLinkSets}
use Rattle.config_links.specs.MetricLinks.{are_one_of}
use Rattle.config_links.proofs.slices.cover_state_links.Given as goal

-- what is left is covered exactly if all is
abbrev pub invariant-loop-sets : goal.invariant-loop-sets
invariant-loop-sets l =
    list_all (λ (sets : StateLinkSets). are_one_of l.table.atom_id l.table.leaves sets.in_what)
    (drop l.sets-index l.links)
    ≡ list_all (λ (sets : StateLinkSets). are_one_of l.table.atom_id l.table.leaves sets.in_what) l.links
