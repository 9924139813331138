use Rattle.std.proofs.Common.{◌≡◌, ◌++◌, map, drop}
use Rattle.link_rules.specs.EntityIds.{set_ids}
use Rattle.config_links.specs.MetricSlices.{linked_atom}
use Rattle.config_links.proofs.slices.collect_linked_atoms.Given as goal

-- the atoms so far and those of what is left are all
abbrev pub invariant-loop-sets : goal.invariant-loop-sets
invariant-loop-sets l =
    l.atoms ++ set_ids (map linked_atom (drop l.sets-index l.links)) ≡ set_ids (map linked_atom l.links)
