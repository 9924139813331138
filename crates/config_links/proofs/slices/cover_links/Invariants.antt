use Rattle.std.proofs.Common.{◌≡◌, drop}
use Rattle.std.specs.List.{list_all}
use Rattle.config_links.specs.declared.linked.LLink.{LLink}
use Rattle.config_links.specs.MetricLinks.{are_one_of}
use Rattle.config_links.proofs.slices.cover_links.Given as goal

-- what is left is covered exactly if all is
abbrev pub invariant-loop-link : goal.invariant-loop-link
invariant-loop-link l =
    list_all (λ (link : LLink). are_one_of l.table.atom_id l.table.leaves link.in_what) (drop l.link-index l.links)
    ≡ list_all (λ (link : LLink). are_one_of l.table.atom_id l.table.leaves link.in_what) l.links
