use Rattle.std.proofs.Common.{◌≡◌, drop}
use Rattle.std.specs.List.{list_all}
use Rattle.config_links.specs.MetricLinks.{is_one_of}
use Rattle.config_links.proofs.table.DimsTable.covers.Given as goal

-- what is left is covered exactly if all is
abbrev pub invariant-loop-leaf : goal.invariant-loop-leaf
invariant-loop-leaf l =
    list_all (is_one_of l.self.atom_id l.self.leaves l.set.atom_id) (drop l.leaf-index l.set.leaves)
    ≡ list_all (is_one_of l.self.atom_id l.self.leaves l.set.atom_id) l.set.leaves
