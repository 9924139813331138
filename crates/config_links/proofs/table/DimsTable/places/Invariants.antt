use Rattle.std.proofs.Common.{◌≡◌, map, take}
use Rattle.config_links.specs.MetricLinks.{leaf_place}
use Rattle.config_links.proofs.table.DimsTable.places.Given as goal

-- the places so far are those of the leaves so far
abbrev pub invariant-loop-leaf : goal.invariant-loop-leaf
invariant-loop-leaf l = l.places ≡ map (leaf_place l.self.leaves) (take l.leaf-index l.leaves)
