use Rattle.std.proofs.Common.{◌≡◌, take}
use Rattle.condition_links.proofs.links.table_of.Given as goal

-- the table has the leaves so far
abbrev pub invariant-loop-leaf : goal.invariant-loop-leaf
invariant-loop-leaf l = l.table ≡ take l.leaf-index l.leaves
