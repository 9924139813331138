use Rattle.std.proofs.Common.{◌≡◌, ◌++◌, map, drop}
use Rattle.condition_links.specs.LinkBinds.{value_at_leaf}
use Rattle.condition_links.proofs.links.values_at.Given as goal

-- the values so far, and those at the leaves that are left
abbrev pub invariant-loop-leaf : goal.invariant-loop-leaf
invariant-loop-leaf l =
    l.key ++ map (λ leaf. value_at_leaf l.leaves l.values leaf) (drop l.leaf-index l.others)
    ≡ map (λ leaf. value_at_leaf l.leaves l.values leaf) l.others
