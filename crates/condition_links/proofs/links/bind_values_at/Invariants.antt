-- The values so far are bound.
use Rattle.std.proofs.Common.{◌≡◌, map, take}
use Rattle.condition_links.specs.LinkBinds.{binds_of, value_at_leaf}
use Rattle.condition_links.proofs.links.bind_values_at.Given as goal

abbrev pub invariant-loop-leaf : goal.invariant-loop-leaf
invariant-loop-leaf l =
    l.binds ≡ binds_of l.places (map (λ leaf. value_at_leaf l.leaves l.values leaf) (take l.leaf-index l.others))
