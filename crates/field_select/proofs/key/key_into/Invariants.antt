use Rattle.std.proofs.Common.{◌≡◌, ◌++◌, drop, map}
use Rattle.field_select.specs.LeafValues.{leaf_value}
use Rattle.field_select.proofs.key.key_into.Given as goal

-- the key so far, and what the atom has at the leaves that are left, are the whole key
abbrev pub invariant-loop-leaf : goal.invariant-loop-leaf
invariant-loop-leaf l =
    l.key ++ map (λ leaf. leaf_value l.set.atom_id leaf l.atom) (drop l.leaf-index l.leaf-items) ≡ map
    (λ leaf. leaf_value l.set.atom_id leaf l.atom) l.leaf-items
