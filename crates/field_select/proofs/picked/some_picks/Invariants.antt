use Rattle.std.proofs.Common.{◌≡◌, drop}
use Rattle.std.specs.List.{list_any}
use Rattle.field_select.specs.FieldEnds.{picks_by_ends}
use Rattle.field_select.proofs.picked.some_picks.Given as goal

-- the leaves that are left decide
abbrev pub invariant-loop-leaf : goal.invariant-loop-leaf
invariant-loop-leaf l =
    list_any (λ leaf. picks_by_ends leaf l.entry l.first l.last) (drop l.leaf-index l.leaves) ≡ list_any
    (λ leaf. picks_by_ends leaf l.entry l.first l.last) l.leaves
