-- The values that are left decide.
use Rattle.std.proofs.Common.{◌≡◌, map, drop}
use Rattle.predicate_state.specs.PredicateTable.{same_leaves}
use Rattle.condition_links.specs.LinkBinds.{value_at_leaf}
use Rattle.condition_links.proofs.apart.are_values.Given as goal

abbrev pub invariant-loop-turn : goal.invariant-loop-turn
invariant-loop-turn l =
    same_leaves (drop l.turn l.read) (map (λ leaf. value_at_leaf l.inner l.key leaf) (drop l.turn l.leaves))
    ≡ same_leaves l.read (map (λ leaf. value_at_leaf l.inner l.key leaf) l.leaves)
