-- The values that are left decide.
use Rattle.std.proofs.Common.{◌≡◌, map, drop}
use Rattle.predicate_state.specs.PredicateTruths.{agrees}
use Rattle.condition_links.specs.LinkBinds.{binds_of, value_at_leaf}
use Rattle.condition_links.proofs.apart.have_values.Given as goal

abbrev pub invariant-loop-turn : goal.invariant-loop-turn
invariant-loop-turn l =
    agrees (binds_of (drop l.turn l.places) (map (λ leaf. value_at_leaf l.inner l.key leaf) (drop l.turn l.leaves)))
    l.other
    ≡ agrees (binds_of l.places (map (λ leaf. value_at_leaf l.inner l.key leaf) l.leaves)) l.other
