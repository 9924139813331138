-- The matchers so far, before those of the places that are left.
use Rattle.std.proofs.Common.{◌≡◌, ◌++◌, ◌-◌, length}
use Rattle.std.specs.List.{flat_map, range_with_len}
use Rattle.known_conditions.specs.Touchers.{matchers_below, touchers}
use Rattle.known_conditions.proofs.touchers.touchers_of.Given as goal

abbrev pub invariant-loop-place : goal.invariant-loop-place
invariant-loop-place l =
    l.list ++ flat_map (matchers_below l.predicates l.root)
    (range_with_len l.place (length l.predicates - l.place))
    ≡ touchers l.predicates l.root
