-- The lists so far, before those of the predicates that are left.
use Rattle.std.proofs.Common.{◌≡◌, ◌++◌, ◌-◌, map, length}
use Rattle.std.specs.List.{range_with_len}
use Rattle.known_conditions.specs.Touchers.{touchers, all_touchers}
use Rattle.known_conditions.proofs.touchers.touchers_of_all.Given as goal

abbrev pub invariant-loop-root : goal.invariant-loop-root
invariant-loop-root l =
    l.lists ++ map (touchers l.predicates) (range_with_len l.root (length l.predicates - l.root))
    ≡ all_touchers l.predicates
