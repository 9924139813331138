-- The matchers of the predicates so far stand after what was there.
use Rattle.std.proofs.Common.{◌≡◌, ◌++◌, take}
use Rattle.std.specs.List.{flat_map}
use Rattle.config_links.specs.declared.linked.LPredicate.{LPredicate}
use Rattle.config_links.specs.OwnMatchers.{predicate_matchers}
use Rattle.heard_ids.proofs.heeded.add_of_predicates.Given as goal

abbrev pub invariant-loop-predicate : goal.invariant-loop-predicate
invariant-loop-predicate l = l.places ≡ l.fn.places
    ++ flat_map (λ (predicate : LPredicate). predicate_matchers predicate.body) (take l.predicate-index l.predicates)
