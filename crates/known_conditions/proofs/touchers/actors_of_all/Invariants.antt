-- The predicates so far are in the lists of their matchers.
use Rattle.known_conditions.specs.KeptPredicates.{acting_matchers}
use Rattle.known_conditions.proofs.ListsLemmas.{AreListedBefore}
use Rattle.known_conditions.proofs.touchers.actors_of_all.Given as goal

abbrev pub invariant-loop-place : goal.invariant-loop-place
invariant-loop-place l = AreListedBefore l.lists.items acting_matchers l.predicates l.place
