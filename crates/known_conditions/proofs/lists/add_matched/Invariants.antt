-- The places under the matchers so far are added.
use Rattle.std.proofs.Common.{◌≡◌, ◌++◌}
use Rattle.metric_meaning.specs.Histories.{truth_at}
use Rattle.known_conditions.proofs.ListsLemmas.{places_before}
use Rattle.known_conditions.proofs.lists.add_matched.Given as goal

abbrev pub invariant-loop-matcher : goal.invariant-loop-matcher
invariant-loop-matcher l =
    l.woken.items ≡ l.fn.woken.items ++ places_before l.lists (λ matcher. truth_at matcher l.matched) l.matcher
