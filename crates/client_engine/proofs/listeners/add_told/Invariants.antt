-- The places under the states so far are added.
use Rattle.std.proofs.Common.{◌≡◌, ◌++◌}
use Rattle.client_engine.specs.Waking.{is_told_at}
use Rattle.known_conditions.proofs.ListsLemmas.{places_before}
use Rattle.client_engine.proofs.listeners.add_told.Given as goal

abbrev pub invariant-loop-state : goal.invariant-loop-state
invariant-loop-state l =
    l.woken.items ≡ l.fn.woken.items ++ places_before l.lists (is_told_at l.states l.id) l.state
