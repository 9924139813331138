use Rattle.std.proofs.Common.{◌≡◌}
use Rattle.predicate_state_tests.proofs.played.played.Given as goal

-- keys have as many leaves as at first
abbrev pub invariant-loop-event : goal.invariant-loop-event
invariant-loop-event l =
    (goal.iterator-loop-event).can_next l.event-iterator ×
    (goal.iterator-loop-event).is_finite l.event-iterator ×
    l.table.spec.leaves ≡ l.spec.leaves
