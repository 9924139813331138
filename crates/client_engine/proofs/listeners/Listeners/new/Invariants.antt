-- The metrics so far are in the lists of what wakes them.
use Rattle.std.proofs.Common.{map}
use Rattle.client_engine.specs.Tracks.{metric_in}
use Rattle.client_engine.specs.Waking.{wakers, told_states}
use Rattle.known_conditions.proofs.ListsLemmas.{AreListedBefore}
use Rattle.client_engine.proofs.listeners.Listeners.new.Given as goal

abbrev pub invariant-loop-place : goal.invariant-loop-place
invariant-loop-place l =
    AreListedBefore l.by_matcher.items (wakers l.conditions.predicates) (map metric_in l.tracks) l.place
    × AreListedBefore l.by_state.items told_states (map metric_in l.tracks) l.place
