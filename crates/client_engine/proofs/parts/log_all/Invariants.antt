-- The tracks so far took the frame and asked no more than they may, the others are as they were, and predicates know
-- what they knew.
use Rattle.std.proofs.Common.{◌≡◌}
use Rattle.client_engine.specs.Bringing.{handed_with}
use Rattle.client_engine.proofs.TracksLemmas.{AreStepped, AreAsked}
use Rattle.client_engine.proofs.parts.log_all.Given as goal

abbrev pub invariant-loop-track : goal.invariant-loop-track
invariant-loop-track g l =
    AreStepped (handed_with l.fn.conditions l.brought) l.brought.frame.now l.brought.matched.now
    l.initial.track-items l.track-items l.track-index
    × (l.conditions ≡ l.fn.conditions)
    × AreAsked (handed_with l.fn.conditions l.brought) l.brought.frame.now l.brought.matched.now
    l.initial.track-items l.track-index l.fn.asks l.asks
