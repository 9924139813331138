-- The frame came to the metrics at the places so far, and predicates know what they knew.
use Rattle.std.proofs.Common.{◌≡◌, take}
use Rattle.client_engine.specs.Bringing.{handed_with}
use Rattle.known_conditions.specs.Marks.{AreAllMarked}
use Rattle.client_engine.specs.Woken.{AreWoken}
use Rattle.client_engine.proofs.tracks.Tracks.wake_all.Given as goal

abbrev pub invariant-loop-turn : goal.invariant-loop-turn
invariant-loop-turn g l =
    AreWoken (handed_with l.fn.conditions l.brought) l.brought.frame.now l.brought.matched.now
    l.fn.self.list.items l.fn.asks l.self.list.items l.self.marks.items l.asks l.next
    × (l.conditions ≡ l.fn.conditions)
    × AreAllMarked (take l.turn l.woken) l.self.marks.items
    × (l.self.due ≡ l.fn.self.due)
