-- The atom acted on the predicates at the places so far.
use Rattle.std.proofs.Common.{take}
use Rattle.known_conditions.specs.KeptPredicates.{AreActedOn}
use Rattle.known_conditions.specs.Marks.{AreAllMarked}
use Rattle.known_conditions.proofs.tables.act_on_each.Given as goal

abbrev pub invariant-loop-turn : goal.invariant-loop-turn
invariant-loop-turn l =
    AreActedOn l.act.matched.now l.act.atom.now l.predicates l.fn.tables l.tables l.marks
    × AreAllMarked (take l.turn l.places) l.marks
