-- The place is listed under the keys so far, and what was listed still is.
use Rattle.std.proofs.Common.{take}
use Rattle.known_conditions.specs.Lists.{KeepsListed, IsListedUnder}
use Rattle.known_conditions.proofs.lists.list_under.Given as goal

abbrev pub invariant-loop-turn : goal.invariant-loop-turn
invariant-loop-turn l =
    KeepsListed l.fn.lists.items l.lists.items × IsListedUnder l.lists.items (take l.turn l.keys) l.place
