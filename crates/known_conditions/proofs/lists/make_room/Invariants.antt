-- What was listed still is, and there is a list at each place so far.
use Rattle.std.proofs.Common.{◌≤◌, length}
use Rattle.known_conditions.specs.Lists.{KeepsListed}
use Rattle.known_conditions.proofs.lists.make_room.Given as goal

abbrev pub invariant-loop-turn : goal.invariant-loop-turn
invariant-loop-turn l = KeepsListed l.fn.lists.items l.lists.items × (l._turn ≤ length l.lists.items)
