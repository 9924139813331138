-- The places so far are added.
use Rattle.std.proofs.Common.{◌≡◌, ◌++◌, take}
use Rattle.known_conditions.proofs.lists.add_all.Given as goal

abbrev pub invariant-loop-place : goal.invariant-loop-place
invariant-loop-place l = l.woken.items ≡ l.fn.woken.items ++ take l.place-index l.places
