-- As many lists as before, of which those so far are empty.
use Rattle.std.proofs.Common.{◌≡◌, [], length, replicate, take}
use Rattle.known_conditions.proofs.asked.clear_lists.Given as goal

abbrev pub invariant-loop-at : goal.invariant-loop-at
invariant-loop-at l =
    (length l.binds.items ≡ length l.fn.binds.items) × (take l.at l.binds.items ≡ replicate l.at [])
