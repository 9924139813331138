-- Nothing is asked so far.
use Rattle.std.proofs.Common.{◌≡◌, [], replicate}
use Rattle.known_conditions.proofs.asked.make_lists.Given as goal

abbrev pub invariant-loop : goal.invariant-loop
invariant-loop l = l.binds.items ≡ replicate l.counter []
