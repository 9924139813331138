-- The key has the leaves so far.
use Rattle.std.proofs.Common.{◌≡◌}
use Rattle.flat_form.proofs.decode.key_from.Given as goal

abbrev pub invariant-loop-leaf : goal.invariant-loop-leaf
invariant-loop-leaf l = l.key ≡ l.yielded
