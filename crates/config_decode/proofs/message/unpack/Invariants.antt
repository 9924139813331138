-- What was read and what is still packed are all the numbers.
use Rattle.std.proofs.Common.{◌≡◌, ◌++◌, length}
use Rattle.config_decode.specs.Walk.{packed_at}
use Rattle.config_decode.proofs.message.unpack.Given as goal

abbrev pub invariant-loop-rest : goal.invariant-loop-rest
invariant-loop-rest l =
    l.numbers.items ++ (packed_at 0 l.rest).numbers ≡ l.fn.numbers.items ++ (packed_at 0 l.packed).numbers

abbrev pub decreases-loop-rest : goal.decreases-loop-rest
decreases-loop-rest l = length l.rest
