-- What is left has the fault of the whole.
use Rattle.std.proofs.Common.{◌≡◌, length}
use Rattle.config_decode.specs.Walk.{packed_at}
use Rattle.config_decode.proofs.walk.check_packed.Given as goal

abbrev pub invariant-loop-rest : goal.invariant-loop-rest
invariant-loop-rest l = (packed_at l.at l.rest).fault ≡ (packed_at l.at l.packed).fault

abbrev pub decreases-loop-rest : goal.decreases-loop-rest
decreases-loop-rest l = length l.rest
