-- The rows that are left decide what all of them do.
use Rattle.std.proofs.Common.{◌≡◌, length}
use Rattle.config_decode.specs.Profile.{shape_in}
use Rattle.config_decode.proofs.profile.find_shape.Given as goal

abbrev pub invariant-loop-rows : goal.invariant-loop-rows
invariant-loop-rows l = shape_in l.other l.rows l.number ≡ shape_in l.other l.fn.rows l.number

abbrev pub decreases-loop-rows : goal.decreases-loop-rows
decreases-loop-rows l = length l.rows
