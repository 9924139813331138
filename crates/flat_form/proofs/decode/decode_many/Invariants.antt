-- The values so far, and those of the rest after them, are those of all the bytes.
use Rattle.std.proofs.Common.{◌≡◌, ◌-◌}
use Rattle.sd_base.specs.Reads.{many, with_front}
use Rattle.flat_form.proofs.decode.decode_many.Given as goal

abbrev pub invariant-loop-turn : goal.invariant-loop-turn
invariant-loop-turn g l = with_front l.values (many g.T.Decode.at (l.count - l._turn) l.rest)
    ≡ many g.T.Decode.at l.count l.bytes
