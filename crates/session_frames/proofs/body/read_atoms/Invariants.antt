-- The atoms so far, and those of the rest after them, are those of all the bytes.
use Rattle.std.proofs.Common.{◌≡◌, ◌-◌, length, All}
use Rattle.sd_base.specs.Reads.{many, with_front}
use Rattle.session_frames.specs.Faultless.{IsPulledAtom}
use Rattle.session_frames.specs.FrameReading.{pulled_at}
use Rattle.session_frames.proofs.body.read_atoms.Given as goal

abbrev pub invariant-loop-turn : goal.invariant-loop-turn
invariant-loop-turn l = record {
  reads : with_front l.atoms (many (pulled_at l.id) (l.count - l._turn) l.rest) ≡ many (pulled_at l.id) l.count l.bytes;
  some : length l.atoms ≡ l._turn;
  sound : All (IsPulledAtom l.id) l.atoms;
}
