-- The frame that is sought stands so much further on in what is left.
use Rattle.std.proofs.Common.{◌≡◌, ◌-◌, slice_get}
use Rattle.load_session.specs.Frames.{load_frames}
use Rattle.load_session.proofs.session.load_frame.Given as goal

abbrev pub invariant-loop-turn : goal.invariant-loop-turn
invariant-loop-turn l = slice_get l.left (l.k - l._turn) ≡ slice_get (load_frames l.seed l.frames) l.k
