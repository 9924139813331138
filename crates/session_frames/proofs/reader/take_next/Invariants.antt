-- What is held was taken, and is no more than the judgement asks for.
use Rattle.std.proofs.Common.{◌-◌}
use Rattle.session_frames.specs.FrameLimits.{most_pending}
use Rattle.session_frames.proofs.ReaderLemmas.{IsHeldSo}
use Rattle.session_frames.proofs.reader.take_next.Given as goal

abbrev pub invariant-reads : goal.invariant-reads
invariant-reads g l = IsHeldSo (g.S.Source.state l.fn.src) (g.S.Source.state l.src) l.place l.room.items l.held

abbrev pub decreases-reads : goal.decreases-reads
decreases-reads g l = most_pending - l.held
