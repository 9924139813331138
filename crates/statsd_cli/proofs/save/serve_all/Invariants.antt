-- These frames were served. A session has 2^32 frames at most.
use Rattle.std.proofs.Common.{◌-◌, List}
use Rattle.session_frames.specs.declared.frame.Frame.{Frame}
use Rattle.session_frames.specs.Frames.{most_session_frames}
use Rattle.statsd_cli.specs.Serving.{origin_at, IsServed}
use Rattle.statsd_cli.proofs.save.serve_all.Given as goal

abbrev pub invariant-frames : goal.invariant-frames
invariant-frames g l =
    (frames : List Frame)
    × IsServed (origin_at l.fn.serving (g.S.Source.state l.fn.input)) (g.S.Source.state l.input) l.serving frames

abbrev pub decreases-frames : goal.decreases-frames
decreases-frames g l = most_session_frames - l.serving.reader.place.frames
