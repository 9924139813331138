-- Frames of the log were served since the call began. A session has 2^32 frames at most.
use Rattle.std.proofs.Common.{◌-◌, List}
use Rattle.session_frames.specs.declared.frame.Frame.{Frame}
use Rattle.session_frames.specs.Frames.{most_session_frames}
use Rattle.statsd_cli.specs.Serving.{HasLogged, IsServed, Origin}
use Rattle.statsd_cli.proofs.serving.Serving.log_on.Given as goal

abbrev pub invariant-logs : goal.invariant-logs
invariant-logs g l =
    (origin : Origin) (frames : List Frame) → IsServed origin (g.S.Source.state l.fn.input) l.fn.self frames
    → HasLogged origin (g.S.Source.state l.input) frames l.fn.self l.self

abbrev pub decreases-logs : goal.decreases-logs
decreases-logs g l = most_session_frames - l.self.reader.place.frames
