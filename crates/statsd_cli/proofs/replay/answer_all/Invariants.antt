-- The run under way: what was served was answered. A session has 2^32 frames at most.
use Rattle.std.proofs.Common.{◌-◌}
use Rattle.sd_io.specs.States.{ports}
use Rattle.session_frames.specs.Frames.{most_session_frames}
use Rattle.statsd_cli.specs.Serving.{origin_at, IsAlong}
use Rattle.statsd_cli.proofs.replay.answer_all.Given as goal

abbrev pub invariant-frames : goal.invariant-frames
invariant-frames g l =
    IsAlong (origin_at l.fn.serving (g.S.Source.state l.fn.input)) (g.K.Sink.state l.fn.out)
    (ports (g.S.Source.state l.input) (g.K.Sink.state l.out)) l.serving

abbrev pub decreases-frames : goal.decreases-frames
decreases-frames g l = most_session_frames - l.serving.reader.place.frames
