-- One frame after the other, to the one with which the run ends.
use Rattle.statsd_cli.proofs.RunLemmas.{begins_along}
use Rattle.statsd_cli.proofs.replay.answer_all.Goals as goal

pub frames-init : goal.frames-init
frames-init g c = begins_along _ _ _ c.requires

pub frames-smaller : goal.frames-smaller
frames-smaller g c = (c.in_default.ensures _ _ c.frames.invariant).nearer

pub frames-preserved : goal.frames-preserved
frames-preserved g c = (c.in_default.ensures _ _ c.frames.invariant).along

pub returns-in-Some : goal.returns-in-Some
returns-in-Some g c = c.in-Some.ensures _ _ c.frames.invariant
