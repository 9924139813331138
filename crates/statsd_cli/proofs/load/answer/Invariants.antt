-- The session under way: what was answered was counted, and the rest is left.
use Rattle.std.proofs.Common.{length}
use Rattle.statsd_cli.proofs.LoadLemmas.{IsUnderWay}
use Rattle.statsd_cli.proofs.load.answer.Given as goal

abbrev pub invariant-frames : goal.invariant-frames
invariant-frames g l = IsUnderWay l.fn.seed l.fn.frames l.session l.hub l.totals

abbrev pub decreases-frames : goal.decreases-frames
decreases-frames g l = length l.session
