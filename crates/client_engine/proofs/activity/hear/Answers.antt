-- Without activations the metric is active.
use Rattle.std.proofs.Common.{arith}
use Rattle.std.proofs.lemmas.Bool.Decides.{nat_tests}
use Rattle.session_frames.specs.FrameReading.{log_time}
use Rattle.client_engine.proofs.ActivityLemmas.{none_asked}
use Rattle.client_engine.proofs.activity.hear.Goals as goal

pub returns-then-is_empty-clause-active : goal.returns-then-is_empty-clause-active
returns-then-is_empty-clause-active c =
    none_asked c.args.metric.now c.args.acts.now (log_time c.args.brought.now.frame.now)
    (grind (arith, nat_tests, c.if-is_empty.true, c.is_empty.ensures))
