-- It wakes up, and takes the frame.
use Rattle.std.proofs.lemmas.Result.{on_ok_weaker}
use Rattle.std.proofs.Common.{arith}
use Rattle.matcher_table.specs.Contents.{contents_of}
use Rattle.hub_core.specs.LoggedFrames.{logged_of}
use Rattle.hub_core.proofs.EvaluationLemmas.{same_twice}
use Rattle.hub_core.proofs.WokenLemmas.{woken_shown, woken_asks, same_live}
use Rattle.hub_core.proofs.live_instance.LiveInstance.log.Goals as goal

pub take-requires-clause-live : goal.take-requires-clause-live
take-requires-clause-live g c =
    same_live (contents_of c.args.logged.now.table.now) c.args.self.now c.wake.new.self c.wake.ensures.same
    c.requires.live

pub returns-clause-shown : goal.returns-clause-shown
returns-clause-shown g c =
    on_ok_weaker c.take.result
    (woken_shown (logged_of c.args.logged.now) c.args.self.now c.wake.new.self c.wake.ensures.same
    c.in_ok-wake.ensures.caught c.take.new.self)
    c.take.ensures.taken

pub returns-clause-same : goal.returns-clause-same
returns-clause-same g c =
    same_twice c.args.self.now c.wake.new.self c.take.new.self c.wake.ensures.same c.take.ensures.same

pub returns-clause-asks : goal.returns-clause-asks
returns-clause-asks g c =
    woken_asks (logged_of c.args.logged.now) c.args.self.now c.wake.new.self c.wake.ensures.same
    c.in_ok-wake.ensures.caught c.args.asks.now c.take.new.asks c.take.ensures.asks

-- where memory is wanting before, nothing is asked
pub returns-in_err-wake-clause-asks : goal.returns-in_err-wake-clause-asks
returns-in_err-wake-clause-asks g c = λ history frame asleep later view shown_is book_is. omega arith
