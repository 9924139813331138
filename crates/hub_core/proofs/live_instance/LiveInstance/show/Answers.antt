-- It wakes up, and reports.
use Rattle.std.proofs.lemmas.Result.{IfOk-weaker}
use Rattle.hub_core.specs.Sleeping.{moment_of_clock}
use Rattle.hub_core.proofs.EvaluationLemmas.{same_twice}
use Rattle.hub_core.proofs.WokenLemmas.{woken_reports}
use Rattle.hub_core.proofs.live_instance.LiveInstance.show.Goals as goal

pub returns-clause-reports : goal.returns-clause-reports
returns-clause-reports c =
    IfOk-weaker c.show_awake.result _ _
    (λ tree reports. woken_reports (moment_of_clock c.args.clock) c.args.self.now.carried.instance
    c.wake.new.self.carried.instance c.show_awake.new.self.carried.instance c.args.request c.args.states.now tree
    c.in_ok-wake.ensures.caught reports)
    c.show_awake.ensures.reports

pub returns-clause-slots : goal.returns-clause-slots
returns-clause-slots c =
    same_twice c.args.self.now c.wake.new.self c.show_awake.new.self c.wake.ensures.same c.show_awake.ensures.slots
