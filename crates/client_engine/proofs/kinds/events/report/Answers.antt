-- What the lane handed out is shown.
use Rattle.std.proofs.lemmas.Result.{IfOk-weaker}
use Rattle.client_engine.proofs.EventsLemmas.{events_report}
use Rattle.client_engine.proofs.kinds.events.report.Goals as goal

pub returns-clause-reports : goal.returns-clause-reports
returns-clause-reports c =
    IfOk-weaker c.events_tree.result _ _
    (λ tree is. events_report c.args.metric.now c.args.base c.args.request c.args.lane.now
    c.report.new.self c.in_ok-closed.closed c.in_ok-closed.ensures tree is) c.events_tree.ensures.shown
