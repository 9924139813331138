-- What the lane handed out is shown.
use Rattle.std.proofs.lemmas.Result.{IfOk-weaker}
use Rattle.client_engine.proofs.PulledGaugesLemmas.{pulled_gauges_report}
use Rattle.client_engine.proofs.kinds.pulled_gauges.report.Goals as goal

pub returns-clause-reports : goal.returns-clause-reports
returns-clause-reports c =
    IfOk-weaker c.gauges_tree.result _ _
    (λ tree is. pulled_gauges_report c.args.metric.now c.args.base c.args.request c.args.lane.now
    c.report.new.self c.in_ok-closed.closed c.in_ok-closed.ensures tree is) c.gauges_tree.ensures.shown
