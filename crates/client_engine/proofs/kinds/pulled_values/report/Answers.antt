-- What the lane handed out is shown.
use Rattle.std.proofs.lemmas.Result.{IfOk-weaker}
use Rattle.client_engine.proofs.PulledValuesLemmas.{pulled_values_report}
use Rattle.client_engine.proofs.kinds.pulled_values.report.Goals as goal

pub returns-clause-reports : goal.returns-clause-reports
returns-clause-reports c =
    IfOk-weaker c.values_tree.result _ _
    (λ tree is. pulled_values_report c.args.metric.now c.args.base c.args.request c.args.lane.now
    c.report.new.self c.in_ok-closed.closed c.in_ok-closed.ensures tree is) c.values_tree.ensures
