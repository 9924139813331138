-- What the lane handed out is shown, and the watches were told of the report.
use Rattle.std.proofs.lemmas.Result.{IfOk-weaker}
use Rattle.client_engine.specs.CountsAlong.{WatchedLane}
use Rattle.client_engine.proofs.CountsLemmas.{counts_report}
use Rattle.client_engine.proofs.kinds.counts.report.Goals as goal

pub returns-clause-reports : goal.returns-clause-reports
returns-clause-reports c =
    let old : WatchedLane = record { lane = c.lane.inside.lane; watches = c.lane.inside.watches.items } in
    let new : WatchedLane = record { lane = c.report.new.self; watches = c.tell_report.new.watches.items } in
    IfOk-weaker c.counts_tree.result _ _
    (λ tree is. rw (← c.lane.view_is) (counts_report c.args.metric.now c.args.base c.args.request old new
    c.in_ok-closed.closed c.in_ok-closed.ensures c.tell_report.ensures tree is)) c.counts_tree.ensures
