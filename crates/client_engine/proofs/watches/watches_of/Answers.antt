-- One more alert has its watch, where it is on the metric.
use Rattle.std.proofs.Common.{◌<◌, length, rules}
use Rattle.client_engine.proofs.WatchesLemmas.{one_watched, other_watched}
use Rattle.client_engine.proofs.watches.watches_of.Goals as goal
use Rattle.client_engine.proofs.watches.watches_of.Goals.{then-alert-metric+in_ok-new+in_ok-push, else-alert-metric}

pub loop-alert-preserved : goal.loop-alert-preserved
loop-alert-preserved c =
    let alerts = c.args.alerts.now in
    let index = c.loop-alert.alert-index in
    let watches = c.loop-alert.watches.items in
    let inside : index < length alerts = search rules in
    elim c.if-alert-metric.branch [
      | then-alert-metric+in_ok-new+in_ok-push w ↦
          rw (w.watches-is, w.in_ok-push.ensures.items)
          (one_watched alerts index _ c.args.metric watches inside c.loop-alert.invariant w.in_ok-new.field-0
          w.if-alert-metric.true w.in_ok-new.ensures.spec w.in_ok-new.ensures.stands)
      | else-alert-metric w ↦
          rw (w.watches-is)
          (other_watched alerts index _ c.args.metric watches inside c.loop-alert.invariant w.if-alert-metric.false)
    ]
