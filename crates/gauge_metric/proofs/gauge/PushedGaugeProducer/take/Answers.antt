-- What was kept is handed out.
use Rattle.std.proofs.Common.{refl}
use Rattle.gauge_metric.proofs.GaugeLemmas.{gauge_took}
use Rattle.gauge_metric.proofs.gauge.PushedGaugeProducer.take.Goals as goal

pub returns-clause-moves : goal.returns-clause-moves
returns-clause-moves c = gauge_took c.args.self.now _ refl refl c.take_dropped.ensures.left c.take-rows.ensures.stands
