-- What was kept is handed out.
use Rattle.gauge_metric.proofs.PulledCallsLemmas.{pulled_took}
use Rattle.gauge_metric.proofs.pulled.PulledGaugeProducer.take.Goals as goal

pub returns-clause-moves : goal.returns-clause-moves
returns-clause-moves c = pulled_took c.args.self.now c.take-rows.new.self c.take-rows.ensures.stands
