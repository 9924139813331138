-- The open part was cut, and the next begins.
use Rattle.gauge_metric.proofs.PulledCallsLemmas.{pulled_cut}
use Rattle.gauge_metric.proofs.pulled.PulledGaugeProducer.cut.Goals as goal

pub returns : goal.returns
returns c =
    pulled_cut c.args.self.now c.close.new.self c.begin.new.self c.args.at c.in_ok-_brought._brought
    c.in_ok-close.ensures c.in_ok-_brought.ensures
