-- The open part is closed, the next begins, and full buckets go by with what it began with.
use Rattle.std.proofs.lemmas.Result.{on_ok_weaker}
use Rattle.gauge_metric.proofs.PulledCallsLemmas.{pulled_crossed}
use Rattle.gauge_metric.proofs.pulled.PulledGaugeProducer.cross.Goals as goal

pub returns : goal.returns
returns c = on_ok_weaker c.repeat.result
    (pulled_crossed c.args.self.now c.close.new.self c.begin.new.self c.repeat.new.self c.args.crossings
    c.in_ok-brought.brought c.in_ok-close.ensures c.in_ok-brought.ensures)
    c.repeat.ensures
