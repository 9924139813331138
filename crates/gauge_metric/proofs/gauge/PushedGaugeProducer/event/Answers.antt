-- A sample came.
use Rattle.std.proofs.Common.{refl}
use Rattle.std.proofs.lemmas.Result.{on_ok_weaker}
use Rattle.gauge_metric.proofs.GaugeLemmas.{sample_came}
use Rattle.gauge_metric.proofs.gauge.PushedGaugeProducer.event.Goals as goal

pub returns : goal.returns
returns c = on_ok_weaker c.arrive.result (sample_came c.args.self.now _ c.args.at c.args.ev refl refl refl)
    c.arrive.ensures
