-- The open part was cut.
use Rattle.std.proofs.lemmas.Result.{on_ok_weaker}
use Rattle.gauge_metric.proofs.GaugeLemmas.{gauge_cut}
use Rattle.gauge_metric.proofs.gauge.PushedGaugeProducer.cut.Goals as goal

pub returns : goal.returns
returns c = on_ok_weaker c.close.result (gauge_cut c.args.self.now c.close.new.self c.args.at) c.close.ensures
