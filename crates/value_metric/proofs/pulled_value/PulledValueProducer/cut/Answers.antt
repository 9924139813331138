-- The open part was cut.
use Rattle.std.proofs.lemmas.Result.{on_ok_weaker}
use Rattle.value_metric.proofs.PulledLemmas.{pulled_cuts}
use Rattle.value_metric.proofs.pulled_value.PulledValueProducer.cut.Goals as goal

pub returns : goal.returns
returns c = on_ok_weaker c.close.result (pulled_cuts c.args.self.now c.close.new.self c.args.at) c.close.ensures
