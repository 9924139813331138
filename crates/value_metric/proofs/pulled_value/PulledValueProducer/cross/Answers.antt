-- The open part is closed, and full buckets after it.
use Rattle.std.proofs.lemmas.Result.{on_ok_weaker}
use Rattle.value_metric.proofs.PulledLemmas.{pulled_crosses}
use Rattle.value_metric.proofs.pulled_value.PulledValueProducer.cross.Goals as goal

pub returns : goal.returns
returns c = on_ok_weaker c.jump.result
    (pulled_crosses c.args.self.now c.close.new.self c.jump.new.self c.args.crossings c.in_ok-close.ensures)
    c.jump.ensures
