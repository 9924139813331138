-- The open part was cut.
use Rattle.std.proofs.lemmas.Result.{on_ok_weaker}
use Rattle.value_metric.proofs.PushedLemmas.{cuts}
use Rattle.value_metric.proofs.pushed_value.PushedValueProducer.cut.Goals as goal

pub returns : goal.returns
returns c =
    on_ok_weaker c.close.result (cuts c.args.self.now (record { books = c.close.new.self }) c.args.at) c.close.ensures
