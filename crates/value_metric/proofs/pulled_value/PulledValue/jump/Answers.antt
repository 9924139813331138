-- What came in the first full bucket comes in each.
use Rattle.std.proofs.lemmas.Result.{on_ok_weaker}
use Rattle.value_metric.proofs.PulledLemmas.{jumps_by}
use Rattle.value_metric.proofs.pulled_value.PulledValue.jump.Goals as goal

pub returns : goal.returns
returns c = on_ok_weaker c.close_again.result
    (jumps_by c.args.self.now c.end_interval.new.self c.close_again.new.self c.counts-since.result c.args.size
    c.args.number c.in_ok-end_interval.ensures.others c.in_ok-end_interval.ensures.marks
    c.counts-since.ensures.dropped c.counts-since.ensures.missing)
    c.close_again.ensures
