-- The interval ended, the part was closed, and the interval begins anew.
use Rattle.value_metric.proofs.PulledLemmas.{closes_part}
use Rattle.value_metric.proofs.pulled_value.PulledValue.close.Goals as goal

pub returns : goal.returns
returns c =
    closes_part c.args.self.now c.end_interval.new.self c.reopen.new.self c.close.new.self c.args.end
    c.in_ok-end_interval.ensures.others c.in_ok-end_interval.ensures.marks c.in_ok-close.ensures c.reopen.ensures
