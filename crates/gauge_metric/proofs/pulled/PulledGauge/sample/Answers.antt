-- The samples of the moment came, and what they bring is counted.
use Rattle.std.proofs.Common.{sym, subst}
use Rattle.gauge_metric.specs.PulledStands.{TakesMoment}
use Rattle.gauge_metric.proofs.PulledLemmas.{moment_taken}
use Rattle.gauge_metric.proofs.pulled.PulledGauge.sample.Goals as goal

pub returns : goal.returns
returns c =
    subst (λ new. TakesMoment c.args.self.now new c.in_ok-brought.brought) (sym c.count.ensures)
    (moment_taken c.args.self.now c.bring.new.table c.in_ok-brought.brought c.in_ok-brought.ensures)
