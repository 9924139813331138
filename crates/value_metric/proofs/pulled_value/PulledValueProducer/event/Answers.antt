-- A snapshot was told.
use Rattle.std.proofs.Common.{sym, subst}
use Rattle.metric_producer.specs.Calls.{Got}
use Rattle.metric_producer.specs.Moves.{Moves}
use Rattle.value_metric.specs.PulledStands.{pulled_law}
use Rattle.value_metric.proofs.PulledLemmas.{pulled}
use Rattle.value_metric.proofs.pulled_value.PulledValueProducer.event.Goals as goal

pub returns : goal.returns
returns c =
    subst (λ new. Moves pulled_law c.args.self.now new (Got c.args.at c.args.ev)) (sym c.take_last.ensures)
    (pulled c.args.self.now c.args.at c.args.ev c.in_ok-next.next c.in_ok-next.ensures)
