-- A snapshot is kept for later moments, and a trigger may be one.
use Rattle.std.proofs.Common.{sym, subst}
use Rattle.metric_producer.specs.Calls.{Got}
use Rattle.metric_producer.specs.Moves.{Moves}
use Rattle.gauge_metric.specs.PulledStands.{pulled_law}
use Rattle.gauge_metric.proofs.PulledCallsLemmas.{snapshot_told, triggered}
use Rattle.gauge_metric.proofs.pulled.PulledGaugeProducer.event.Goals as goal

pub returns-in-Snapshot : goal.returns-in-Snapshot
returns-in-Snapshot c =
    subst (λ event. Moves pulled_law c.args.self.now (record c.args.self.now { snapshot = c.in-Snapshot.found })
    (Got c.args.at event)) (sym c.in-Snapshot.is)
    (snapshot_told c.args.self.now c.args.at c.in-Snapshot.found)

pub returns-in_ok-trigger-in-Trigger : goal.returns-in_ok-trigger-in-Trigger
returns-in_ok-trigger-in-Trigger c =
    subst (λ event. Moves pulled_law c.args.self.now c.trigger.new.self (Got c.args.at event)) (sym c.in-Trigger.is)
    (triggered c.args.self.now c.trigger.new.self c.args.at c.in_ok-trigger-in-Trigger.ensures)
