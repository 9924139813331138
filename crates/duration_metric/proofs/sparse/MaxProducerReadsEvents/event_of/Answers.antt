-- An event came, of one of three kinds.
use Rattle.std.proofs.Common.{OnOk, subst, sym}
use Rattle.predicate_state.specs.declared.event.PredEvent.{PredEvent}
use Rattle.metric_producer.specs.Calls.{Got}
use Rattle.metric_producer.specs.Moves.{Moves}
use Rattle.duration_metric.specs.SparseStands.{sparse_law}
use Rattle.duration_metric.proofs.sparse.MaxProducerReadsEvents.event_of.Goals as goal

pub returns-in-Start : goal.returns-in-Start
returns-in-Start c =
    subst (λ (e : PredEvent). OnOk c.start.result (Moves sparse_law c.args.self.now c.start.new.self
    (Got c.args.at (record { event = e; key = c.args.ev.now.key })))) (sym c.in-Start.is) c.start.ensures

pub returns-in-Stop : goal.returns-in-Stop
returns-in-Stop c =
    subst (λ (e : PredEvent). OnOk c.stop.result (Moves sparse_law c.args.self.now c.stop.new.self
    (Got c.args.at (record { event = e; key = c.args.ev.now.key })))) (sym c.in-Stop.is) c.stop.ensures

pub returns-in-StopAll : goal.returns-in-StopAll
returns-in-StopAll c =
    subst (λ (e : PredEvent). OnOk c.stop_all.result (Moves sparse_law c.args.self.now c.stop_all.new.self
    (Got c.args.at (record { event = e; key = c.args.ev.now.key })))) (sym c.in-StopAll.is) c.stop_all.ensures
