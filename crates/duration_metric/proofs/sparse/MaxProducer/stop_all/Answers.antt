-- All keys are stopped, and what they bring is put down.
use Rattle.std.proofs.lemmas.Result.{on_ok_weaker}
use Rattle.predicate_state.specs.declared.event.PredEvent.TheVariants.{StopAll}
use Rattle.duration_metric.proofs.SparseLemmas.{came}
use Rattle.duration_metric.proofs.sparse.MaxProducer.stop_all.Goals as goal

pub returns : goal.returns
returns c = on_ok_weaker c.note_all.result
    (came c.args.self.now (record { keys = c.stop_all-gone.new.self; books = c.note_all.new.self }) c.args.at
    (record { event = StopAll; key = c.args.key.now }) _ c.stop_all-gone.ensures)
    c.note_all.ensures
