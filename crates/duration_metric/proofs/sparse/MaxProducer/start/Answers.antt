-- A key is started, and what that brings is put down.
use Rattle.std.proofs.lemmas.Result.{on_ok_weaker}
use Rattle.predicate_state.specs.declared.event.PredEvent.TheVariants.{Start}
use Rattle.duration_metric.proofs.SparseLemmas.{came}
use Rattle.duration_metric.proofs.sparse.MaxProducer.start.Goals as goal

pub returns : goal.returns
returns c = on_ok_weaker c.note.result
    (came c.args.self.now (record { keys = c.start.new.self; books = c.note.new.self }) c.args.at
    (record { event = Start; key = c.args.key.now }) _ c.in_ok-turn.ensures)
    c.note.ensures
