-- The state is the one after the event, so the table stands for one event more.
use Rattle.std.proofs.Common.{refl}
use Rattle.predicate_state.proofs.PredicateStateLemmas.{applies, ok_applies}
use Rattle.predicate_state.specs.declared.event.PredEvent.TheVariants.{Start, Stop, StopAll}
use Rattle.predicate_state.proofs.table.PredTable.apply.Goals as goal

pub returns-in-Start-clause-stands : goal.returns-in-Start-clause-stands
returns-in-Start-clause-stands c =
    rw c.in-Start.is
    (ok_applies c.args.self.now c.start.new.self Start c.args.key.now c.start.result c.start.ensures.state)

pub returns-in-Stop-clause-stands : goal.returns-in-Stop-clause-stands
returns-in-Stop-clause-stands c =
    rw c.in-Stop.is
    (ok_applies c.args.self.now c.stop.new.self Stop c.args.key.now c.stop.result c.stop.ensures.state)

pub returns-in-StopAll-clause-stands : goal.returns-in-StopAll-clause-stands
returns-in-StopAll-clause-stands c =
    rw c.in-StopAll.is
    (applies c.args.self.now _ StopAll c.args.key.now (rw (c.clear.ensures, ← c.self.view_is) refl))
