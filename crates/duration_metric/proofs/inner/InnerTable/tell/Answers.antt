-- A delta whose changes were told is one of the calls.
use Rattle.std.proofs.lemmas.Result.{on_ok_weaker}
use Rattle.duration_metric.proofs.KnownLemmas.{takes_delta}
use Rattle.duration_metric.proofs.inner.InnerTable.tell.Goals as goal

pub returns-clause-calls : goal.returns-clause-calls
returns-clause-calls c =
    on_ok_weaker c.tell_all.result (takes_delta c.args.self.now c.tell_all.new.self c.args.delta) c.tell_all.ensures

pub returns-clause-counts : goal.returns-clause-counts
returns-clause-counts c = on_ok_weaker c.tell_all.result (λ tells. tells.counts_are) c.tell_all.ensures

pub returns-clause-steady : goal.returns-clause-steady
returns-clause-steady c = on_ok_weaker c.tell_all.result (λ tells. tells.steady_is) c.tell_all.ensures
