-- An event that acted is one of the calls.
use Rattle.std.proofs.lemmas.Result.{on_ok_weaker}
use Rattle.duration_metric.proofs.KnownLemmas.{takes_event}
use Rattle.duration_metric.proofs.inner.InnerTable.act.Goals as goal

pub returns-clause-calls : goal.returns-clause-calls
returns-clause-calls c =
    on_ok_weaker c.apply.result (takes_event c.args.self.now c.apply.new.self c.args.ev.now) c.apply.ensures

pub returns-clause-counts : goal.returns-clause-counts
returns-clause-counts c = on_ok_weaker c.apply.result (λ acts. acts.counts_are) c.apply.ensures

pub returns-clause-steady : goal.returns-clause-steady
returns-clause-steady c = on_ok_weaker c.apply.result (λ acts. acts.steady_is) c.apply.ensures
