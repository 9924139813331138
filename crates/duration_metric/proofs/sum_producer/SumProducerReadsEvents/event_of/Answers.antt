-- The parts took it, and their answer is handed on.
use Rattle.std.proofs.Common.{OnOk, subst}
use Rattle.std.proofs.lemmas.Result.{on_ok_weaker}
use Rattle.metric_producer.specs.Calls.{Got}
use Rattle.metric_producer.specs.Moves.{Moves}
use Rattle.duration_metric.specs.declared.sum.Sums.{Sums}
use Rattle.duration_metric.specs.InnerKeys.{DurationCall}
use Rattle.duration_metric.specs.SumParts.{Summing, seen}
use Rattle.duration_metric.specs.SumStands.{sum_law}
use Rattle.duration_metric.proofs.SumTallyLemmas.{handed_on}
use Rattle.duration_metric.proofs.sum_producer.SumProducerReadsEvents.event_of.Goals as goal

pub invariant_of-self : goal.invariant_of-self
invariant_of-self c = c.after.ensures.tally
    (on_ok_weaker c.event-answer.result (λ stays. stays c.self.invariant) c.event-answer.ensures.tally)

pub returns : goal.returns
returns c =
    let call : DurationCall = Got c.args.at c.args.ev.now in
    let old = seen c.self.inside.sums in
    subst (λ (it : Summing). OnOk c.after.result (Moves sum_law it (seen c.after.new.self) call)) c.self.view_is
    (handed_on (λ (it : Sums). Moves sum_law old (seen it) call) c.event-answer.result c.after.result
    c.event-answer.new.self c.after.new.self c.after.ensures.same c.after.ensures.kept c.event-answer.ensures.moves)
