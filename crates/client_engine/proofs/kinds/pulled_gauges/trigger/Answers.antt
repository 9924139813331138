-- The lane got the trigger, or nothing.
use Rattle.std.proofs.Common.{◌∙◌, true, ap, sym, arith}
use Rattle.std.proofs.lemmas.Result.{on_ok_weaker}
use Rattle.metric_meaning.specs.PredicateSteps.{named_truth}
use Rattle.client_engine.proofs.PulledGaugesLemmas.{one_trigger, triggered}
use Rattle.client_engine.proofs.kinds.pulled_gauges.trigger.Goals as goal

-- the atom matches the trigger
pub returns : goal.returns
returns c =
    let kind = c.in-PulledGauge in
    let truths = c.args.brought.now.matched.now in
    let matches = c.if-not-is_true_if_named.false in
    let named = c.is_true_if_named.ensures in
    on_ok_weaker c.event.result (λ gets fields samples mode trigger gauge.
    triggered c.args.metric.now c.args.lane.now c.event.new.self c.args.at truths fields trigger true
    (sym (ap (λ place. named_truth place truths) (one_trigger c.args.metric.now.kind kind.fields fields kind.samples
    samples kind.mode mode kind.trigger trigger kind.is gauge)) ∙ grind (arith, matches, named)) gets)
    c.event.ensures
