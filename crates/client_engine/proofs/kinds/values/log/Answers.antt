-- The crossing, and then the key with its integer.
use Rattle.std.proofs.Common.{ap}
use Rattle.std.proofs.lemmas.Result.{on_ok_weaker}
use Rattle.client_engine.specs.Bringing.{handed_with}
use Rattle.client_engine.proofs.ValuesLemmas.{values_log}
use Rattle.metric_meaning.specs.Touched.{names_atom_itself}
use Rattle.client_engine.specs.Questions.{touched_questions}
use Rattle.client_engine.proofs.QuestionsLemmas.{arrival_few}
use Rattle.client_engine.proofs.kinds.values.log.Goals as goal

pub returns-clause-logs : goal.returns-clause-logs
returns-clause-logs g c =
    let taker = c.args.taker.now in
    let brought = c.args.brought.now in
    let logs = rw (c.comes_by_pull.ensures, c.time_of.ensures) at c.log.ensures in
    on_ok_weaker c.log.result
    (values_log (handed_with c.args.conditions.now brought) taker.metric.now brought.frame.now brought.matched.now
    c.args.lane.now c.log.new.self c.in_ok-keyed.keyed taker.is_active c.in_ok-keyed.ensures.keyed) logs

-- an atom that arrives costs one question
pub returns-clause-asks : goal.returns-clause-asks
returns-clause-asks g c = λ installed steps frame has may.
    let metric = c.args.taker.now.metric.now in
    let truths = c.args.brought.now.matched.now in
    arrival_few installed steps c.args.brought.now.frame.now truths metric
    (ap (λ kind. names_atom_itself (record metric { kind = kind }) truths) has.values)
    (ap (λ kind. touched_questions installed steps (record metric { kind = kind })) has.values) c.args.asks.now
    c.arrival.new.asks c.arrival.ensures.asks
