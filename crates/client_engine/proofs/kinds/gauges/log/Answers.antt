-- The crossing, and then the sample, if an atom arrives.
use Rattle.std.proofs.Common.{ap}
use Rattle.std.proofs.lemmas.Result.{on_ok_weaker}
use Rattle.session_frames.specs.FrameReading.{log_time}
use Rattle.client_engine.specs.Bringing.{handed_with, brought_step}
use Rattle.client_engine.proofs.GaugesLemmas.{gauges_log, none_sampled, one_sampled}
use Rattle.metric_meaning.specs.Touched.{names_atom_itself}
use Rattle.client_engine.specs.Questions.{touched_questions}
use Rattle.client_engine.proofs.QuestionsLemmas.{arrival_few}
use Rattle.client_engine.proofs.kinds.gauges.log.Goals as goal

-- the atom that arrives is sampled
pub returns-in-Some-clause-logs : goal.returns-in-Some-clause-logs
returns-in-Some-clause-logs g c =
    let taker = c.args.taker.now in
    let brought = c.args.brought.now in
    let metric = taker.metric.now in
    let crosses = rw (c.comes_by_pull.ensures, c.time_of.ensures) at c.in_ok-cross.ensures in
    on_ok_weaker c.sample.result
    (λ gets. gauges_log (handed_with c.args.conditions.now brought) metric brought.frame.now brought.matched.now
    c.args.lane.now c.cross.new.self c.sample.new.lane taker.is_active crosses
    (λ scene found active fields samples gauge. one_sampled c.cross.new.self c.sample.new.lane
    (log_time brought.frame.now)
    scene metric fields (brought_step brought) c.in-Some.atom.now
    (rw (c.in-Some.is) at (c.in_ok-atom.ensures.atom scene found active))
    (gets c.args.conditions.now scene fields samples found gauge)))
    c.sample.ensures

-- no atom arrives
pub returns-in-None-clause-logs : goal.returns-in-None-clause-logs
returns-in-None-clause-logs g c =
    let taker = c.args.taker.now in
    let brought = c.args.brought.now in
    let metric = taker.metric.now in
    let crosses = rw (c.comes_by_pull.ensures, c.time_of.ensures) at c.in_ok-cross.ensures in
    gauges_log (handed_with c.args.conditions.now brought) metric brought.frame.now brought.matched.now
    c.args.lane.now c.cross.new.self c.cross.new.self taker.is_active crosses
    (λ scene found active fields samples gauge. none_sampled c.cross.new.self (log_time brought.frame.now)
    scene metric fields (brought_step brought) (rw (c.in-None.is) at (c.in_ok-atom.ensures.atom scene found active)))

-- an atom that arrives costs one question
pub returns-in-Some-clause-asks : goal.returns-in-Some-clause-asks
returns-in-Some-clause-asks g c = λ installed steps frame has may.
    let metric = c.args.taker.now.metric.now in
    let truths = c.args.brought.now.matched.now in
    arrival_few installed steps c.args.brought.now.frame.now truths metric
    (ap (λ kind. names_atom_itself (record metric { kind = kind }) truths) has.gauge)
    (ap (λ kind. touched_questions installed steps (record metric { kind = kind })) has.gauge) c.args.asks.now
    c.arriving.new.asks c.arriving.ensures.asks

-- also one that does not, since it may have been asked
pub returns-in-None-clause-asks : goal.returns-in-None-clause-asks
returns-in-None-clause-asks g c = λ installed steps frame has may.
    let metric = c.args.taker.now.metric.now in
    let truths = c.args.brought.now.matched.now in
    arrival_few installed steps c.args.brought.now.frame.now truths metric
    (ap (λ kind. names_atom_itself (record metric { kind = kind }) truths) has.gauge)
    (ap (λ kind. touched_questions installed steps (record metric { kind = kind })) has.gauge) c.args.asks.now
    c.arriving.new.asks c.arriving.ensures.asks
