-- The crossing, and then what is told of the frame.
use Rattle.std.proofs.Common.{ap, arith}
use Rattle.std.proofs.lemmas.Result.{on_ok_weaker}
use Rattle.gauge_metric.specs.PulledStands.{pulled_law}
use Rattle.metric_calls.specs.PulledGaugeCalls.{gauge_telling}
use Rattle.client_engine.proofs.PulledGaugesLemmas.{pulled_gauges_log}
use Rattle.client_engine.specs.Bringing.{handed_with}
use Rattle.client_engine.proofs.SnapshotsToldLemmas.{tick_told, atom_untold, atom_told, pull_untold, pull_told}
use Rattle.client_engine.specs.Questions.{touched_questions}
use Rattle.client_engine.proofs.QuestionsLemmas.{touched_few}
use Rattle.client_engine.proofs.kinds.pulled_gauges.log.Goals as goal

-- of a tick nothing is told
pub returns-in-Tick-clause-logs : goal.returns-in-Tick-clause-logs
returns-in-Tick-clause-logs g c =
    let brought = c.args.brought.now in
    let given = handed_with c.args.conditions.now brought in
    let metric = c.args.metric.now in
    let frame = brought.frame.now in
    let truths = brought.matched.now in
    let lane = c.cross.new.self in
    let crosses = rw (c.comes_by_pull.ensures, c.time_of.ensures) at c.in_ok-cross.ensures in
    pulled_gauges_log given metric frame truths c.args.lane.now lane lane crosses
    (λ scene found fields samples mode trigger gauge.
    tick_told pulled_law (gauge_telling metric fields trigger) given scene metric frame truths found lane
    c.in-Tick.at c.in-Tick.is)

-- nor of an atom that doesn't touch the gauge
pub returns-then-not-touches-clause-logs : goal.returns-then-not-touches-clause-logs
returns-then-not-touches-clause-logs g c =
    let brought = c.args.brought.now in
    let given = handed_with c.args.conditions.now brought in
    let metric = c.args.metric.now in
    let frame = brought.frame.now in
    let truths = brought.matched.now in
    let lane = c.cross.new.self in
    let crosses = rw (c.comes_by_pull.ensures, c.time_of.ensures) at c.in_ok-cross.ensures in
    let off = c.if-not-touches.true in
    let touches = c.touches.ensures in
    pulled_gauges_log given metric frame truths c.args.lane.now lane lane crosses
    (λ scene found fields samples mode trigger gauge.
    atom_untold pulled_law (gauge_telling metric fields trigger) given scene metric frame truths found lane
    c.in-AtomAt.at c.in-AtomAt.atom c.in-AtomAt.is (grind (arith, off, touches)))

-- of another one the condition after it is
pub returns-in_ok-condition-in-AtomAt-clause-logs : goal.returns-in_ok-condition-in-AtomAt-clause-logs
returns-in_ok-condition-in-AtomAt-clause-logs g c =
    let brought = c.args.brought.now in
    let given = handed_with c.args.conditions.now brought in
    let metric = c.args.metric.now in
    let frame = brought.frame.now in
    let truths = brought.matched.now in
    let lane = c.cross.new.self in
    let crosses = rw (c.comes_by_pull.ensures, c.time_of.ensures) at c.in_ok-cross.ensures in
    let told = c.condition.new.self in
    let new = c.trigger.new.lane in
    let on = c.if-not-touches.false in
    let touches = c.touches.ensures in
    on_ok_weaker c.trigger.result
    (λ gets. pulled_gauges_log given metric frame truths c.args.lane.now lane new crosses
    (λ scene found fields samples mode trigger gauge.
    atom_told pulled_law (gauge_telling metric fields trigger) given scene metric frame truths found lane told new
    c.in-AtomAt.at c.in-AtomAt.atom c.in_ok-now-in-AtomAt.now c.in-AtomAt.is (grind (arith, on, touches))
    c.in_ok-now-in-AtomAt.ensures.truth
    c.in_ok-condition-in-AtomAt.ensures (gets fields samples mode trigger gauge)))
    c.trigger.ensures

-- of a pull that isn't the metric's nothing is
pub returns-then-not-is_told-clause-logs : goal.returns-then-not-is_told-clause-logs
returns-then-not-is_told-clause-logs g c =
    let brought = c.args.brought.now in
    let given = handed_with c.args.conditions.now brought in
    let metric = c.args.metric.now in
    let frame = brought.frame.now in
    let truths = brought.matched.now in
    let lane = c.cross.new.self in
    let crosses = rw (c.comes_by_pull.ensures, c.time_of.ensures) at c.in_ok-cross.ensures in
    let off = c.if-not-is_told.true in
    let told = c.is_told.ensures in
    pulled_gauges_log given metric frame truths c.args.lane.now lane lane crosses
    (λ scene found fields samples mode trigger gauge.
    pull_untold pulled_law (gauge_telling metric fields trigger) given scene metric frame truths found lane
    c.in-Pull.at c.in-Pull.id
    c.in-Pull.outcome c.in-Pull.is (grind (arith, off, told)))

-- of another one its snapshot is
pub returns-else-not-is_told-clause-logs : goal.returns-else-not-is_told-clause-logs
returns-else-not-is_told-clause-logs g c =
    let brought = c.args.brought.now in
    let given = handed_with c.args.conditions.now brought in
    let metric = c.args.metric.now in
    let frame = brought.frame.now in
    let truths = brought.matched.now in
    let lane = c.cross.new.self in
    let crosses = rw (c.comes_by_pull.ensures, c.time_of.ensures) at c.in_ok-cross.ensures in
    let on = c.if-not-is_told.false in
    let told = c.is_told.ensures in
    on_ok_weaker c.pull.result
    (λ gets. pulled_gauges_log given metric frame truths c.args.lane.now lane c.pull.new.lane crosses
    (λ scene found fields samples mode trigger gauge.
    pull_told pulled_law (gauge_telling metric fields trigger) given scene metric frame truths found lane
    c.pull.new.lane c.in-Pull.at c.in-Pull.id
    c.in-Pull.outcome c.in-Pull.is (grind (arith, on, told)) (gets fields samples mode trigger gauge)))
    c.pull.ensures

-- an atom that touches the metric costs one question
pub returns-in_ok-condition-in-AtomAt-clause-asks : goal.returns-in_ok-condition-in-AtomAt-clause-asks
returns-in_ok-condition-in-AtomAt-clause-asks g c = λ installed steps frame has may.
    let metric = c.args.metric.now in
    let on = c.if-not-touches.false in
    let touches = c.touches.ensures in
    touched_few (handed_with c.args.conditions.now c.args.brought.now) installed steps
    c.args.brought.now.frame.now frame
    c.args.brought.now.matched.now metric c.in-AtomAt.at c.in-AtomAt.atom c.in-AtomAt.is
    (grind (arith, on, touches)) may
    (ap (λ kind. touched_questions installed steps (record metric { kind = kind })) has.gauge) c.args.asks.now
    c.truth.new.asks c.truth.ensures.asks
