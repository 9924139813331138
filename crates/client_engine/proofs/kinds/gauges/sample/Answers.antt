-- The lane got the sample, or its producer lets it go.
use Rattle.std.proofs.Common.{refl, subst}
use Rattle.std.proofs.lemmas.Result.{on_ok_weaker}
use Rattle.metric_producer.specs.Calls.{Got}
use Rattle.metric_producer.specs.Moves.{Moves}
use Rattle.gauge_metric.specs.declared.gauge.KeyedAtom.{KeyedAtom}
use Rattle.gauge_metric.specs.GaugeStands.{gauge_law}
use Rattle.session_frames.specs.FrameReading.{log_time}
use Rattle.metric_lane.specs.LaneStands.{GetsCall}
use Rattle.metric_meaning.specs.Samples.{sample_of}
use Rattle.client_engine.proofs.GaugesLemmas.{lane_lets_go, sample_is}
use Rattle.client_engine.proofs.kinds.gauges.sample.Goals as goal

-- the producer lets the sample go
pub returns-then-lets_go : goal.returns-then-lets_go
returns-then-lets_go c = λ known scene fields samples found gauge.
    let kind = c.in-PushedGauge in
    let lane = c.args.lane.now in
    let atom = c.args.atom.now in
    let at = log_time c.args.brought.now.frame.now in
    let event : KeyedAtom = record { key = c.in_ok-key.key; atom = sample_of kind.fields atom } in
    let moves : Moves gauge_law lane.producer lane.producer (Got at event) =
    rw c.producer.ensures at (c.lets_go.ensures c.if-lets_go.true at event.atom) in
    subst (λ keyed. GetsCall gauge_law lane lane (Got at keyed))
    (sample_is scene c.args.metric.now kind.fields fields kind.samples samples atom event.atom event.key kind.is gauge
    refl (c.in_ok-key.ensures known scene found))
    (lane_lets_go lane at event moves)

-- the lane got it
pub returns : goal.returns
returns c =
    let kind = c.in-PushedGauge in
    let at = log_time c.args.brought.now.frame.now in
    on_ok_weaker c.event.result (λ gets known scene fields samples found gauge.
    subst (λ keyed. GetsCall gauge_law c.args.lane.now c.event.new.self (Got at keyed))
    (sample_is scene c.args.metric.now kind.fields fields kind.samples samples c.args.atom.now c.in_ok-atom.atom
    c.in_ok-key.key kind.is gauge c.in_ok-atom.ensures (c.in_ok-key.ensures known scene found))
    (rw c.time_of.ensures at gets))
    c.event.ensures
