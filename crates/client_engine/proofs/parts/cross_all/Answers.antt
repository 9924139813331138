use Rattle.std.proofs.Common.{◌≡◌, length, sym, subst, arith}
use Rattle.bucket_clock.specs.Clock.{frame_at}
use Rattle.client_engine.specs.CaughtUp.{AllTakeRun}
use Rattle.client_engine.proofs.CaughtUpLemmas.{one_crossed, all_crossed}
use Rattle.client_engine.proofs.TracksLemmas.{metrics_stay}
use Rattle.known_conditions.proofs.ListsLemmas.{whole}
use Rattle.client_engine.proofs.parts.cross_all.Goals as goal

-- one more track took the run
pub loop-track-preserved : goal.loop-track-preserved
loop-track-preserved c =
    one_crossed (frame_at c.args.at c.args.is_pull) c.deref_mut-track-items.result.now c.loop-track.track-items
    c.loop-track.track-index c.cross.new.self _ (omega arith) c.loop-track.invariant c.cross.ensures.metric
    c.in_ok-cross.ensures.takes

-- all did
pub returns-clause-takes : goal.returns-clause-takes
returns-clause-takes c =
    let moment = frame_at c.args.at c.args.is_pull in
    let items = c.loop-track.track-items in
    let size = c.loop-track.invariant.len in
    let value = c.deref_mut-track-items.ensures.value in
    let ends = c.loop-track-test.false in
    let index = c.loop-track.auto.track-index-end in
    let old_size = c.args.tracks.now.ok.0 in
    let crossed : AllTakeRun moment c.deref_mut-track-items.result.now items =
    all_crossed moment c.deref_mut-track-items.result.now items c.loop-track.track-index
    (omega (arith, size, ends, index)) c.loop-track.invariant in
    let same = subst (λ old. length items ≡ length old) value size in
    subst (AllTakeRun moment c.args.tracks.now.items)
    (sym (whole items c.args.tracks.now.items c.args.tracks.now.len same old_size))
    (subst (λ old. AllTakeRun moment old items) value crossed)

-- where memory is wanting, the metrics are what they were
pub returns-in_err-cross-clause-metrics : goal.returns-in_err-cross-clause-metrics
returns-in_err-cross-clause-metrics c =
    metrics_stay c.args.tracks.now.items c.deref_mut-track-items.result.now c.loop-track.track-items
    c.args.tracks.now.len c.loop-track.track-index c.cross.new.self _ c.deref_mut-track-items.ensures.value
    c.args.tracks.now.ok.0 (omega arith) c.loop-track.invariant.len c.loop-track.invariant.metrics
    c.cross.ensures.metric
