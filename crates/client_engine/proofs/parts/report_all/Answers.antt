use Rattle.std.proofs.Common.{◌≡◌, length, refl, sym, subst, arith}
use Rattle.client_engine.specs.Tracks.{AllReport}
use Rattle.client_engine.proofs.TracksLemmas.{one_reported, all_reported, metrics_stay}
use Rattle.known_conditions.proofs.ListsLemmas.{whole}
use Rattle.client_engine.proofs.parts.report_all.Goals as goal

-- one more track was reported
pub loop-track-preserved : goal.loop-track-preserved
loop-track-preserved c =
    one_reported c.args.base c.args.request c.deref_mut-track-items.result.now
    c.loop-track.track-items c.loop-track.track-index c.loop-track.trees c.show.new.trees c.report.new.self _
    c.in_ok-tree.tree _ (omega arith) c.loop-track.invariant c.report.ensures.metric refl
    c.in_ok-tree.ensures.reports c.in_ok-tree.ensures.writable c.in_ok-show.ensures

-- all were
pub returns-clause-reports : goal.returns-clause-reports
returns-clause-reports c =
    let base = c.args.base in
    let request = c.args.request in
    let items = c.loop-track.track-items in
    let trees = c.loop-track.trees in
    let size = c.loop-track.invariant.len in
    let value = c.deref_mut-track-items.ensures.value in
    let ends = c.loop-track-test.false in
    let index = c.loop-track.auto.track-index-end in
    let old_size = c.args.tracks.now.ok.0 in
    let reported : AllReport base request c.deref_mut-track-items.result.now items trees =
    all_reported base request c.deref_mut-track-items.result.now items c.loop-track.track-index trees
    (omega (arith, size, ends, index)) c.loop-track.invariant in
    let same = subst (λ old. length items ≡ length old) value size in
    subst (λ new. AllReport base request c.args.tracks.now.items new trees)
    (sym (whole items c.args.tracks.now.items c.args.tracks.now.len same old_size))
    (subst (λ old. AllReport base request old items trees) value reported)

-- where memory is wanting, the metrics are what they were
pub returns-in_err-tree-clause-metrics : goal.returns-in_err-tree-clause-metrics
returns-in_err-tree-clause-metrics c =
    metrics_stay c.args.tracks.now.items c.deref_mut-track-items.result.now c.loop-track.track-items
    c.args.tracks.now.len c.loop-track.track-index c.report.new.self _ c.deref_mut-track-items.ensures.value
    c.args.tracks.now.ok.0 (omega arith) c.loop-track.invariant.len c.loop-track.invariant.metrics
    c.report.ensures.metric

pub returns-in_err-show-clause-metrics : goal.returns-in_err-show-clause-metrics
returns-in_err-show-clause-metrics c =
    metrics_stay c.args.tracks.now.items c.deref_mut-track-items.result.now c.loop-track.track-items
    c.args.tracks.now.len c.loop-track.track-index c.report.new.self _ c.deref_mut-track-items.ensures.value
    c.args.tracks.now.ok.0 (omega arith) c.loop-track.invariant.len c.loop-track.invariant.metrics
    c.report.ensures.metric
