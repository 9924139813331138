use Rattle.std.proofs.Common.{◌≡◌, ◌∙◌, ◌+◌, length, map, All, sym, ap, subst, arith}
use Rattle.client_engine.specs.AskedFew.{AsksFew}
use Rattle.client_engine.specs.Bringing.{handed_with}
use Rattle.client_engine.specs.NextSteps.{TakesFrame}
use Rattle.client_engine.specs.Tracks.{metric_in, AsksWithin, AllStandFor}
use Rattle.client_engine.proofs.TracksLemmas.{one_stepped, all_stepped, one_asked, all_asked, asks_here, metrics_stay}
use Rattle.known_conditions.proofs.ListsLemmas.{whole}
use Rattle.client_engine.proofs.parts.log_all.Goals as goal

-- each metric asks for one of the predicates
pub log-requires : goal.log-requires
log-requires g c =
    let known = c.args.conditions.now in
    record {
      within = asks_here c.loop-track.conditions known c.deref_mut-track-items.result.now c.loop-track.track-items
          c.loop-track.track-index _ c.loop-track.invariant.1 (omega arith) c.loop-track.invariant.0.metrics
          (subst (λ old. All (AsksWithin (length known.predicates)) (map metric_in old))
          (sym c.deref_mut-track-items.ensures.value) c.requires.within);
      matched = c.requires.matched;
    }

-- one more track took the frame
pub loop-track-preserved : goal.loop-track-preserved
loop-track-preserved g c = (
  one_stepped (handed_with c.args.conditions.now c.args.brought.now) c.args.brought.now.frame.now
      c.args.brought.now.matched.now c.deref_mut-track-items.result.now
      c.loop-track.track-items c.loop-track.track-index c.log.new.self _ (omega arith) c.loop-track.invariant.0
      c.log.ensures.metric
      (handed_with c.loop-track.conditions c.args.brought.now)
      (ap (λ known. handed_with known c.args.brought.now) c.loop-track.invariant.1)
      c.in_ok-log.ensures.logs,
  c.in_ok-log.ensures.known ∙ c.loop-track.invariant.1,
  one_asked (handed_with c.args.conditions.now c.args.brought.now) c.args.brought.now.frame.now
      c.args.brought.now.matched.now c.deref_mut-track-items.result.now
      c.loop-track.track-items c.loop-track.track-index _ c.args.asks.now c.loop-track.asks c.log.new.asks
      (omega arith) c.loop-track.invariant.0 c.loop-track.invariant.2
      (handed_with c.loop-track.conditions c.args.brought.now)
      (ap (λ known. handed_with known c.args.brought.now) c.loop-track.invariant.1)
      c.in_ok-log.ensures.asks,
)

-- all did
pub returns-clause-logs : goal.returns-clause-logs
returns-clause-logs g c =
    let known = handed_with c.args.conditions.now c.args.brought.now in
    let frame = c.args.brought.now.frame.now in
    let truths = c.args.brought.now.matched.now in
    let items = c.loop-track.track-items in
    let size = c.loop-track.invariant.0.len in
    let value = c.deref_mut-track-items.ensures.value in
    let ends = c.loop-track-test.false in
    let index = c.loop-track.auto.track-index-end in
    let old_size = c.args.tracks.now.ok.0 in
    let stepped : TakesFrame AllStandFor known frame truths c.deref_mut-track-items.result.now items =
    all_stepped known frame truths c.deref_mut-track-items.result.now items c.loop-track.track-index
    (omega (arith, size, ends, index)) c.loop-track.invariant.0 in
    let same = subst (λ old. length items ≡ length old) value size in
    subst (TakesFrame AllStandFor known frame truths c.args.tracks.now.items)
    (sym (whole items c.args.tracks.now.items c.args.tracks.now.len same old_size))
    (subst (λ old. TakesFrame AllStandFor known frame truths old items) value stepped)

-- where memory is wanting, the metrics are what they were
pub returns-in_err-log-clause-metrics : goal.returns-in_err-log-clause-metrics
returns-in_err-log-clause-metrics g c =
    metrics_stay c.args.tracks.now.items c.deref_mut-track-items.result.now c.loop-track.track-items
    c.args.tracks.now.len c.loop-track.track-index c.log.new.self _ c.deref_mut-track-items.ensures.value
    c.args.tracks.now.ok.0 (omega arith) c.loop-track.invariant.0.len c.loop-track.invariant.0.metrics
    c.log.ensures.metric

-- they asked no more than they may
pub returns-clause-asks : goal.returns-clause-asks
returns-clause-asks g c =
    subst (λ old. AsksFew AllStandFor (map metric_in old) c.args.conditions.now c.args.brought.now old c.args.asks.now
    c.loop-track.asks) c.deref_mut-track-items.ensures.value
    (all_asked (handed_with c.args.conditions.now c.args.brought.now) c.args.brought.now.frame.now
    c.args.brought.now.matched.now c.deref_mut-track-items.result.now c.loop-track.track-index c.args.asks.now
    c.loop-track.asks c.loop-track.invariant.2)

-- nor where memory is wanting
pub returns-in_err-log-clause-asks : goal.returns-in_err-log-clause-asks
returns-in_err-log-clause-asks g c =
    subst (λ old. AsksFew AllStandFor (map metric_in old) c.args.conditions.now c.args.brought.now old c.args.asks.now
    c.log.new.asks) c.deref_mut-track-items.ensures.value
    (all_asked (handed_with c.args.conditions.now c.args.brought.now) c.args.brought.now.frame.now
    c.args.brought.now.matched.now c.deref_mut-track-items.result.now (c.loop-track.track-index + 1) c.args.asks.now
    c.log.new.asks
    (one_asked (handed_with c.args.conditions.now c.args.brought.now) c.args.brought.now.frame.now
    c.args.brought.now.matched.now c.deref_mut-track-items.result.now
    c.loop-track.track-items c.loop-track.track-index _ c.args.asks.now c.loop-track.asks c.log.new.asks
    (omega arith) c.loop-track.invariant.0 c.loop-track.invariant.2
    (handed_with c.loop-track.conditions c.args.brought.now)
    (ap (λ known. handed_with known c.args.brought.now) c.loop-track.invariant.1)
    c.log.ensures.asks))
