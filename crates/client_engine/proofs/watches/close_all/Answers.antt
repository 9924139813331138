-- One more watch was told it.
use Rattle.std.proofs.Common.{◌≡◌, ◌<◌, length, subst, rules, arith}
use Rattle.alert_watch.proofs.WatchLemmas.{stands_singly}
use Rattle.metric_meaning.specs.AlertSteps.{ended_notices}
use Rattle.client_engine.specs.Watches.{TakesNotices}
use Rattle.client_engine.proofs.WatchesLemmas.{none_below, one_below, all_below}
use Rattle.client_engine.proofs.watches.close_all.Goals as goal

pub loop-place-init : goal.loop-place-init
loop-place-init c = none_below (ended_notices c.args.ended) c.args.watches.now.items

pub loop-place-preserved : goal.loop-place-preserved
loop-place-preserved c =
    let items = c.loop-place.watches.items in
    let place = c.loop-place.place in
    let inside : place < length items = search rules in
    let old = c.index_mut-watch.result.now in
    let new = c.close.new.self in
    one_below (ended_notices c.args.ended) c.args.watches.now.items items place new old inside c.loop-place.invariant
    (subst (λ watch. TakesNotices (ended_notices c.args.ended) watch new) c.index_mut-watch.ensures.value
    (record {
      spec = c.close.ensures.spec;
      stands = λ before.
          stands_singly old new before c.args.ended c.requires c.close.ensures.spec c.close.ensures.stands;
    }))

-- all were
pub returns : goal.returns
returns c =
    let all : c.loop-place.place ≡ length c.args.watches.now.items = search rules in
    all_below (ended_notices c.args.ended) c.args.watches.now.items c.loop-place.watches.items c.loop-place.place
    (omega (arith, all)) c.loop-place.invariant
