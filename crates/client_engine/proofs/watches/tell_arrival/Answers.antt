-- One more watch was told it.
use Rattle.std.proofs.Common.{◌≡◌, ◌<◌, [], ◌∷◌, length, subst, rules, arith}
use Rattle.alert_watch.specs.Windows.{KeyArrived}
use Rattle.client_engine.specs.Watches.{TakesNotices}
use Rattle.client_engine.proofs.WatchesLemmas.{none_below, one_below, all_below}
use Rattle.client_engine.proofs.watches.tell_arrival.Goals as goal

pub loop-place-init : goal.loop-place-init
loop-place-init c = none_below (KeyArrived c.args.at c.args.key.now ∷ []) c.args.watches.now.items

pub loop-place-preserved : goal.loop-place-preserved
loop-place-preserved c =
    let items = c.loop-place.watches.items in
    let place = c.loop-place.place in
    let inside : place < length items = search rules in
    let old = c.index_mut-watch.result.now in
    let new = c.arrive.new.self in
    one_below (KeyArrived c.args.at c.args.key.now ∷ []) c.args.watches.now.items items place new old inside
    c.loop-place.invariant
    (subst (λ watch. TakesNotices (KeyArrived c.args.at c.args.key.now ∷ []) watch new) c.index_mut-watch.ensures.value
    (record { spec = c.arrive.ensures.spec; stands = c.in_ok-arrive.ensures.stands }))

-- all were
pub returns : goal.returns
returns c =
    let all : c.loop-place.place ≡ length c.args.watches.now.items = search rules in
    all_below (KeyArrived c.args.at c.args.key.now ∷ []) c.args.watches.now.items
    c.loop-place.watches.items c.loop-place.place
    (omega (arith, all)) c.loop-place.invariant
