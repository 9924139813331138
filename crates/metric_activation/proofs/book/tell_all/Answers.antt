-- One more timer was told.
use Rattle.std.proofs.Common.{◌≡◌, ◌<◌, ◌+◌, false, length, get_or, set, rules, refl, sym, ap, subst, ◌∙◌}
use Rattle.std.proofs.lemmas.List.{length-set}
use Rattle.std.proofs.lemmas.List.Elements.{All-set}
use Rattle.metric_activation.specs.declared.timer.Timer.{Timer}
use Rattle.metric_activation.specs.Timers.{IsTimer, timer_told, AreToldBelow}
use Rattle.metric_activation.proofs.TimersLemmas.{none_below, one_told, ttls_stay, lasts_as_long}
use Rattle.metric_activation.proofs.book.tell_all.Goals as goal

pub loop-place-init : goal.loop-place-init
loop-place-init c = record {
  len = refl;
  told = λ in_time. none_below c.args.at c.args.started.now c.args.cancelled.now c.args.timers.now.items;
  sound = c.requires.sound;
  ttls = refl;
}

-- it was a timer
pub told-requires : goal.told-requires
told-requires c =
    let inside : c.loop-place.place < length c.loop-place.timers.items = search rules in
    let is : IsTimer c.index-timer.result.now =
    subst IsTimer (sym c.index-timer.ensures)
    (c.loop-place.invariant.sound c.loop-place.place c.index-timer.result.now inside) in
    record { short = is.most }

pub loop-place-preserved : goal.loop-place-preserved
loop-place-preserved c =
    let inside : c.loop-place.place < length c.loop-place.timers.items = search rules in
    let items = c.loop-place.timers.items in
    let place = c.loop-place.place in
    let timer = c.index-timer.result.now in
    let starts = get_or c.args.started.now place false in
    let cancels = get_or c.args.cancelled.now place false in
    let is : IsTimer timer =
    subst IsTimer (sym c.index-timer.ensures) (c.loop-place.invariant.sound place timer inside) in
    let first = c.args.timers.now.items in
    record {
      len = length-set items place c.told.result ∙ c.loop-place.invariant.len;
      told = λ in_time.
          let written : c.told.result ≡ timer_told c.args.at starts cancels (get_or items place timer) =
          c.told.ensures.told in_time ∙ ap (timer_told c.args.at starts cancels) c.index-timer.ensures in
          subst (λ (v : Timer). AreToldBelow (place + 1) c.args.at c.args.started.now c.args.cancelled.now
          first (set items place v)) (sym written)
          (one_told place c.args.at c.args.started.now c.args.cancelled.now first items timer
          (c.loop-place.invariant.told in_time) inside);
      sound = All-set IsTimer items place c.told.result (lasts_as_long timer c.told.result c.told.ensures.ttl is)
          c.loop-place.invariant.sound;
      ttls = ttls_stay items place c.told.result timer
          (c.told.ensures.ttl ∙ ap (λ (v : Timer). v.ttl) c.index-timer.ensures) ∙ c.loop-place.invariant.ttls;
    }

-- all were told
pub returns-clause-told : goal.returns-clause-told
returns-clause-told c = λ in_time.
    let all : c.loop-place.place ≡ length c.args.timers.now.items = search rules in
    subst (λ n. AreToldBelow n c.args.at c.args.started.now c.args.cancelled.now c.args.timers.now.items
    c.loop-place.timers.items) all (c.loop-place.invariant.told in_time)
