-- Each place of the order gets its truth behind those that it names.
use Rattle.std.proofs.Common.{◌≡◌, ◌<◌, Bool, List, length, get_or, Some, refl, subst, ◌∙◌, arith}
use Rattle.std.specs.List.{slice_get}
use Rattle.std.proofs.lemmas.Option.{slice_get_read}
use Rattle.std.proofs.lemmas.List.{length-set}
use Rattle.heard_ids.specs.Hearing.{idle_from, truth_listed}
use Rattle.heard_ids.proofs.IdleLemmas.{place_there, one_more, all_idle}
use Rattle.heard_ids.proofs.idle.truths_along.Goals as goal

pub loop-place-preserved : goal.loop-place-preserved
loop-place-preserved c =
    let ms = c.args.matchers.now in
    let order = c.args.order.now in
    let i = c.loop-place.place-index in
    let p = get_or order i 0 in
    let m = c.index-matchers-at.result in
    let truths = c.loop-place.truths.items in
    let truth = c.in_ok-truth.truth in
    let long = c.loop-place.invariant.long in
    let h : i < length order = omega arith in
    let there : p < length ms = place_there ms c.requires.in_range c.requires.no_cycle order c.requires.in_order i h in
    let found : slice_get ms p ≡ Some m = slice_get_read ms (length ms) p m refl there c.index-matchers-at.is in
    let is : truth ≡ idle_from (λ place. truth_listed place truths) (Some m) =
    subst (λ (xs : List Bool). truth ≡ idle_from (λ place. truth_listed place xs) (Some m)) c.as_slice.ensures.value
    c.in_ok-truth.ensures in
    record {
      long = length-set truths p truth ∙ long;
      so_far = one_more ms c.requires.in_range c.requires.no_cycle order c.requires.in_order i h truths long
          c.loop-place.invariant.so_far m found truth is;
    }

pub returns : goal.returns
returns c =
    all_idle c.args.matchers.now c.requires.in_range c.requires.no_cycle c.args.order.now c.requires.in_order
    c.loop-place.place-index (omega arith) c.loop-place.truths.items c.loop-place.invariant.long
    c.loop-place.invariant.so_far
