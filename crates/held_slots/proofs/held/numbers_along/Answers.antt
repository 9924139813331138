-- Each place of the order is interned behind those that it names.
use Rattle.std.proofs.Common.{◌≡◌, ◌<◌, ℕ, List, length, get_or, take, take_all, Some, refl, sym, ap, subst, ◌∙◌, arith}
use Rattle.std.specs.List.{All, slice_get}
use Rattle.std.proofs.lemmas.Option.{slice_get_read, slice_get_within}
use Rattle.std.proofs.lemmas.List.{length-set}
use Rattle.config_links.specs.SoundConfig.{named_matchers}
use Rattle.matcher_table.specs.Slots.{times_among}
use Rattle.matcher_table.specs.Steps.{Interns}
use Rattle.matcher_table.specs.Contents.{contents_of}
use Rattle.held_slots.specs.Holdings.{in_slots, IsHeldAt}
use Rattle.held_slots.proofs.PlanLaws.{plan_from_order, uses_in_order}
use Rattle.held_slots.proofs.HoldSteps.{uses_along, is_place, children_held, held_more, uses_more, others_more, all_counted, seen_at_end}
use Rattle.held_slots.proofs.held.numbers_along.Goals as goal

pub intern-requires-clause-children : goal.intern-requires-clause-children
intern-requires-clause-children c =
    let ms = c.args.matchers.now in
    let order = c.args.order.now in
    let plan = plan_from_order ms order c.requires.in_order in
    let i = c.loop-place.place-index in
    let p = get_or order i 0 in
    let m = c.index-matchers-at.result in
    let here : p < length ms = is_place ms order plan i (omega arith) in
    let found : slice_get ms p ≡ Some m = slice_get_read ms (length ms) p m refl here c.index-matchers-at.is in
    subst (λ (slots : List ℕ). All (λ k. IsHeldAt (contents_of c.loop-place.table) slots k) (named_matchers m))
    (sym c.as_slice.ensures.value)
    (all_counted (λ k. IsHeldAt (contents_of c.loop-place.table) c.loop-place.numbers.items k) (named_matchers m)
    (children_held ms order plan i m (omega arith) found c.loop-place.numbers.items (contents_of c.loop-place.table)
    c.loop-place.invariant.long c.loop-place.invariant.held))

pub loop-place-preserved : goal.loop-place-preserved
loop-place-preserved c =
    let ms = c.args.matchers.now in
    let order = c.args.order.now in
    let plan = plan_from_order ms order c.requires.in_order in
    let i = c.loop-place.place-index in
    let p = get_or order i 0 in
    let m = c.index-matchers-at.result in
    let slots = c.loop-place.numbers.items in
    let x = c.in_ok-slot.slot.number in
    let first = contents_of c.args.table.now in
    let old = contents_of c.loop-place.table in
    let new = contents_of c.intern.new.table in
    let h : i < length order = omega arith in
    let found : slice_get ms p ≡ Some m =
    slice_get_read ms (length ms) p m refl (is_place ms order plan i h) c.index-matchers-at.is in
    let interns : Interns old (in_slots slots m) x new =
    subst (λ (xs : List ℕ). Interns old (in_slots xs m) x new) c.as_slice.ensures.value c.in_ok-slot.ensures in
    record {
      long = length-set slots p x ∙ c.loop-place.invariant.long;
      held = held_more ms order plan i x h slots c.loop-place.invariant.long m found first old new interns
          c.loop-place.invariant.held;
      uses = uses_more ms order plan i x h slots c.loop-place.invariant.long m found first old new interns
          c.loop-place.invariant.held c.loop-place.invariant.uses;
      others = others_more ms order plan i x h slots c.loop-place.invariant.long m found first old new interns
          c.loop-place.invariant.held c.loop-place.invariant.others;
    }

pub returns-clause-holds : goal.returns-clause-holds
returns-clause-holds c =
    let ms = c.args.matchers.now in
    let plan = plan_from_order ms c.args.order.now c.requires.in_order in
    record {
      each = c.loop-place.invariant.long;
      same = λ p m e. c.loop-place.invariant.held p m
          (seen_at_end ms c.args.order.now plan c.loop-place.place-index p (omega arith) (slice_get_within ms p m e)) e;
    }

pub returns-clause-uses : goal.returns-clause-uses
returns-clause-uses c = λ s.
    let order = c.args.order.now in
    let slots = c.loop-place.numbers.items in
    let whole : uses_along slots s (take c.loop-place.place-index order) ≡ uses_along slots s order =
    ap (uses_along slots s) (take_all c.loop-place.place-index order (omega arith)) in
    let all : uses_along slots s order ≡ times_among s slots =
    uses_in_order c.args.matchers.now order c.requires.in_order s slots c.loop-place.invariant.long in
    omega (arith, c.loop-place.invariant.uses s, whole, all)
