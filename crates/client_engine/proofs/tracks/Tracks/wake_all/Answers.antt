-- One metric more, each by its place.
use Rattle.std.proofs.Common.{◌∙◌, get_or, refl, subst, arith}
use Rattle.client_engine.specs.Bringing.{handed_with}
use Rattle.client_engine.specs.Woken.{OnMoreWoken, FewAsked}
use Rattle.known_conditions.proofs.MarksLemmas.{one_more_marked}
use Rattle.client_engine.proofs.WokenLemmas.{all_few}
use Rattle.client_engine.proofs.tracks.Tracks.wake_all.Goals as goal

-- where memory is wanting, no more was asked than all may
pub returns-in_err-next-clause-asks : goal.returns-in_err-next-clause-asks
returns-in_err-next-clause-asks g c =
    let brought = c.args.brought.now in
    let now = c.loop-turn.self in
    subst (λ known. FewAsked (handed_with known brought) brought.frame.now brought.matched.now now.list.items
    now.marks.items c.loop-turn.asks c.loop-turn.next c.wake.new.asks) c.loop-turn.invariant.1 c.wake.ensures.asks
    c.args.self.now.list.items c.args.asks.now c.loop-turn.invariant.0

-- it came to one more
pub loop-turn-preserved : goal.loop-turn-preserved
loop-turn-preserved g c =
    let brought = c.args.brought.now in
    let now = c.loop-turn.self in
    let new = c.wake.new.self in
    let places = c.args.woken.now in
    let turn = c.loop-turn.turn in (
      subst (λ known. OnMoreWoken (handed_with known brought) brought.frame.now brought.matched.now now.list.items
          now.marks.items c.loop-turn.asks c.loop-turn.next
          (λ woken. woken new.list.items new.marks.items c.wake.new.asks c.in_ok-next.next)) c.loop-turn.invariant.1
          c.in_ok-next.ensures.woken c.args.self.now.list.items c.args.asks.now c.loop-turn.invariant.0,
      c.in_ok-next.ensures.known ∙ c.loop-turn.invariant.1,
      one_more_marked places turn (get_or places turn 0) 0 now.marks.items new.marks.items (omega arith) refl
          c.loop-turn.invariant.2 c.wake.ensures.stay c.in_ok-next.ensures.here,
      c.wake.ensures.due ∙ c.loop-turn.invariant.3,
    )

-- all asked no more than all may
pub returns-clause-asks : goal.returns-clause-asks
returns-clause-asks g c =
    let brought = c.args.brought.now in
    all_few (handed_with c.args.conditions.now brought) brought.frame.now brought.matched.now c.args.self.now.list.items
    c.loop-turn.self.list.items c.args.asks.now c.loop-turn.asks c.loop-turn.next c.loop-turn.self.marks.items
    c.loop-turn.invariant.0
