-- A sound configuration's matchers can be interned, and have an order.
use Rattle.std.proofs.Common.{List, sym, subst}
use Rattle.std.specs.List.{All}
use Rattle.config_links.specs.declared.linked.LMatcher.{LMatcher}
use Rattle.config_links.proofs.SoundUses.{references_end}
use Rattle.link_graph.specs.Links.{AreInRange, HasNoCycle}
use Rattle.matcher_truths.specs.MatcherTruths.{named_places, MayBeAsked}
use Rattle.held_slots.proofs.HoldSteps.{all_askable}
use Rattle.held_slots.proofs.held.HeldSlots.hold.Goals as goal

pub interning_order-requires-clause-in_range : goal.interning_order-requires-clause-in_range
interning_order-requires-clause-in_range c =
    subst (λ (ms : List LMatcher). AreInRange (named_places ms)) (sym c.as_slice-matchers.ensures)
    (references_end c.args.linked.now c.requires.sound).matchers_there

pub interning_order-requires-clause-no_cycle : goal.interning_order-requires-clause-no_cycle
interning_order-requires-clause-no_cycle c =
    subst (λ (ms : List LMatcher). HasNoCycle (named_places ms)) (sym c.as_slice-matchers.ensures)
    c.requires.sound.matchers_end

pub numbers_along-requires-clause-askable : goal.numbers_along-requires-clause-askable
numbers_along-requires-clause-askable c =
    subst (All MayBeAsked) (sym c.as_slice-matchers.ensures) (all_askable c.args.linked.now c.requires.sound)
