use Rattle.std.proofs.Common.{◌<◌, ℕ, length, get_or, refl, subst, sym}
use Rattle.matcher_table.specs.Hanging.{UnhangsFrom}
use Rattle.matcher_table.specs.StoreParts.{IsUsed}
use Rattle.matcher_table.proofs.HeldLaws.{order_live, no_truth}
use Rattle.matcher_table.proofs.FreeLaws.{freed_stands, freed_frees, used_lower}
use Rattle.matcher_table.proofs.ReadyLaws.{at_most_once}
use Rattle.matcher_table.proofs.store.Store.free_if_unused.Goals as goal

pub is_used-requires-clause-outside : goal.is_used-requires-clause-outside
is_used-requires-clause-outside c =
    subst (λ (k : ℕ). k < length c.args.self.now.outside.items) (sym c.slot_at-slot.ensures)
    (c.requires.stands.held.room_outside (get_or c.args.self.now.order.items c.args.at 0)
    (order_live c.requires.stands.held c.args.at c.requires.within))

pub is_used-requires-clause-uses : goal.is_used-requires-clause-uses
is_used-requires-clause-uses c =
    subst (λ (k : ℕ). k < length c.args.self.now.uses.items) (sym c.slot_at-slot.ensures)
    (c.requires.stands.held.room_uses (get_or c.args.self.now.order.items c.args.at 0)
    (order_live c.requires.stands.held c.args.at c.requires.within))

pub returns-clause-stands : goal.returns-clause-stands
returns-clause-stands c =
    let old = c.args.self.now in
    let x = get_or old.order.items c.args.at 0 in
    let unused : ¬ IsUsed old x =
    λ used. no_truth (c.if-is_used.ensures.1 (subst (IsUsed old) (sym c.slot_at-slot.ensures) used)) in
    let unhangs : UnhangsFrom old.hanging x c.remove.new.self =
    subst (λ (k : ℕ). UnhangsFrom old.hanging k c.remove.new.self) c.slot_at-slot.ensures c.remove.ensures in
    freed_stands old c.free.new.self c.args.at c.remove.new.self c.front_without-self.result c.requires.stands
    c.requires.within unused c.free.ensures unhangs c.front_without-self.ensures.above
    c.front_without-self.ensures.below

pub returns-clause-frees : goal.returns-clause-frees
returns-clause-frees c =
    let old = c.args.self.now in
    let unused : ¬ IsUsed old (get_or old.order.items c.args.at 0) =
    λ used. no_truth (c.if-is_used.ensures.1 (subst (IsUsed old) (sym c.slot_at-slot.ensures) used)) in
    freed_frees old c.free.new.self c.args.at c.remove.new.self c.front_without-self.result c.requires.stands
    c.requires.within unused c.free.ensures

pub remove-requires : goal.remove-requires
remove-requires c id = at_most_once c.requires.stands.ready c.slot_at-slot.result id

pub returns-then-is_used-clause-stands : goal.returns-then-is_used-clause-stands
returns-then-is_used-clause-stands c =
    let now = c.args.self.now in
    let stands = c.requires.stands in
    record {
      held = stands.held;
      indexed = stands.indexed;
      ready = stands.ready;
      used = used_lower now c.args.at c.requires.within
          (subst (IsUsed now) c.slot_at-slot.ensures (c.if-is_used.ensures.0 refl)) stands.used;
    }
