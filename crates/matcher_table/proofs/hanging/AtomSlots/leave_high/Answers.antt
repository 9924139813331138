-- The list that was found has a slot left, or it goes.
use Rattle.std.proofs.Common.{◌<◌, length, refl, subst, arith}
use Rattle.std.specs.Prelude.{IsSome, nat_eq, vec_len}
use Rattle.std.proofs.lemmas.Grind.{merely}
use Rattle.matcher_table.proofs.NoEmptyLaws.{had_none_empty, not_empty, full_put, full_taken}
use Rattle.matcher_table.proofs.hanging.AtomSlots.leave_high.Goals as goal

pub invariant_of-self-then-is_empty : goal.invariant_of-self-then-is_empty
invariant_of-self-then-is_empty c =
    let kept = had_none_empty c.args.self.now.by_id.entries c.args.self.now.none_empty in
    record {
      none_empty = merely (λ heard.
          full_taken (nat_eq c.args.id heard) c.leave_one.new.slots _ _ _
          (c.swap_remove.ensures.updates.0 heard)
          (((c.get_mut.follows.holds c.leave_one.new.slots).3 (subst IsSome c.in-Some.ensures.value refl)).0 heard)
          (kept heard));
    }

pub invariant_of-self-else-is_empty : goal.invariant_of-self-else-is_empty
invariant_of-self-else-is_empty c =
    let kept = had_none_empty c.args.self.now.by_id.entries c.args.self.now.none_empty in
    let slots = c.leave_one.new.slots in
    let left = not_empty c.is_empty.result (vec_len slots) c.is_empty.ensures c.if-is_empty.false in
    let some : 0 < length slots.items = let long = slots.ok.0 in omega (arith, left, long) in
    record {
      none_empty = merely (λ heard.
          full_put (nat_eq c.args.id heard) c.leave_one.new.slots _ _
          (((c.get_mut.follows.holds c.leave_one.new.slots).3 (subst IsSome c.in-Some.ensures.value refl)).0 heard)
          some
          (kept heard));
    }
