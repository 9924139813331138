-- The list that was found has a slot, as it did before.
use Rattle.std.proofs.Common.{refl, sym, subst}
use Rattle.std.specs.Prelude.{IsSome, nat_eq}
use Rattle.std.proofs.lemmas.Grind.{merely}
use Rattle.matcher_table.proofs.NoEmptyLaws.{had_none_empty, joined_full, full_put, IsFull}
use Rattle.matcher_table.proofs.hanging.AtomSlots.join_high.Goals as goal

pub invariant_of-self-2 : goal.invariant_of-self-2
invariant_of-self-2 c =
    let kept = had_none_empty c.args.self.now.by_id.entries c.args.self.now.none_empty in
    let found = c.in-Some.ensures.value in
    record {
      none_empty = merely (λ heard.
          full_put (nat_eq c.args.id heard) c.push_slot.new.slots _ _
          (((c.get_mut.follows.holds c.push_slot.new.slots).3 (subst IsSome found refl)).0 heard)
          (joined_full c.push_slot.result _ c.push_slot.new.slots.items c.args.slot c.push_slot.ensures.ok
          c.push_slot.ensures.err (subst IsFull (sym found) (kept c.args.id)))
          (kept heard));
    }
