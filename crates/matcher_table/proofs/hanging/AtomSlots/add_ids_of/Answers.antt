use Rattle.std.proofs.Common.{◌<◌, ℕ, List, subst, sym, arith}
use Rattle.std.proofs.lemmas.List.{take_all}
use Rattle.matcher_table.specs.Slots.{times_among}
use Rattle.matcher_table.specs.Hanging.{atom_ids}
use Rattle.matcher_table.proofs.HangingLaws.{front_more}
use Rattle.matcher_table.proofs.hanging.AtomSlots.add_ids_of.Goals as goal

pub loop-slot-preserved : goal.loop-slot-preserved
loop-slot-preserved c =
    let added = c.in_ok-add_missing.ensures in
    record {
      once = added.once;
      added = λ s id named.
          front_more (λ k. 0 < times_among id (atom_ids c.args.self.now k) → 0 < times_among id c.add_missing.new.ids)
          c.args.slots.now c.loop-slot.slot-index (omega arith)
          (λ k among its. added.kept id (c.loop-slot.invariant.added k id among its))
          (λ its. added.added id (subst (λ (xs : List ℕ). 0 < times_among id xs) (sym c.ids_at.ensures) its)) s named;
    }

pub returns-clause-added : goal.returns-clause-added
returns-clause-added c s id named =
    c.loop-slot.invariant.added s id (subst (λ (xs : List ℕ). 0 < times_among s xs)
    (sym (take_all c.loop-slot.slot-index c.args.slots.now (omega arith))) named)
