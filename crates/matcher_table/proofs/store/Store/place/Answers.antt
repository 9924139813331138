use Rattle.std.proofs.Common.{◌≡◌, ◌+◌, ℕ, Bool, List, length, get_or, set, Some, false, sym, ap, subst, ◌∙◌, arith, inl}
use Rattle.std.specs.Vec.{with_items}
use Rattle.std.proofs.lemmas.List.{with_items_is, length-set, get_or-set_other, get_or-set_same}
use Rattle.matcher_table.specs.Slots.{matcher_at, children_of, times_among}
use Rattle.matcher_table.specs.Idle.{idle_with}
use Rattle.matcher_table.specs.Hanging.{slots_under, atom_ids}
use Rattle.matcher_table.specs.Finding.{slot_for}
use Rattle.matcher_table.specs.StoreParts.{AreSlotsHeld, AreReady}
use Rattle.matcher_table.proofs.HeldLaws.{held_made}
use Rattle.matcher_table.proofs.IndexLaws.{indexed_made}
use Rattle.matcher_table.proofs.MadeLaws.{made_used}
use Rattle.matcher_table.proofs.ReadyLaws.{ready_made}
use Rattle.matcher_table.proofs.store.Store.place.Goals as goal

pub returns-clause-stands : goal.returns-clause-stands
returns-clause-stands c =
    let now = c.args.self.now in
    let awaits = c.requires.awaits in
    let inserted = c.insert_reserved-slot.ensures in
    let slot = c.insert_reserved-slot.result in
    let slots = c.insert_reserved-slot.new.self.slots in
    let outside = set now.outside.items slot 1 in
    let results = set now.results.items slot false in
    let us = c.add_uses.new.uses in
    let counted : (k : ℕ) → get_or us k 0
    ≡ get_or now.uses.items k 0 + times_among k (children_of (Some c.args.shared)) =
    λ k. c.add_uses.ensures k
    ∙ ap (λ (xs : List ℕ). get_or xs k 0 + times_among k c.children.result.now) c.deref_mut.ensures.value
    ∙ ap (λ (xs : List ℕ). get_or now.uses.items k 0 + times_among k xs) c.children.ensures in
    let long : length us ≡ length now.uses.items = c.add_uses.auto.uses ∙ ap length c.deref_mut.ensures.value in
    let e : (with_items now.uses us).items ≡ us = with_items_is now.uses us (omega arith) in
    let one : get_or outside slot 0 ≡ 1 =
    get_or-set_same now.outside.items slot 1 0 (omega (arith, inserted.key, awaits.room.outside)) in
    let b = c.idle_of-idle.result in
    let is_b : b ≡ idle_with (λ y. get_or now.idle.items y false) (Some c.args.shared) =
    c.idle_of-idle.ensures
    ∙ ap (λ (bs : List Bool). idle_with (λ y. get_or bs y false) (Some c.args.shared)) c.as_slice.ensures.value in
    let held : AreSlotsHeld slots c.push_reserved.new.list.items outside (with_items now.uses us).items results =
    subst (λ (xs : List ℕ). AreSlotsHeld slots c.push_reserved.new.list.items outside xs results) (sym e)
    (subst (λ (xs : List ℕ). AreSlotsHeld slots xs outside us results) (sym c.push_reserved.ensures)
    (held_made awaits.held slots slot c.args.shared outside us results inserted.was_vacant
    inserted.updates.changed inserted.updates.others inserted.len awaits.may.children awaits.may.askable counted
    (omega arith) (omega (arith, inserted.key, awaits.room.uses))
    (omega (arith, length-set now.outside.items slot 1))
    (omega (arith, length-set now.outside.items slot 1, inserted.key, awaits.room.outside))
    (λ s other. get_or-set_other now.outside.items slot s 1 0 other)
    (omega (arith, length-set now.results.items slot false))
    (omega (arith, length-set now.results.items slot false, inserted.key, awaits.room.results)))) in
    record {
      held = held;
      indexed = indexed_made awaits.indexed slots c.add.new.self slot c.args.shared inserted.was_vacant
          inserted.updates.changed inserted.updates.others awaits.is_new
          (ap (slot_for c.add.new.self) (sym c.requires.key) ∙ c.add.ensures.added)
          (λ wanted other. c.add.ensures.others wanted (λ e. other (e ∙ c.requires.key)));
      ready = subst (λ (xs : List ℕ). AreReady slots (slots_under now.hanging) (atom_ids now.hanging) xs now.settled
          now.last (set now.idle.items slot b) results) (sym c.push_reserved.ensures)
          (ready_made awaits.rested awaits.held held slot c.args.shared inserted.was_vacant
          inserted.updates.changed inserted.updates.others b is_b (omega (arith, inserted.key, awaits.room.idle))
          awaits.may.children
          (awaits.enough slots (ap (matcher_at slots) (sym inserted.key) ∙ inserted.updates.changed)
          (λ k other. inserted.updates.others k (λ e. other (e ∙ inserted.key)))));
      used = λ s live. inl (made_used now.bodies.slots slots slot now.outside.items outside now.uses.items
          (with_items now.uses us).items now.order.items inserted.updates.others
          (λ k other. get_or-set_other now.outside.items slot k 1 0 other) (omega arith)
          (λ k. omega (arith, counted k, ap (λ (xs : List ℕ). get_or xs k 0) e)) awaits.used s live);
    }
