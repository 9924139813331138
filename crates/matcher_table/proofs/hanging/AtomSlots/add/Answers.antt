use Rattle.std.proofs.Common.{◌≡◌, ◌<◌, ◌≤◌, ℕ, List, ap, subst, sym, ◌∙◌}
use Rattle.matcher_table.specs.Slots.{times_among}
use Rattle.matcher_table.specs.Hanging.{slots_under, atom_ids}
use Rattle.matcher_table.proofs.HangingLaws.{ids_same, lists_same}
use Rattle.matcher_table.proofs.hanging.AtomSlots.add.Goals as goal

pub join_all-requires-clause-once : goal.join_all-requires-clause-once
join_all-requires-clause-once c =
    subst (λ (xs : List ℕ). (id : ℕ) → times_among id xs ≤ 1) (sym c.as_slice.ensures) c.in_ok-ids.ensures.once

pub returns-clause-hangs : goal.returns-clause-hangs
returns-clause-hangs c =
    let ids = c.in_ok-ids.ids in
    let slot = c.args.slot in
    let noted : atom_ids c.note.new.self slot ≡ ids = c.note.ensures.ids in
    let given : c.as_slice.result.now ≡ ids = c.as_slice.ensures in
    let has : (id : ℕ) → 0 < times_among id ids → 0 < times_among id (atom_ids c.note.new.self slot) =
    λ id. subst (λ (xs : List ℕ). 0 < times_among id xs) (sym noted) in
    let lists : (id : ℕ) → slots_under c.note.new.self id ≡ slots_under c.join_all.new.self id =
    lists_same c.join_all.new.self c.note.new.self c.note.ensures.low c.note.ensures.lists in
    record {
      joined = λ id its. lists id
          ∙ c.in_ok-join_all.ensures.joined id (subst (λ (xs : List ℕ). 0 < times_among id xs) (noted ∙ sym given) its);
      apart = λ id none. lists id
          ∙ c.in_ok-join_all.ensures.apart id
          (ap (times_among id) given ∙ sym (ap (times_among id) noted) ∙ none);
      others = λ s other. c.note.ensures.others s other
          ∙ ids_same c.args.self.now c.join_all.new.self
          (ap (λ m. m.entries) c.in_ok-join_all.ensures.ids ∙ c.in_ok-reserve.ensures.entries) s;
      own = λ matcher is. has _ (c.in_ok-ids.ensures.own matcher is);
      children = λ k id named its. has id (c.in_ok-ids.ensures.children k id named its);
    }
