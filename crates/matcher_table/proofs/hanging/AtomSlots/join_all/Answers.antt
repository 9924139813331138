use Rattle.std.proofs.Common.{ℕ, List, subst, ◌∙◌, arith, inl, inr}
use Rattle.std.proofs.lemmas.Bool.{cases_eq}
use Rattle.matcher_table.specs.Slots.{times_among}
use Rattle.matcher_table.specs.Hanging.{slots_under, LeavesList}
use Rattle.matcher_table.proofs.HangingLaws.{not_left, joined_and_left}
use Rattle.matcher_table.proofs.hanging.AtomSlots.join_all.Goals as goal

pub returns-in-Err-clause-err : goal.returns-in-Err-clause-err
returns-in-Err-clause-err c id =
    let slot = c.args.slot in
    let old = slots_under c.args.self.now id in
    let new = slots_under c.leave_all.new.self id in
    elim (cases_eq (times_among id c.args.ids.now) 0) [
      | inl none ↦ c.leave_all.ensures.apart id none ∙ c.in-Err.ensures.apart id none
      | inr some ↦
          let left : LeavesList slot (slots_under c.join_some.new.self id) new =
          c.leave_all.ensures.left id (omega arith) in
          elim (c.in-Err.ensures.some id) [
            | inl same ↦
                not_left slot old new (c.requires.vacant id)
                (subst (λ (xs : List ℕ). LeavesList slot xs new) same left)
            | inr joined ↦
                joined_and_left slot old new (c.requires.vacant id)
                (subst (λ (xs : List ℕ). LeavesList slot xs new) joined left)
          ]
    ]
