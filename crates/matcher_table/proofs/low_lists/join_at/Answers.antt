use Rattle.std.proofs.Common.{◌∙◌, ◌++◌, List, [], ◌∷◌, ℕ, ap, sym}
use Rattle.std.proofs.lemmas.Result.{on_ok_weaker, on_err_weaker}
use Rattle.matcher_table.proofs.RowLaws.{in_row, set_in_row, others_in_row}
use Rattle.matcher_table.proofs.low_lists.join_at.Goals as goal

pub returns-clause-own : goal.returns-clause-own
returns-clause-own c =
    let lists = c.make_room.new.lists.items in
    let at = c.args.at in
    let room = c.in_ok-make_room.ensures.room in
    on_ok_weaker c.push_slot.result
    (λ added. set_in_row lists at c.push_slot.new.slots room ∙ added
    ∙ ap (λ (xs : List ℕ). xs ++ c.args.slot ∷ []) (ap (λ list. list.items) c.index_mut.ensures.value
    ∙ sym (in_row lists at c.index_mut.result.now room) ∙ c.in_ok-make_room.ensures.same at))
    c.push_slot.ensures.ok

pub returns-clause-err : goal.returns-clause-err
returns-clause-err c =
    let lists = c.make_room.new.lists.items in
    let at = c.args.at in
    let room = c.in_ok-make_room.ensures.room in
    on_err_weaker c.push_slot.result
    (λ same. set_in_row lists at c.push_slot.new.slots room ∙ same
    ∙ ap (λ list. list.items) c.index_mut.ensures.value
    ∙ sym (in_row lists at c.index_mut.result.now room) ∙ c.in_ok-make_room.ensures.same at)
    c.push_slot.ensures.err

pub returns-clause-others : goal.returns-clause-others
returns-clause-others c other apart =
    others_in_row c.make_room.new.lists.items c.args.at c.push_slot.new.slots other apart
    ∙ c.in_ok-make_room.ensures.same other
