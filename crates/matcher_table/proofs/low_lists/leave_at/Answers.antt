use Rattle.std.proofs.Common.{◌<◌, ℕ, List, length, get_or, set, subst, sym, arith}
use Rattle.matcher_table.specs.Hanging.{slots_at, LeavesList}
use Rattle.matcher_table.proofs.RowLaws.{in_row, set_in_row, others_in_row}
use Rattle.matcher_table.proofs.low_lists.leave_at.Goals as goal

pub returns-then-at-lists-clause-left : goal.returns-then-at-lists-clause-left
returns-then-at-lists-clause-left c =
    let lists = c.args.lists.now in
    let at = c.args.at in
    let within : at < length lists = omega arith in
    let was = get_or lists at c.index-lists-at.result in
    subst (λ (xs : List ℕ). LeavesList c.args.slot xs (slots_at (set lists at c.leave_one.new.slots) at))
    (sym (in_row lists at c.index-lists-at.result within))
    (subst (LeavesList c.args.slot was.items) (sym (set_in_row lists at c.leave_one.new.slots within))
    c.leave_one.ensures)

pub returns-then-at-lists-clause-others : goal.returns-then-at-lists-clause-others
returns-then-at-lists-clause-others c other apart =
    others_in_row c.args.lists.now c.args.at c.leave_one.new.slots other apart
