-- To all, or to those that the frame wakes.
use Rattle.std.proofs.Common.{◌∙◌, sym, arith}
use Rattle.client_engine.specs.Bringing.{handed_with}
use Rattle.client_engine.proofs.WokenLemmas.{none_due, all_woken}
use Rattle.client_engine.proofs.tracks.Tracks.log.Goals as goal

-- where memory is wanting, nothing is said of ends
pub returns-in_err-log_all-clause-due : goal.returns-in_err-log_all-clause-due
returns-in_err-log_all-clause-due g c = rw (c.replace-due.ensures.after) (none_due c.log_all.new.tracks.items)

pub returns-in_err-self-clause-due : goal.returns-in_err-self-clause-due
returns-in_err-self-clause-due g c =
    rw (c.wake_only.ensures.due, c.replace-due.ensures.after) (none_due c.wake_only.new.self.list.items)

pub returns-in_err-self-2-clause-due : goal.returns-in_err-self-2-clause-due
returns-in_err-self-2-clause-due g c =
    rw (c.wake_all.ensures.due, c.replace-due.ensures.after) (none_due c.wake_all.new.self.list.items)

-- those that it doesn't wake sleep through it
pub returns-clause-logs : goal.returns-clause-logs
returns-clause-logs g c =
    let brought = c.args.brought.now in
    let before = c.if-time_of-due.false in
    let at = c.time_of.ensures in
    let due = c.replace-due.ensures.value in
    all_woken (handed_with c.args.conditions.now brought) brought.frame.now brought.matched.now
    c.args.self.now.list.items c.wake_all.new.self.list.items c.args.asks.now c.wake_all.new.asks c.in_ok-self-2.field-0
    c.args.self.now.due c.wake_all.new.self.marks.items c.args.woken.now c.in_ok-self-2.ensures.woken
    (omega (arith, before, at, due)) (sym c.comes_by_pull.ensures ∙ grind (arith, c.if-comes_by_pull.false))
    c.requires.due c.requires.others c.in_ok-self-2.ensures.all

-- also where it wakes one alone
pub returns-then-woken-eq1-clause-logs : goal.returns-then-woken-eq1-clause-logs
returns-then-woken-eq1-clause-logs g c =
    let brought = c.args.brought.now in
    let before = c.if-time_of-due.false in
    let at = c.time_of.ensures in
    let due = c.replace-due.ensures.value in
    let these = c.in_ok-self.ensures.woken in
    all_woken (handed_with c.args.conditions.now brought) brought.frame.now brought.matched.now
    c.args.self.now.list.items c.wake_only.new.self.list.items c.args.asks.now c.wake_only.new.asks
    c.in_ok-self.field-0 c.args.self.now.due these.marks c.args.woken.now these.woken
    (omega (arith, before, at, due)) (sym c.comes_by_pull.ensures ∙ grind (arith, c.if-comes_by_pull.false))
    c.requires.due c.requires.others these.all
