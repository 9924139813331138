-- Nothing arrives where the metric isn't active or the condition isn't true; else the atom does.
use Rattle.std.proofs.Common.{true, refl, sym, ◌∙◌, arith}
use Rattle.metric_meaning.specs.Readings.{atom_reading}
use Rattle.client_engine.specs.Bringing.{handed_with}
use Rattle.client_engine.proofs.ArrivingLemmas.{condition_there, inactive_none, not_arriving, one_arriving, plain_holds}
use Rattle.client_engine.proofs.arriving.arriving.Goals as goal

-- the metric isn't active
pub returns-then-not-is_active-clause-atom : goal.returns-then-not-is_active-clause-atom
returns-then-not-is_active-clause-atom g c = λ scene found active.
    let brought = c.args.brought.now in
    inactive_none scene c.args.metric.now brought.frame.now brought.matched.now (sym active ∙ c.if-not-is_active.true)

-- the atom arrives, where there is no condition
pub returns-then-is_none-clause-atom : goal.returns-then-is_none-clause-atom
returns-then-is_none-clause-atom g c = λ scene found active.
    let matches = c.if-not-is_true_at.false in
    let what = c.is_true_at.ensures in
    let still = c.if-not-is_active.false in
    let none = c.if-is_none.true in
    let brought = c.args.brought.now in
    let atom = c.in-AtomAt.atom in
    one_arriving scene c.args.metric.now brought.frame.now c.in-AtomAt.at atom brought.matched.now true c.in-AtomAt.is
    (grind (arith, matches, what)) (grind (arith, still, active))
    (sym (plain_holds scene c.args.metric.now (atom_reading atom) (grind (arith, none)))) refl

-- the condition isn't true
pub returns-then-not-branch-clause-atom : goal.returns-then-not-branch-clause-atom
returns-then-not-branch-clause-atom g c = λ scene found active.
    let off = c.if-not-branch.true in
    let brought = c.args.brought.now in
    let atom = c.in-AtomAt.atom in
    not_arriving scene c.args.metric.now brought.frame.now c.in-AtomAt.at atom brought.matched.now c.in_ok-holds.field-0
    c.in-AtomAt.is
    (c.in_ok-holds.ensures.truth ∙ condition_there (handed_with c.args.conditions.now brought) scene c.args.metric.now
    (atom_reading atom) found)
    (grind (arith, off))

-- the atom arrives, where the condition is true
pub returns-clause-atom : goal.returns-clause-atom
returns-clause-atom g c = λ scene found active.
    let on = c.if-not-branch.false in
    let matches = c.if-not-is_true_at.false in
    let what = c.is_true_at.ensures in
    let still = c.if-not-is_active.false in
    let brought = c.args.brought.now in
    let atom = c.in-AtomAt.atom in
    one_arriving scene c.args.metric.now brought.frame.now c.in-AtomAt.at atom brought.matched.now
    c.in_ok-holds.field-0 c.in-AtomAt.is (grind (arith, matches, what)) (grind (arith, still, active))
    (c.in_ok-holds.ensures.truth ∙ condition_there (handed_with c.args.conditions.now brought) scene c.args.metric.now
    (atom_reading atom) found)
    (grind (arith, on))
