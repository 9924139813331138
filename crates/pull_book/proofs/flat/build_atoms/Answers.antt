use Rattle.std.proofs.lemmas.Result.{err_from_is_err_and}
use Rattle.atom_record.specs.AtomSound.{HasNoFault}
use Rattle.flat_form.proofs.FlatLaws.{are_none, are_more, next_fails}
use Rattle.pull_book.specs.PullItems.{payload_items}
use Rattle.pull_book.proofs.flat.build_atoms.Goals as goal

-- nothing is built yet
pub loop-turn-init : goal.loop-turn-init
loop-turn-init c = rw c.new-atoms.ensures (are_none HasNoFault payload_items c.args.items.now c.args.place)

-- the next atom has a fault
pub returns-in_err-atom : goal.returns-in_err-atom
returns-in_err-atom c =
    let p = err_from_is_err_and c.from_residual.result c.from_residual.ensures.1 in
    rw (p.1, p.2) (next_fails HasNoFault payload_items c.args.items.now c.args.place c.loop-turn._turn
    c.args.count c.loop-turn.atoms c.loop-turn.next c.loop-turn.invariant c.loop-turn-test.true
    c.in_err-atom.field-0.0 c.in_err-atom.ensures)

-- one more is built
pub loop-turn-preserved : goal.loop-turn-preserved
loop-turn-preserved c =
    rw c.in_ok-push.ensures.added (are_more HasNoFault payload_items c.args.items.now c.args.place
    c.loop-turn._turn c.loop-turn.atoms c.loop-turn.next c.in_ok-atom.atom c.in_ok-atom.after
    c.loop-turn.invariant c.in_ok-atom.ensures)
