use Rattle.std.proofs.lemmas.Result.{err_from_is_err_and}
use Rattle.flat_form.proofs.FlatLaws.{are_none, are_more, next_fails}
use Rattle.flat_form.proofs.flat.build_all.Goals as goal

-- nothing is built yet
pub loop-turn-init : goal.loop-turn-init
loop-turn-init g c = rw c.new-values.ensures (are_none g.T.Flat.valid g.T.Flat.flat c.args.items.now c.args.place)

-- the next value has a fault
pub returns-in_err-value : goal.returns-in_err-value
returns-in_err-value g c =
    let p = err_from_is_err_and c.from_residual.result c.from_residual.ensures.1 in
    rw (p.1, p.2) (next_fails g.T.Flat.valid g.T.Flat.flat c.args.items.now c.args.place c.loop-turn._turn
    c.args.count c.loop-turn.values c.loop-turn.next c.loop-turn.invariant c.loop-turn-test.true
    c.in_err-value.field-0.0 c.in_err-value.ensures)

-- one more is built
pub loop-turn-preserved : goal.loop-turn-preserved
loop-turn-preserved g c =
    rw c.in_ok-push.ensures.added (are_more g.T.Flat.valid g.T.Flat.flat c.args.items.now c.args.place
    c.loop-turn._turn c.loop-turn.values c.loop-turn.next c.in_ok-value.value c.in_ok-value.after
    c.loop-turn.invariant c.in_ok-value.ensures)
