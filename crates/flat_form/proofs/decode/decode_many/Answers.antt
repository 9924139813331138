use Rattle.std.proofs.lemmas.Result.{err_from_is_err_and}
use Rattle.sd_base.specs.Reads.{many}
use Rattle.sd_base.proofs.ReadsLemmas.{loop-next, loop-fails, loop-done}
use Rattle.flat_form.specs.ItemReading.{no_item_of}
use Rattle.flat_form.proofs.decode.decode_many.Goals as goal

-- the first fault of a value is that of all
pub returns-in_err-value : goal.returns-in_err-value
returns-in_err-value g c =
    let p = err_from_is_err_and c.from_residual.result c.from_residual.ensures.1 in
    rw (p.1, p.2) (loop-fails g.T.Decode.at c.loop-turn.values c.loop-turn._turn c.args.count c.loop-turn.rest.now
    (many g.T.Decode.at c.args.count c.args.bytes.now) c.loop-turn.invariant (no_item_of c.in_err-value.field-0.0)
    c.loop-turn-test.true c.in_err-value.ensures)

-- one more is read
pub loop-turn-preserved : goal.loop-turn-preserved
loop-turn-preserved g c =
    rw c.in_ok-push.ensures.added (loop-next g.T.Decode.at c.loop-turn.values c.loop-turn._turn c.args.count
    c.loop-turn.rest.now (many g.T.Decode.at c.args.count c.args.bytes.now) c.loop-turn.invariant
    c.in_ok-value.value c.in_ok-value.after.now c.loop-turn-test.true c.in_ok-value.ensures)

-- none is left
pub returns : goal.returns
returns g c =
    loop-done g.T.Decode.at c.loop-turn.values c.loop-turn._turn c.args.count c.loop-turn.rest.now
    (many g.T.Decode.at c.args.count c.args.bytes.now) c.loop-turn.invariant c.loop-turn-test.false
