use Rattle.std.proofs.lemmas.Result.{err_from_is_err_and}
use Rattle.dim_table.proofs.TableItemsLemmas.{rows_none}
use Rattle.dim_table.proofs.flat.build_rows.Goals as goal

-- no row is built yet
pub loop-turn-init : goal.loop-turn-init
loop-turn-init g c = rows_none g.K.Flat.valid g.V.Flat.valid g.K.Flat.flat g.V.Flat.flat c.args.empty
    c.args.items.now c.args.place c.requires.empty

-- the next row has a fault
pub returns-in_err-next : goal.returns-in_err-next
returns-in_err-next g c =
    let p = err_from_is_err_and c.from_residual.result c.from_residual.ensures.1 in
    rw (p.1, p.2) (c.in_err-next.ensures c.args.empty c.args.place c.loop-turn._turn c.args.count
    c.loop-turn.invariant c.loop-turn-test.true c.requires.fits.within)

-- one more row is built
pub loop-turn-preserved : goal.loop-turn-preserved
loop-turn-preserved g c =
    c.in_ok-next.ensures c.args.empty c.args.place c.loop-turn._turn c.args.count c.loop-turn.invariant
    c.loop-turn-test.true c.requires.fits.within
