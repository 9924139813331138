-- One more state is of 32 bits.
use Rattle.std.proofs.Common.{sym, rules}
use Rattle.dim_table.proofs.TableItemsLemmas.{valid_more}
use Rattle.state_slicer.specs.StateItems.{FitsState, IsStateRow}
use Rattle.state_slicer.proofs.flat.show_rows.Goals as goal

-- one more row was seen
pub loop-place-preserved : goal.loop-place-preserved
loop-place-preserved c =
    let fits : FitsState c.in-Some._state = search rules in
    valid_more IsStateRow c.args.states.now.rows c.loop-place.place (c.in-Some._key.now, c.in-Some._state)
    (sym c.in-Some.ensures) c.loop-place.invariant (tt, fits)
