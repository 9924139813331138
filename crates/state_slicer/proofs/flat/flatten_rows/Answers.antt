-- One more row is added, and its state is of 32 bits.
use Rattle.std.proofs.Common.{◌++◌, sym, ap, ◌∙◌, rules, w32}
use Rattle.std.proofs.lemmas.Int.{to_z-of_z}
use Rattle.dim_table.proofs.TableItemsLemmas.{rows_more}
use Rattle.state_slicer.specs.StateItems.{FitsState, state_row_items, IsStateRow}
use Rattle.state_slicer.proofs.flat.flatten_rows.Goals as goal

-- one more row was added
pub loop-place-preserved : goal.loop-place-preserved
loop-place-preserved c =
    let fits : FitsState c.in-Some.state = search rules in
    rows_more IsStateRow state_row_items c.args.states.now.rows c.loop-place.place (c.in-Some.key.now, c.in-Some.state)
    c.args.out.now c.loop-place.out c.flatten_row.new.out (sym c.in-Some.ensures) c.loop-place.invariant.0
    c.loop-place.invariant.1
    (c.in_ok-flatten_row.ensures.added
    ∙ ap (λ s. c.loop-place.out ++ state_row_items (c.in-Some.key.now, s)) (to_z-of_z w32 c.in-Some.state fits))
    (tt, fits)
