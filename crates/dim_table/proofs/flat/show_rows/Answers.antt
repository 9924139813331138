use Rattle.std.proofs.Common.{◌≤◌, sym, subst}
use Rattle.flat_form.specs.Flat.{IsValidPair}
use Rattle.dim_table.proofs.TableItemsLemmas.{past_rows, valid_more, valid_all}
use Rattle.dim_table.proofs.flat.show_rows.Goals as goal

-- one more row is valid
pub loop-place-preserved : goal.loop-place-preserved
loop-place-preserved g c =
    valid_more (IsValidPair g.K.Flat.valid g.V.Flat.valid) c.args.table.now.rows c.loop-place.place
    (c.in-Some.key.now, c.in-Some.value.now) (sym c.in-Some.ensures) c.loop-place.invariant c.show_row.ensures

-- no row is left
pub returns-in_default : goal.returns-in_default
returns-in_default g c =
    valid_all (IsValidPair g.K.Flat.valid g.V.Flat.valid) c.args.table.now.rows c.loop-place.place
    (past_rows c.args.table.now.rows c.loop-place.place (sym c.in_default.ensures)) c.loop-place.invariant

-- all rows were seen
pub returns : goal.returns
returns g c =
    valid_all (IsValidPair g.K.Flat.valid g.V.Flat.valid) c.args.table.now.rows c.loop-place.place
    (subst (λ count. count ≤ c.loop-place.place) c.len-count.ensures.value c.loop-place-test.false)
    c.loop-place.invariant
