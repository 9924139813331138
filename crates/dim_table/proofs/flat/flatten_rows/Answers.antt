use Rattle.std.proofs.Common.{◌≤◌, sym, subst}
use Rattle.std.proofs.lemmas.Result.{err_from_is_err_and}
use Rattle.flat_form.specs.Flat.{IsValidPair, pair_items}
use Rattle.dim_table.proofs.TableItemsLemmas.{past_rows, rows_more, front_more, valid_all, added_all}
use Rattle.dim_table.proofs.flat.flatten_rows.Goals as goal

-- one more row was added
pub loop-place-preserved : goal.loop-place-preserved
loop-place-preserved g c =
    rows_more (IsValidPair g.K.Flat.valid g.V.Flat.valid)
    (pair_items g.K.Flat.flat g.V.Flat.flat) c.args.table.now.rows c.loop-place.place
    (c.in-Some.key.now, c.in-Some.value.now) c.args.out.now c.loop-place.out c.flatten_row.new.out
    (sym c.in-Some.ensures)
    c.loop-place.invariant.0 c.loop-place.invariant.1 c.in_ok-flatten_row.ensures.added
    c.in_ok-flatten_row.ensures.valid

-- a row was added in part
pub returns-in_err-flatten_row-clause-err : goal.returns-in_err-flatten_row-clause-err
returns-in_err-flatten_row-clause-err g c =
    let p = err_from_is_err_and c.from_residual.result c.from_residual.ensures.1 in
    rw p.1 (front_more _ _ _ _ c.loop-place.invariant.0 c.in_err-flatten_row.ensures.err)

-- no row is left
pub returns-in_default-clause-added : goal.returns-in_default-clause-added
returns-in_default-clause-added g c =
    added_all (pair_items g.K.Flat.flat g.V.Flat.flat) c.args.table.now.rows c.loop-place.place c.args.out.now
    c.loop-place.out (past_rows c.args.table.now.rows c.loop-place.place (sym c.in_default.ensures))
    c.loop-place.invariant.0

pub returns-in_default-clause-valid : goal.returns-in_default-clause-valid
returns-in_default-clause-valid g c =
    valid_all (IsValidPair g.K.Flat.valid g.V.Flat.valid) c.args.table.now.rows c.loop-place.place
    (past_rows c.args.table.now.rows c.loop-place.place (sym c.in_default.ensures)) c.loop-place.invariant.1

-- all rows were seen
pub returns-clause-added : goal.returns-clause-added
returns-clause-added g c =
    added_all (pair_items g.K.Flat.flat g.V.Flat.flat) c.args.table.now.rows c.loop-place.place c.args.out.now
    c.loop-place.out
    (subst (λ count. count ≤ c.loop-place.place) c.len-count.ensures.value c.loop-place-test.false)
    c.loop-place.invariant.0

pub returns-clause-valid : goal.returns-clause-valid
returns-clause-valid g c =
    valid_all (IsValidPair g.K.Flat.valid g.V.Flat.valid) c.args.table.now.rows c.loop-place.place
    (subst (λ count. count ≤ c.loop-place.place) c.len-count.ensures.value c.loop-place-test.false)
    c.loop-place.invariant.1
