-- One row more is added, and in the end all are.
use Rattle.std.proofs.Common.{◌≤◌, sym, subst}
use Rattle.std.proofs.lemmas.Result.{err_from_is_err_and}
use Rattle.flat_form.specs.Flat.{Anything}
use Rattle.dim_table.proofs.TableItemsLemmas.{past_rows, rows_more, front_more, added_all}
use Rattle.alert_watch.specs.WatchItems.{key_count_items}
use Rattle.alert_watch.proofs.flat.flatten_rows.Goals as goal

pub loop-place-preserved : goal.loop-place-preserved
loop-place-preserved c =
    (rows_more Anything key_count_items c.args.table.now.rows c.loop-place.place
    (c.in-Some.key.now, c.in-Some.number.now) c.args.out.now c.loop-place.out c.flatten_row.new.out
    (sym c.in-Some.ensures) c.loop-place.invariant (λ i row less. tt) c.in_ok-flatten_row.ensures.added tt).0

pub returns-in_err-flatten_row-clause-err : goal.returns-in_err-flatten_row-clause-err
returns-in_err-flatten_row-clause-err c =
    let p = err_from_is_err_and c.from_residual.result c.from_residual.ensures.1 in
    rw p.1 (front_more _ _ _ _ c.loop-place.invariant c.in_err-flatten_row.ensures.err)

pub returns-in_default-clause-added : goal.returns-in_default-clause-added
returns-in_default-clause-added c =
    added_all key_count_items c.args.table.now.rows c.loop-place.place c.args.out.now c.loop-place.out
    (past_rows c.args.table.now.rows c.loop-place.place (sym c.in_default.ensures)) c.loop-place.invariant

pub returns-clause-added : goal.returns-clause-added
returns-clause-added c =
    added_all key_count_items c.args.table.now.rows c.loop-place.place c.args.out.now c.loop-place.out
    (subst (λ count. count ≤ c.loop-place.place) c.len-count.ensures.value c.loop-place-test.false)
    c.loop-place.invariant
