use Rattle.std.proofs.Common.{◌≡◌, ◌≤◌, ◌++◌, rules, sym, subst}
use Rattle.std.specs.Int.{w128}
use Rattle.std.proofs.lemmas.Int.{to_z-of_z}
use Rattle.std.proofs.lemmas.Result.{err_from_is_err_and}
use Rattle.flat_form.specs.Flat.{IsLong}
use Rattle.dim_table.proofs.TableItemsLemmas.{past_rows, rows_more, front_more, valid_all, added_all}
use Rattle.value_metric.specs.SumsItems.{sum_items, IsSum}
use Rattle.value_metric.proofs.sums_flat.flatten_sums.Goals as goal

-- one more sum was added
pub loop-place-preserved : goal.loop-place-preserved
loop-place-preserved c =
    let fits : IsLong c.in-Some.sum = search rules in
    let added = subst (λ n. c.flatten_sum.new.out ≡ c.loop-place.out ++ sum_items (c.in-Some.key.now, n))
    (to_z-of_z w128 c.in-Some.sum fits) c.in_ok-flatten_sum.ensures.added in
    rows_more IsSum sum_items c.args.sums.now c.loop-place.place (c.in-Some.key.now, c.in-Some.sum) c.args.out.now
    c.loop-place.out c.flatten_sum.new.out (sym c.in-Some.ensures) c.loop-place.invariant.0 c.loop-place.invariant.1
    added (tt, fits)

-- a sum was added in part
pub returns-in_err-flatten_sum-clause-err : goal.returns-in_err-flatten_sum-clause-err
returns-in_err-flatten_sum-clause-err c =
    let p = err_from_is_err_and c.from_residual.result c.from_residual.ensures.1 in
    rw p.1 (front_more _ _ _ _ c.loop-place.invariant.0 c.in_err-flatten_sum.ensures.err)

-- no key is left
pub returns-in_default-clause-added : goal.returns-in_default-clause-added
returns-in_default-clause-added c =
    added_all sum_items c.args.sums.now c.loop-place.place c.args.out.now c.loop-place.out
    (past_rows c.args.sums.now c.loop-place.place (sym c.in_default.ensures)) c.loop-place.invariant.0

pub returns-in_default-clause-valid : goal.returns-in_default-clause-valid
returns-in_default-clause-valid c =
    valid_all IsSum c.args.sums.now c.loop-place.place
    (past_rows c.args.sums.now c.loop-place.place (sym c.in_default.ensures)) c.loop-place.invariant.1

-- all were seen
pub returns-clause-added : goal.returns-clause-added
returns-clause-added c =
    added_all sum_items c.args.sums.now c.loop-place.place c.args.out.now c.loop-place.out
    (subst (λ count. count ≤ c.loop-place.place) c.len-count.ensures c.loop-place-test.false) c.loop-place.invariant.0

pub returns-clause-valid : goal.returns-clause-valid
returns-clause-valid c =
    valid_all IsSum c.args.sums.now c.loop-place.place
    (subst (λ count. count ≤ c.loop-place.place) c.len-count.ensures c.loop-place-test.false) c.loop-place.invariant.1
