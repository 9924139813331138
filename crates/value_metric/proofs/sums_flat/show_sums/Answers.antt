use Rattle.std.proofs.Common.{◌≤◌, rules, sym, subst}
use Rattle.flat_form.specs.Flat.{IsLong}
use Rattle.dim_table.proofs.TableItemsLemmas.{past_rows, valid_more, valid_all}
use Rattle.value_metric.specs.SumsItems.{IsSum}
use Rattle.value_metric.proofs.sums_flat.show_sums.Goals as goal

-- one more sum is one
pub loop-place-preserved : goal.loop-place-preserved
loop-place-preserved c =
    let fits : IsLong c.in-Some.sum = search rules in
    valid_more IsSum c.args.sums.now c.loop-place.place (c.in-Some._key.now, c.in-Some.sum) (sym c.in-Some.ensures)
    c.loop-place.invariant (tt, fits)

-- no key is left
pub returns-in_default : goal.returns-in_default
returns-in_default c =
    valid_all IsSum c.args.sums.now c.loop-place.place
    (past_rows c.args.sums.now c.loop-place.place (sym c.in_default.ensures)) c.loop-place.invariant

-- all were seen
pub returns : goal.returns
returns c =
    valid_all IsSum c.args.sums.now c.loop-place.place
    (subst (λ count. count ≤ c.loop-place.place) c.len-count.ensures c.loop-place-test.false) c.loop-place.invariant
