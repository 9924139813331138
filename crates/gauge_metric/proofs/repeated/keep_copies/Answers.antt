-- Each row in its turn is kept or counted.
use Rattle.std.proofs.Common.{◌≡◌, ◌≤◌, ◌∷◌, [], sym, subst, arith}
use Rattle.kept_rows.specs.KeptRows.{AddsRows}
use Rattle.metric_kinds.specs.Gauges.{samples_weight}
use Rattle.dim_table.proofs.TableItemsLemmas.{past_rows}
use Rattle.gauge_metric.specs.EventItems.{atom_row_weight}
use Rattle.gauge_metric.proofs.RepeatedLemmas.{adds_none, copies_next, copies_all}
use Rattle.gauge_metric.proofs.repeated.keep_copies.Goals as goal

-- no row yet
pub loop-place-init : goal.loop-place-init
loop-place-init c = λ have. adds_none c.args.kept.now

-- one more row
pub loop-place-preserved : goal.loop-place-preserved
loop-place-preserved c =
    copies_next c.args.start c.args.end c.args.kept.now c.loop-place.kept c.put.new.self c.args.table.now.rows
    c.loop-place.place (c.in-Some.key.now, c.in-Some.atoms.now) (sym c.in-Some.ensures) c.loop-place.invariant
    (λ some. subst (λ row. AddsRows samples_weight c.loop-place.kept c.put.new.self (row ∷ [])) c.in_ok-row.ensures
    (c.in_ok-put.ensures.stands samples_weight
    (subst (λ row. samples_weight row ≡ atom_row_weight row) (sym c.in_ok-row.ensures) (omega (arith, some)))))

-- no row is left
pub returns-in_default : goal.returns-in_default
returns-in_default c =
    copies_all c.args.start c.args.end c.args.kept.now c.loop-place.kept c.args.table.now.rows c.loop-place.place
    (past_rows c.args.table.now.rows c.loop-place.place (sym c.in_default.ensures)) c.loop-place.invariant

-- all rows were seen
pub returns : goal.returns
returns c =
    copies_all c.args.start c.args.end c.args.kept.now c.loop-place.kept c.args.table.now.rows c.loop-place.place
    (subst (λ count. count ≤ c.loop-place.place) c.len-count.ensures.value c.loop-place-test.false)
    c.loop-place.invariant
