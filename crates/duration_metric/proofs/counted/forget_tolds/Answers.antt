-- The key of one place more isn't there where it has no row and counts for none.
use Rattle.std.proofs.Common.{take, slice_get, slice_index, arith, sym, ap, refl, subst, ◌∙◌}
use Rattle.std.proofs.lemmas.List.{take_all, take_more}
use Rattle.dim_table.specs.Table.{keys}
use Rattle.duration_metric.specs.SumSteps.{found_told, tolds_at}
use Rattle.duration_metric.specs.Tallies.{Forgets}
use Rattle.duration_metric.proofs.ReleaseLemmas.{tolds-push}
use Rattle.duration_metric.proofs.ZerosLemmas.{forgets_none, forgets_more}
use Rattle.duration_metric.proofs.counted.forget_tolds.Goals as goal

pub loop-place-init : goal.loop-place-init
loop-place-init c = (λ key. refl, forgets_none c.args.tally.now (keys c.args.table.now))

pub loop-place-preserved : goal.loop-place-preserved
loop-place-preserved c =
    let rows = c.args.inner.now.rows in
    let places = c.args.places.now in
    let i = c.loop-place.place-index in
    let place = slice_index places i in
    let names = keys c.args.table.now in
    let old = c.args.tally.now in
    let new = c.forget_told.new.tally in (
      λ other. c.forget_told.ensures.counts other ∙ c.loop-place.invariant.0 other,
      subst (λ done. Forgets old new done names)
          (sym (ap (tolds_at rows) (take_more places i 0 c.loop-place-test.true)
          ∙ tolds-push rows (take i places) place))
          (forgets_more old c.loop-place.tally new (tolds_at rows (take i places)) (found_told (slice_get rows place))
          names c.loop-place.invariant.1 c.forget_told.ensures.zeros),
    )

-- those of all places aren't
pub returns-clause-zeros : goal.returns-clause-zeros
returns-clause-zeros c =
    let ends = c.loop-place-test.false in
    let places = c.args.places.now in
    subst (λ done. Forgets c.args.tally.now c.loop-place.tally (tolds_at c.args.inner.now.rows done)
    (keys c.args.table.now))
    (take_all c.loop-place.place-index places (omega (arith, ends))) c.loop-place.invariant.1
