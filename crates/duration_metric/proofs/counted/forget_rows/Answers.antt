-- The key of one row more isn't there where it counts for none.
use Rattle.std.proofs.Common.{[], ◌∷◌, take, arith, sym, ap, refl, subst, ◌∙◌}
use Rattle.std.specs.Option.{option_map}
use Rattle.std.proofs.lemmas.List.{take_all}
use Rattle.std.proofs.lemmas.Option.{slice_get-map}
use Rattle.atom_record.specs.declared.value.MetricKey.{MetricKey}
use Rattle.dim_table.specs.Table.{keys}
use Rattle.duration_metric.specs.declared.sum.Span.{Span}
use Rattle.duration_metric.specs.Tallies.{Forgets}
use Rattle.duration_metric.proofs.StepLemmas.{next_got, keys-length}
use Rattle.duration_metric.proofs.ZerosLemmas.{forgets_none, forgets_more}
use Rattle.duration_metric.proofs.counted.forget_rows.Goals as goal

pub loop-place-init : goal.loop-place-init
loop-place-init c = (λ key. refl, forgets_none c.args.tally.now [])

pub loop-place-preserved : goal.loop-place-preserved
loop-place-preserved c =
    let names = keys c.args.table.now in
    let place = c.loop-place.place in
    let key = c.in-Some.key.now in
    let old = c.args.tally.now in
    let new = c.forget.new.self in (
      λ other. c.forget.ensures.counts other ∙ c.loop-place.invariant.0 other,
      subst (λ done. Forgets old new done [])
          (sym (next_got names place key (slice_get-map (λ (row : MetricKey × Span). row.0) c.args.table.now.rows place
          ∙ ap (option_map (λ (row : MetricKey × Span). row.0)) (sym c.in-Some.ensures))))
          (forgets_more old c.loop-place.tally new (take place names) (key ∷ []) [] c.loop-place.invariant.1
          c.forget.ensures.zeros),
    )

-- none of them is
pub returns-clause-zeros : goal.returns-clause-zeros
returns-clause-zeros c =
    let ends = c.loop-place-test.false in
    let names = keys c.args.table.now in
    subst (λ done. Forgets c.args.tally.now c.loop-place.tally done [])
    (take_all c.loop-place.place names
    (omega (arith, ends, c.len-place-end.ensures.value, keys-length c.args.table.now.rows)))
    c.loop-place.invariant.1
