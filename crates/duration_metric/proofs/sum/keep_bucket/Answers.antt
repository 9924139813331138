-- The row of one key more was added.
use Rattle.std.proofs.Common.{map, arith, refl, sym, ap, subst}
use Rattle.std.proofs.lemmas.List.{take_all}
use Rattle.atom_record.specs.declared.value.MetricKey.{MetricKey}
use Rattle.dim_table.specs.Table.{keys}
use Rattle.kept_rows.specs.KeptRows.{AddsRows}
use Rattle.metric_kinds.specs.Counts.{row_weight}
use Rattle.duration_metric.specs.SumStands.{whole_row}
use Rattle.duration_metric.proofs.StepLemmas.{adds_whole, keys-length}
use Rattle.duration_metric.proofs.sum.keep_bucket.Goals as goal

pub loop-place-preserved : goal.loop-place-preserved
loop-place-preserved c fits =
    adds_whole c.args.start c.args.size c.saturating_add-end.result c.loop-place.place c.args.table.now.rows
    (c.in-Some.key.now, c.in-Some._span.now) _ c.args.kept.now c.loop-place.kept c.put.new.self (sym c.in-Some.ensures)
    (omega (arith, fits, c.saturating_add-end.ensures))
    (ap (λ (key : MetricKey). record {
      key = key;
      start = c.args.start;
      end = c.saturating_add-end.result;
      value = c.args.size;
    }) c.in_ok-clone_key.ensures)
    (c.loop-place.invariant fits) (c.in_ok-put.ensures.stands row_weight refl)

-- all were
pub returns : goal.returns
returns c fits =
    let ends = c.loop-place-test.false in
    let names = keys c.args.table.now in
    subst
    (λ some. AddsRows row_weight c.args.kept.now c.loop-place.kept (map (whole_row c.args.start c.args.size) some))
    (take_all c.loop-place.place names
    (omega (arith, ends, c.len-place-end.ensures.value, keys-length c.args.table.now.rows)))
    (c.loop-place.invariant fits)
