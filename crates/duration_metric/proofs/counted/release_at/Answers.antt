-- A row that is in the tally and counts for no key more is taken out.
use Rattle.std.proofs.Common.{inr, sym, ap, ◌∙◌, false}
use Rattle.std.proofs.lemmas.Option.{same_Some}
use Rattle.dim_table.specs.Table.{with_value_at}
use Rattle.predicate_state.specs.PredicateTable.{LeafKey}
use Rattle.duration_metric.specs.declared.inner.Inner.{Inner}
use Rattle.duration_metric.proofs.RecountLemmas.{value_there}
use Rattle.duration_metric.proofs.counted.release_at.Goals as goal

pub returns-clause-counts : goal.returns-clause-counts
returns-clause-counts c =
    let keys = c.args.keys.now in
    let place = c.args.place in
    let row : LeafKey × Inner = (c.in-Some._key.now, c.in-Some.row.now) in
    inr (
      row,
      c.in-Some-told_of.out.now,
      sym c.in-Some.ensures,
      (c.if-not-row.false, sym c.in-None.ensures),
      sym c.in-Some-told_of.ensures,
      c.in_ok-lower.ensures.counts,
      ap (λ (i : Inner). with_value_at keys place (record i { tallied = false }))
          (same_Some c.in-Some-value_at.inner.now c.in-Some.row.now
          (c.in-Some-value_at.ensures.value ∙ value_there keys.rows place row (sym c.in-Some.ensures))),
    )
