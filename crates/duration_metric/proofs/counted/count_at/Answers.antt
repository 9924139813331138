-- A row that isn't in the tally is taken into it.
use Rattle.std.proofs.Common.{inr, sym, ap, ◌∙◌, true, arith}
use Rattle.std.proofs.lemmas.Option.{same_Some}
use Rattle.std.proofs.lemmas.Result.{on_ok_weaker}
use Rattle.dim_table.specs.Table.{with_value_at}
use Rattle.predicate_state.specs.PredicateTable.{LeafKey}
use Rattle.duration_metric.specs.declared.inner.Inner.{Inner}
use Rattle.duration_metric.specs.SumSteps.{with_begun}
use Rattle.duration_metric.specs.Tallies.{tally_at}
use Rattle.duration_metric.proofs.RaiseLemmas.{counts_fit}
use Rattle.duration_metric.proofs.RecountLemmas.{value_there}
use Rattle.duration_metric.proofs.counted.count_at.Goals as goal

pub returns-clause-counts : goal.returns-clause-counts
returns-clause-counts c =
    let keys = c.args.keys.now in
    let place = c.args.place in
    let row : LeafKey × Inner = (c.in-Some._key.now, c.in-Some.row.now) in
    let there = sym c.in-Some.ensures in
    on_ok_weaker c.push_if.result
    (λ is. inr (
      row,
      c.in-Some-counts_for.out.now,
      there,
      c.if-row.false,
      sym c.in-Some-counts_for.ensures,
      c.in_ok-is_first.ensures.counts,
      is ∙ ap (λ b. with_begun c.args.began.now b place) c.in_ok-is_first.ensures.first,
      ap (λ (i : Inner). with_value_at keys place (record i { tallied = true }))
          (same_Some c.in-Some-value_at.inner.now c.in-Some.row.now
          (c.in-Some-value_at.ensures.value ∙ value_there keys.rows place row there)),
    ))
    c.push_if.ensures

-- a count has room for one more
pub raise-requires : goal.raise-requires
raise-requires c =
    let bounded = c.bound-bound.ensures.bounded in
    record {
      fits = counts_fit (tally_at c.args.tally.now) c.args.keys.now.rows c.in-Some-counts_for.out.now c.requires.right
          (omega (arith, bounded.within, bounded.most));
    }
