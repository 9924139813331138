-- One row more is counted.
use Rattle.std.proofs.Common.{[], take, slice_get, arith, sym, subst}
use Rattle.std.specs.List.{flat_map}
use Rattle.std.proofs.lemmas.List.{take_all}
use Rattle.duration_metric.specs.SumSteps.{found_tallied}
use Rattle.duration_metric.specs.Tallies.{row_tallied, RaisesAll}
use Rattle.duration_metric.proofs.RaiseLemmas.{rows_few, raises_none, raises_more, tallied-next}
use Rattle.duration_metric.proofs.ZerosLemmas.{zeros_none, zeros_more}
use Rattle.duration_metric.proofs.counted.raise_rows.Goals as goal

pub loop-place-init : goal.loop-place-init
loop-place-init c = (raises_none c.args.tally.now, zeros_none c.args.tally.now)

pub loop-place-preserved : goal.loop-place-preserved
loop-place-preserved c =
    let rows = c.args.keys.now.rows in
    let place = c.loop-place.place in
    let old = c.args.tally.now in
    let mid = c.loop-place.tally in
    let new = c.raise_row.new.tally in (
      subst (RaisesAll old new) (sym (tallied-next rows place))
          (raises_more old mid new (flat_map row_tallied (take place rows)) (found_tallied (slice_get rows place))
          c.loop-place.invariant.0 c.in_ok-raise_row.ensures.counts),
      zeros_more old mid new [] [] c.loop-place.invariant.1 c.in_ok-raise_row.ensures.zeros,
    )

-- the rows so far are few
pub raise_row-requires : goal.raise_row-requires
raise_row-requires c =
    let bounded = c.bound-bound.ensures.bounded in
    record {
      few = rows_few c.args.tally.now c.loop-place.tally c.args.keys.now.rows c.loop-place.place c.requires.none
          c.loop-place.invariant.0 (omega (arith, bounded.within, bounded.most));
    }

-- all are counted
pub returns-clause-counts : goal.returns-clause-counts
returns-clause-counts c =
    let rows = c.args.keys.now.rows in
    let ends = c.loop-place-test.false in
    subst (λ some. RaisesAll c.args.tally.now c.loop-place.tally (flat_map row_tallied some))
    (take_all c.loop-place.place rows (omega (arith, ends, c.len-place-end.ensures.value))) c.loop-place.invariant.0

pub returns-clause-few : goal.returns-clause-few
returns-clause-few c =
    let bounded = c.bound-bound.ensures.bounded in
    rows_few c.args.tally.now c.loop-place.tally c.args.keys.now.rows c.loop-place.place c.requires.none
    c.loop-place.invariant.0 (omega (arith, bounded.within, bounded.most))
