-- The key of one row more has begun.
use Rattle.std.proofs.Common.{[], slice_get, take, arith, sym, subst}
use Rattle.std.specs.List.{flat_map}
use Rattle.std.proofs.lemmas.List.{take_all}
use Rattle.duration_metric.specs.Tallies.{row_out}
use Rattle.duration_metric.specs.SumSteps.{found_out, BeginsAll}
use Rattle.duration_metric.proofs.BegunLemmas.{outs-next}
use Rattle.duration_metric.proofs.BeginLemmas.{begins_out, keeps_more}
use Rattle.duration_metric.proofs.sum.begin_all.Goals as goal

pub loop-place-preserved : goal.loop-place-preserved
loop-place-preserved c =
    let rows = c.args.keys.now.rows in
    let place = c.loop-place.place in
    let outs = found_out (slice_get rows place) in (
      subst (λ some. BeginsAll c.args.table.now c.begin_out.new.table [] some c.args.at) (sym (outs-next rows place))
          (begins_out c.args.table.now c.loop-place.table c.begin_out.new.table (flat_map row_out (take place rows))
          outs c.args.at c.loop-place.invariant.0 c.in_ok-begin_out.ensures),
      keeps_more c.args.table.now c.loop-place.table c.begin_out.new.table outs c.args.at c.loop-place.invariant.1
          c.in_ok-begin_out.ensures,
    )

-- all have
pub returns-clause-begins : goal.returns-clause-begins
returns-clause-begins c =
    let rows = c.args.keys.now.rows in
    let ends = c.loop-place-test.false in
    subst (λ some. BeginsAll c.args.table.now c.loop-place.table [] (flat_map row_out some) c.args.at)
    (take_all c.loop-place.place rows (omega (arith, ends, c.len-place-end.ensures.value))) c.loop-place.invariant.0
