-- The key of one place more has begun.
use Rattle.std.proofs.Common.{[], slice_get, slice_index, take, arith, sym, ap, subst, ◌∙◌}
use Rattle.std.proofs.lemmas.List.{take_all, take_more}
use Rattle.duration_metric.specs.SumSteps.{found_out, outs_at, BeginsAll}
use Rattle.duration_metric.proofs.BegunLemmas.{outs-push}
use Rattle.duration_metric.proofs.BeginLemmas.{begins_out, keeps_more}
use Rattle.duration_metric.proofs.sum.begin_outs.Goals as goal

pub loop-place-preserved : goal.loop-place-preserved
loop-place-preserved c =
    let rows = c.args.keys.now.rows in
    let places = c.args.places.now in
    let i = c.loop-place.place-index in
    let place = slice_index places i in
    let outs = found_out (slice_get rows place) in (
      subst (λ some. BeginsAll c.args.table.now c.begin_out.new.table [] some c.args.at)
          (sym (ap (outs_at rows) (take_more places i 0 c.loop-place-test.true) ∙ outs-push rows (take i places) place))
          (begins_out c.args.table.now c.loop-place.table c.begin_out.new.table (outs_at rows (take i places)) outs
          c.args.at c.loop-place.invariant.0 c.in_ok-begin_out.ensures),
      keeps_more c.args.table.now c.loop-place.table c.begin_out.new.table outs c.args.at c.loop-place.invariant.1
          c.in_ok-begin_out.ensures,
    )

-- all have
pub returns-clause-begins : goal.returns-clause-begins
returns-clause-begins c =
    let ends = c.loop-place-test.false in
    let places = c.args.places.now in
    subst (λ some. BeginsAll c.args.table.now c.loop-place.table [] (outs_at c.args.keys.now.rows some) c.args.at)
    (take_all c.loop-place.place-index places (omega (arith, ends))) c.loop-place.invariant.0
