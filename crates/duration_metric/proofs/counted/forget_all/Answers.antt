-- One key more that has no row and counts for none isn't there.
use Rattle.std.proofs.Common.{[], ◌∷◌, take, arith, sym, refl, subst, ◌∙◌}
use Rattle.std.proofs.lemmas.List.{take_all}
use Rattle.dim_table.specs.Table.{keys}
use Rattle.duration_metric.specs.Tallies.{Forgets}
use Rattle.duration_metric.proofs.StepLemmas.{next_taken}
use Rattle.duration_metric.proofs.ZerosLemmas.{forgets_none, forgets_more}
use Rattle.duration_metric.proofs.counted.forget_all.Goals as goal

pub loop-key-init : goal.loop-key-init
loop-key-init c = (λ key. refl, forgets_none c.args.tally.now (keys c.args.table.now))

pub loop-key-preserved : goal.loop-key-preserved
loop-key-preserved c =
    let some = c.args.some.now in
    let i = c.loop-key.key-index in
    let key = c.key-item.result in
    let rows = keys c.args.table.now in (
      λ other. c.forget_one.ensures.counts other ∙ c.loop-key.invariant.0 other,
      subst (λ done. Forgets c.args.tally.now c.forget_one.new.tally done rows)
          (sym (next_taken some i key c.loop-key-test.true c.key-item.is))
          (forgets_more c.args.tally.now c.loop-key.tally c.forget_one.new.tally (take i some) (key ∷ []) rows
          c.loop-key.invariant.1 c.forget_one.ensures.zeros),
    )

-- none of them is
pub returns-clause-zeros : goal.returns-clause-zeros
returns-clause-zeros c =
    let ends = c.loop-key-test.false in
    let some = c.args.some.now in
    subst (λ done. Forgets c.args.tally.now c.loop-key.tally done (keys c.args.table.now))
    (take_all c.loop-key.key-index some (omega (arith, ends))) c.loop-key.invariant.1
