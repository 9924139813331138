-- One key more was taken out.
use Rattle.std.proofs.Common.{◌+◌, [], ◌∷◌, take, drop, arith, sym, ap, subst, ◌∙◌}
use Rattle.std.proofs.lemmas.List.{drop_more, drop_all, take_all}
use Rattle.duration_metric.specs.Tallies.{how_often, NewZeros}
use Rattle.duration_metric.proofs.RecountLemmas.{lowers_more}
use Rattle.duration_metric.proofs.StepLemmas.{next_taken}
use Rattle.duration_metric.proofs.ZerosLemmas.{zeros_none, zeros_more}
use Rattle.duration_metric.proofs.counted.lower_all.Goals as goal

pub loop-key-init : goal.loop-key-init
loop-key-init c = (λ rest all key. all key, zeros_none c.args.tally.now)

pub loop-key-preserved : goal.loop-key-preserved
loop-key-preserved c =
    let keys = c.args.keys.now in
    let i = c.loop-key.key-index in
    let key = c.key-item.result in
    let next = drop_more keys i key c.loop-key-test.true ∙ ap (λ k. k ∷ drop (i + 1) keys) (sym c.key-item.is) in (
      λ rest all. lowers_more c.loop-key.tally c.lower.new.self key (drop (i + 1) keys) rest
          (λ other. c.loop-key.invariant.0 rest all other ∙ ap (λ l. rest other + how_often other l) next)
          c.in_ok-lower.ensures.counts,
      subst (NewZeros c.args.tally.now c.lower.new.self)
          (sym (next_taken keys i key c.loop-key-test.true c.key-item.is))
          (zeros_more c.args.tally.now c.loop-key.tally c.lower.new.self (take i keys) (key ∷ [])
          c.loop-key.invariant.1 c.in_ok-lower.ensures.zeros),
    )

-- all were
pub returns-clause-counts : goal.returns-clause-counts
returns-clause-counts c rest all key =
    let ends = c.loop-key-test.false in
    let keys = c.args.keys.now in
    c.loop-key.invariant.0 rest all key
    ∙ ap (λ l. rest key + how_often key l) (drop_all c.loop-key.key-index keys (omega (arith, ends)))
    ∙ omega arith

pub returns-clause-zeros : goal.returns-clause-zeros
returns-clause-zeros c =
    let ends = c.loop-key-test.false in
    let keys = c.args.keys.now in
    subst (NewZeros c.args.tally.now c.loop-key.tally) (take_all c.loop-key.key-index keys (omega (arith, ends)))
    c.loop-key.invariant.1
