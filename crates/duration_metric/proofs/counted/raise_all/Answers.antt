-- One key more is counted.
use Rattle.std.proofs.Common.{[], ◌∷◌, take, arith, sym, subst}
use Rattle.std.proofs.lemmas.List.{take_all}
use Rattle.duration_metric.specs.Tallies.{RaisesAll}
use Rattle.duration_metric.proofs.RaiseLemmas.{raised_fit, raises_none, raises_one, raises_more}
use Rattle.duration_metric.proofs.StepLemmas.{next_taken}
use Rattle.duration_metric.proofs.ZerosLemmas.{zeros_none, zeros_more}
use Rattle.duration_metric.proofs.counted.raise_all.Goals as goal

pub loop-key-init : goal.loop-key-init
loop-key-init c = (raises_none c.args.tally.now, zeros_none c.args.tally.now)

pub loop-key-preserved : goal.loop-key-preserved
loop-key-preserved c =
    let some = c.args.some.now in
    let i = c.loop-key.key-index in
    let key = c.key-item.result in
    let old = c.args.tally.now in
    let mid = c.loop-key.tally in
    let new = c.raise.new.self in (
      subst (RaisesAll old new) (sym (next_taken some i key c.loop-key-test.true c.key-item.is))
          (raises_more old mid new (take i some) (key ∷ []) c.loop-key.invariant.0
          (raises_one mid new key c.in_ok-_is_first.ensures.counts)),
      zeros_more old mid new [] [] c.loop-key.invariant.1 c.in_ok-_is_first.ensures.zeros,
    )

-- all are
pub returns-clause-counts : goal.returns-clause-counts
returns-clause-counts c =
    let ends = c.loop-key-test.false in
    let some = c.args.some.now in
    subst (RaisesAll c.args.tally.now c.loop-key.tally) (take_all c.loop-key.key-index some (omega (arith, ends)))
    c.loop-key.invariant.0

-- a count has room for one more
pub raise-requires : goal.raise-requires
raise-requires c = record {
  fits = raised_fit c.args.tally.now c.loop-key.tally c.args.some.now c.loop-key.key-index c.key-item.result
      c.requires.few c.loop-key.invariant.0 c.show_few.ensures;
}
