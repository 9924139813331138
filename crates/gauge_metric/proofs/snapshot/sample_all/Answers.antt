-- Each sample in its turn comes.
use Rattle.std.proofs.Common.{◌++◌, ◌∷◌, [], take, take_all, sym, ap, subst, ◌∙◌}
use Rattle.std.proofs.lemmas.List.{take_more}
use Rattle.gauge_metric.specs.PulledStands.{TakesSamples}
use Rattle.gauge_metric.proofs.MomentLemmas.{takes_none, takes_more}
use Rattle.gauge_metric.proofs.snapshot.sample_all.Goals as goal

-- no sample yet
pub loop-sample-init : goal.loop-sample-init
loop-sample-init c = takes_none c.args.samples c.args.table.now

-- one more sample
pub loop-sample-preserved : goal.loop-sample-preserved
loop-sample-preserved c =
    let all = c.args.snapshot.now in
    let i = c.loop-sample.sample-index in
    let sample = c.sample-item.result in
    subst (TakesSamples c.args.samples c.args.table.now c.sample_one.new.table)
    (sym (take_more all i sample c.loop-sample-test.true ∙ ap (λ y. take i all ++ y ∷ []) (sym c.sample-item.is)))
    (takes_more c.args.samples c.args.table.now c.loop-sample.table c.sample_one.new.table (take i all) sample
    c.loop-sample.invariant c.in_ok-sample_one.ensures)

-- all came
pub returns : goal.returns
returns c =
    subst (TakesSamples c.args.samples c.args.table.now c.loop-sample.table)
    (take_all c.loop-sample.sample-index c.args.snapshot.now c.loop-sample-test.false) c.loop-sample.invariant
