-- The span of one key more was taken to the time.
use Rattle.std.proofs.Common.{take, [], ◌∷◌, arith, sym, subst}
use Rattle.std.proofs.lemmas.List.{take_all}
use Rattle.duration_metric.specs.Tallies.{is_counted}
use Rattle.duration_metric.specs.SumSteps.{StepsSome}
use Rattle.duration_metric.proofs.ChangedLemmas.{steps_none, steps_more}
use Rattle.duration_metric.proofs.StepLemmas.{next_taken}
use Rattle.duration_metric.proofs.sum.step_keys.Goals as goal

pub loop-key-init : goal.loop-key-init
loop-key-init c = steps_none (is_counted c.args.tally.now) c.args.at c.args.table.now

pub loop-key-preserved : goal.loop-key-preserved
loop-key-preserved c =
    let keys = c.args.keys.now in
    let i = c.loop-key.key-index in
    let is_active = is_counted c.args.tally.now in
    subst (λ some. StepsSome c.args.table.now c.step_key.new.table some is_active c.args.at)
    (sym (next_taken keys i c.key-item.result c.loop-key-test.true c.key-item.is))
    (steps_more is_active c.args.at c.args.table.now c.loop-key.table c.step_key.new.table (take i keys)
    (c.key-item.result ∷ []) c.loop-key.invariant c.step_key.ensures)

-- all were
pub returns : goal.returns
returns c =
    let ends = c.loop-key-test.false in
    let keys = c.args.keys.now in
    subst (λ some. StepsSome c.args.table.now c.loop-key.table some (is_counted c.args.tally.now) c.args.at)
    (take_all c.loop-key.key-index keys (omega (arith, ends))) c.loop-key.invariant
