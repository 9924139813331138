-- The span of the key for which a row counts is taken to the time.
use Rattle.std.proofs.Common.{subst}
use Rattle.duration_metric.specs.Tallies.{is_counted}
use Rattle.duration_metric.specs.SumSteps.{StepsSome}
use Rattle.duration_metric.proofs.ChangedLemmas.{steps_none}
use Rattle.duration_metric.proofs.sum.step_out.Goals as goal

-- there is none
pub returns-in_default : goal.returns-in_default
returns-in_default c =
    subst (λ l. StepsSome c.args.table.now c.args.table.now l (is_counted c.args.tally.now) c.args.at)
    c.in_default.ensures (steps_none (is_counted c.args.tally.now) c.args.at c.args.table.now)

pub returns : goal.returns
returns c =
    subst (λ l. StepsSome c.args.table.now c.step_key.new.table l (is_counted c.args.tally.now) c.args.at)
    c.in-Some.ensures c.step_key.ensures
