-- The span of a key that has one is taken to the time.
use Rattle.std.proofs.Common.{nat_lt, sym, ap}
use Rattle.duration_metric.specs.Tallies.{is_counted}
use Rattle.duration_metric.proofs.ChangedLemmas.{steps_there, steps_absent}
use Rattle.duration_metric.proofs.sum.step_key.Goals as goal

-- a key that has none changes nothing
pub returns-in_default : goal.returns-in_default
returns-in_default c =
    steps_absent (is_counted c.args.tally.now) c.args.at c.args.table.now c.args.key.now c.in_default.ensures.absent

pub returns : goal.returns
returns c = steps_there (is_counted c.args.tally.now) c.args.at c.args.table.now c.args.key.now c.in-Some.place
    c.in-Some-value_at.span.now c.step.result (nat_lt 0 c.count-is_active.result)
    c.in-Some.ensures.there (sym c.in-Some-value_at.ensures.value) (ap (nat_lt 0) c.count-is_active.ensures)
    c.step.ensures
