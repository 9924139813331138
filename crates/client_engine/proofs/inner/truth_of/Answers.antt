-- All inner keys have the truth that they share.
use Rattle.std.proofs.Common.{ap, ◌∙◌}
use Rattle.metric_calls.specs.DurationCalls.{told_as}
use Rattle.known_conditions.specs.Known.{reading_in}
use Rattle.client_engine.proofs.inner.truth_of.Goals as goal

pub returns-in-Some-clause-truth : goal.returns-in-Some-clause-truth
returns-in-Some-clause-truth g c = λ shared.
    c.truth_as.ensures
    ∙ ap told_as ((rw (c.in-Some.is) at shared)
    (reading_in c.args.conditions.now c.args.asker.now.metric.now c.args.key.now))
