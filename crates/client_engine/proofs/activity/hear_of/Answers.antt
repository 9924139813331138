-- The book says whether the metric is active, once it was told the frame.
use Rattle.std.proofs.Common.{◌∙◌, map, ap}
use Rattle.metric_meaning.specs.ActivationSteps.{is_active_after}
use Rattle.client_engine.specs.Activity.{said_by}
use Rattle.client_engine.proofs.ActivityLemmas.{active_is}
use Rattle.client_engine.proofs.activity.hear_of.Goals as goal

pub returns-clause-active : goal.returns-clause-active
returns-clause-active c = λ steps along.
    let metric = c.args.metric.now in
    c.active.ensures (map (said_by metric) steps) along.stands
    ∙ active_is metric steps c.tell.new.acts c.time_of.result along
    ∙ ap (is_active_after metric steps) c.time_of.ensures
