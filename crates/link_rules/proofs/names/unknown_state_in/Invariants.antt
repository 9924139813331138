use Rattle.std.proofs.Common.{◌≡◌, drop}
use Rattle.link_rules.specs.LinkFaults.{unknown_state, metric_kind}
use Rattle.link_rules.specs.EntityNames.{unknown_in, states_of_metric}
use Rattle.link_rules.proofs.names.unknown_state_in.Given as goal

-- the first fault of what is left is that of all
abbrev pub invariant-loop-metric : goal.invariant-loop-metric
invariant-loop-metric l =
    unknown_in unknown_state metric_kind l.known states_of_metric (drop l.metric-index l.metrics)
    ≡ unknown_in unknown_state metric_kind l.known states_of_metric l.metrics
