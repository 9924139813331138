use Rattle.std.proofs.Common.{◌≡◌, drop}
use Rattle.link_rules.specs.LinkFaults.{first_in}
use Rattle.link_rules.specs.EntityLimits.{metric_limit}
use Rattle.link_rules.proofs.limits.judge_metrics.Given as goal

-- the first fault of what is left is that of all
abbrev pub invariant-loop-metric : goal.invariant-loop-metric
invariant-loop-metric l = first_in metric_limit (drop l.metric-index l.metrics) ≡ first_in metric_limit l.metrics
