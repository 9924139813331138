use Rattle.std.proofs.Common.{◌≡◌, ◌++◌, map, drop}
use Rattle.link_rules.specs.LinkFaults.{first_in}
use Rattle.config_links.specs.LinkMetrics.{bad_metric, linked_metric}
use Rattle.config_links.proofs.metrics.metrics_in.Given as goal

-- the first fault of what is left is that of all, and what was linked and what is left are all
abbrev pub invariant-loop-metric : goal.invariant-loop-metric
invariant-loop-metric l = record {
  judged : first_in (bad_metric l.scope) (drop l.metric-index l.metrics) ≡ first_in (bad_metric l.scope) l.metrics;
  linked : l.linked ++ map (linked_metric l.scope l.uid l.no_report) (drop l.metric-index l.metrics)
      ≡ map (linked_metric l.scope l.uid l.no_report) l.metrics;
}
