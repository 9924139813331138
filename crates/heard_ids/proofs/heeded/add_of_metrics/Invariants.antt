-- The matchers of the metrics so far stand after what was there.
use Rattle.std.proofs.Common.{◌≡◌, ◌++◌, take}
use Rattle.std.specs.List.{flat_map}
use Rattle.config_links.specs.OwnMatchers.{metric_matchers}
use Rattle.heard_ids.proofs.heeded.add_of_metrics.Given as goal

abbrev pub invariant-loop-metric : goal.invariant-loop-metric
invariant-loop-metric l = l.places ≡ l.fn.places ++ flat_map metric_matchers (take l.metric-index l.metrics)
