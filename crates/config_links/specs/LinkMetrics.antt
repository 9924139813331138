-- Metrics: what they can't be, and their linked form.
use Rattle.std.specs.Prelude.{ℕ, ℤ, pos, Bool, not, List, [], ◌∷◌, Option}
use Rattle.std.specs.Option.{unwrap_or}
use Rattle.std.specs.Ordering.{int_eq}
use Rattle.std.specs.List.{list_any}
use Rattle.config_types.specs.declared.bucket.TimeUnit.{TimeUnit}
use Rattle.config_types.specs.Buckets.{nanos_of}
use Rattle.link_rules.specs.declared.entities.Metric.{Metric}
use Rattle.link_rules.specs.declared.entities.Kind.{Kind}
use Rattle.link_rules.specs.declared.entities.Kind.TheVariants.{Event, Duration}
use Rattle.link_rules.specs.declared.fault.LinkFault.{LinkFault}
use Rattle.link_rules.specs.LinkFaults.{first_of}
use Rattle.link_rules.specs.EntityIds.{place_in}
use Rattle.link_rules.specs.EntityLimits.{bound_or_default}
use Rattle.config_links.specs.declared.linked.LMetric.{LMetric}
use Rattle.config_links.specs.declared.metrics.MetricParts.{MetricParts}
use Rattle.config_links.specs.declared.metrics.MetricRest.{MetricRest}
use Rattle.config_links.specs.declared.scope.Scope.{Scope}
use Rattle.config_links.specs.MetricTrees.{metric_sets}
use Rattle.config_links.specs.MetricLinks.{bad_links, condition_place, linked_links}
use Rattle.config_links.specs.MetricSlices.{bad_times, bad_slices, linked_slices, is_pulled_kind}
use Rattle.config_links.specs.MetricKinds.{bad_kind, linked_kind}
use Rattle.config_links.specs.MetricActivations.{bad_activations, linked_activations}

-- the id of what a metric counts or times
abbrev pub what_id : Metric → ℤ
what_id metric = unwrap_or metric.common.what (pos 0)

-- what is linked of a metric before its slices and its kind
abbrev pub metric_parts : Scope → Metric → MetricParts
metric_parts scope metric = record {
  what = what_id metric;
  dims = (metric_sets metric).dims;
  links = linked_links scope metric;
  state_links = (metric_sets metric).state_links;
}

-- the place of what a metric counts, or of the predicate that a duration times
unfoldable pub what_place : Scope → Kind → ℤ → ℕ
what_place scope (Duration max_sparse) what = place_in scope.ids.predicates what
what_place scope _ what = place_in scope.ids.matchers what

-- the length of a bucket in nanoseconds; an event metric has no buckets
unfoldable pub bucket_size : ℤ → Kind → Option TimeUnit → ℕ
bucket_size uid Event bucket = 0
bucket_size uid _ bucket = nanos_of bucket uid

-- how many keys a bucket admits; an event metric has one key
unfoldable pub bucket_bound : Kind → Option ℤ → ℕ
bucket_bound Event bound = 1
bucket_bound _ bound = bound_or_default bound

-- reports show a metric unless it is named as one that they don't
abbrev pub is_shown : List ℤ → ℤ → Bool
is_shown no_report id = not (list_any (λ hidden. int_eq hidden id) no_report)

-- what is linked of a metric with these parts
abbrev pub metric_rest : Scope → Metric → MetricParts → MetricRest
metric_rest scope metric parts = record {
  slices = linked_slices scope metric.kind parts.state_links metric.sliced.slices;
  kind = linked_kind scope parts.what (bound_or_default metric.sliced.bound) metric.kind;
  activations = linked_activations scope.ids.matchers metric.kind metric.common.activations;
}

-- the fault of what a metric times, of its slices, of its kind, or of its activations
unfoldable pub bad_rest : Scope → Metric → MetricParts → Option LinkFault
bad_rest scope metric parts = first_of
    (bad_times scope metric parts
    ∷ bad_slices scope metric parts
    ∷ bad_kind metric.common (is_pulled_kind scope metric.kind parts.what) metric.kind
    ∷ bad_activations metric.common (is_pulled_kind scope metric.kind parts.what)
    ∷ [])

-- the least reason of a metric: of its trees and links, and then of the rest
abbrev pub bad_metric : Scope → Metric → Option LinkFault
bad_metric scope metric = first_of (bad_links scope metric ∷ bad_rest scope metric (metric_parts scope metric) ∷ [])

-- a metric of a client with these parts, where reports don't show metrics of these ids
abbrev pub metric_with : Scope → ℤ → List ℤ → Metric → MetricParts → LMetric
metric_with scope uid no_report metric parts = record {
  id = unwrap_or metric.common.id (pos 0);
  shown = is_shown no_report (unwrap_or metric.common.id (pos 0));
  what = what_place scope metric.kind parts.what;
  condition = condition_place scope metric.common.condition;
  links = parts.links;
  dims = parts.dims;
  size = bucket_size uid metric.kind metric.sliced.bucket;
  bound = bucket_bound metric.kind metric.sliced.bound;
  slices = linked_slices scope metric.kind parts.state_links metric.sliced.slices;
  kind = linked_kind scope parts.what (bound_or_default metric.sliced.bound) metric.kind;
  activations = linked_activations scope.ids.matchers metric.kind metric.common.activations;
}

-- a metric of a client, where reports don't show metrics of these ids
abbrev pub linked_metric : Scope → ℤ → List ℤ → Metric → LMetric
linked_metric scope uid no_report metric = metric_with scope uid no_report metric (metric_parts scope metric)
