-- What an alert can't be, and its linked form.
use Rattle.std.specs.Prelude.{ℕ, ℤ, pos, ◌*◌, ◌≤◌, Bool, true, false, not, ◌||◌, List, [], ◌∷◌, Option, Some, None, is_none, slice_get}
use Rattle.std.specs.Option.{option_and_then, unwrap_or}
use Rattle.config_types.specs.declared.alert.AlertDef.{AlertDef}
use Rattle.config_types.specs.declared.parameters.AlertSpec.{AlertSpec}
use Rattle.config_types.specs.AlertSpecs.{refractory_seconds}
use Rattle.config_types.specs.Buckets.{second_nanos}
use Rattle.field_select.specs.WellFormed.{number_or_zero}
use Rattle.link_rules.specs.declared.entities.Metric.{Metric}
use Rattle.link_rules.specs.declared.entities.Kind.{Kind}
use Rattle.link_rules.specs.declared.entities.Kind.TheVariants.{Count}
use Rattle.link_rules.specs.declared.fault.LinkFault.{LinkFault}
use Rattle.link_rules.specs.EntityIds.{id_place, place_in}
use Rattle.link_rules.specs.EntityLimits.{absent_bound, bound_or_default}
use Rattle.config_links.specs.declared.linked.LAlert.{LAlert}
use Rattle.config_links.specs.declared.reasons.Reason.{Reason}
use Rattle.config_links.specs.declared.reasons.Reason.TheVariants.{BadAlert, NotCounted}
use Rattle.config_links.specs.LinkReasons.{least_reason}

-- the metric of this id, where metrics have these ids
abbrev pub metric_named : List ℤ → List Metric → ℤ → Option Metric
metric_named known metrics id = option_and_then (slice_get metrics) (id_place id known)

-- the metric that an alert watches, where metrics have these ids
abbrev pub watched : List ℤ → List Metric → AlertDef → Option Metric
watched known metrics def = option_and_then (metric_named known metrics) def.metric

-- a metric of this kind counts atoms
abbrev pub counts_atoms : Kind → Bool
counts_atoms (Count overflow) = true
counts_atoms _ = false

-- there is a metric, and it doesn't count atoms
abbrev pub counts_none : Option Metric → Bool
counts_none (Some metric) = not (counts_atoms metric.kind)
counts_none None = false

-- an alert doesn't say which metric it watches, what a count has to pass, or over how many parts
abbrev pub lacks_part : AlertDef → Bool
lacks_part def = is_none def.metric || (is_none def.threshold || is_none def.parts)

-- what an alert can't be, where metrics have these ids
abbrev pub alert_reasons : List ℤ → List Metric → AlertDef → List (Reason × Bool)
alert_reasons known metrics def =
    (BadAlert, lacks_part def) ∷ (NotCounted, counts_none (watched known metrics def)) ∷ []

-- an alert, where metrics have these ids
abbrev pub bad_alert : List ℤ → List Metric → AlertDef → Option LinkFault
bad_alert known metrics def = least_reason def.id (alert_reasons known metrics def)

-- how many keys a part of a metric that counts admits
abbrev pub bound_of : Option Metric → ℕ
bound_of (Some metric) = bound_or_default metric.sliced.bound
bound_of None = absent_bound

-- what an alert watches for, on a metric of this bound
abbrev pub alert_spec : AlertDef → ℕ → AlertSpec
alert_spec def bound = record {
  bound = bound;
  parts = number_or_zero def.parts;
  threshold = number_or_zero def.threshold;
  refractory = number_or_zero def.refractory * second_nanos;
}

-- an alert, where metrics have these ids
abbrev pub linked_alert : List ℤ → List Metric → AlertDef → LAlert
linked_alert known metrics def = record {
  id = unwrap_or def.id (pos 0);
  metric = place_in known (unwrap_or def.metric (pos 0));
  spec = alert_spec def (bound_of (watched known metrics def));
}

-- the time without an alarm after an alarm is no longer than it may be
abbrev pub IsPatient : AlertDef → Type 0
IsPatient def = number_or_zero def.refractory ≤ refractory_seconds
