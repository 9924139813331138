-- What the rules that were judged before leave for activations and alerts: none lasts longer than it may.
use Rattle.std.proofs.Common.{◌≡◌, ◌≤◌, nat_lt, nat_le, List, [], ◌∷◌, length, Option, Some, None, refl}
use Rattle.std.specs.Prelude.{ℤ, pos, negsuc}
use Rattle.std.specs.List.{All, AllByRecursion}
use Rattle.std.proofs.lemmas.Bool.{leb-true}
use Rattle.std.proofs.lemmas.List.Elements.{All-from_recursion}
use Rattle.config_types.specs.declared.alert.AlertDef.{AlertDef}
use Rattle.config_types.specs.declared.metric.ActivationDef.{ActivationDef}
use Rattle.field_select.specs.WellFormed.{number_or_zero}
use Rattle.link_rules.specs.declared.entities.Entities.{Entities}
use Rattle.link_rules.specs.declared.entities.Metric.{Metric}
use Rattle.link_rules.specs.declared.limits.Limit.TheVariants.{Activations, Lifetime, Parts, Threshold, Refractory}
use Rattle.link_rules.specs.EntityLimits.{most_lifetime, limit_fault, limits, count_limit, number_limit, amount_limit, lifetime_limit, metric_limit, alert_limit}
use Rattle.link_rules.specs.LinkRules.{rule_fault}
use Rattle.link_rules.proofs.LinkFaultLemmas.{none_of, none_in}
use Rattle.config_links.specs.LinkAlerts.{IsPatient}
use Rattle.config_links.specs.MetricActivations.{IsBrief, AreBrief}
use Rattle.config_links.proofs.ReadyLemmas.{metric_parts, no_limit_fault}
use Rattle.config_links.proofs.SoundParts.{limit_step, right_holds}
use Rattle.config_links.proofs.SoundAlerts.{refractory_fits}

-- the time of an activation within its limit
brief_by : (ttl : Option ℤ) → number_limit Lifetime ttl ≡ None → number_or_zero ttl ≤ most_lifetime
brief_by None h = leb-true 0 most_lifetime refl
brief_by (Some (negsuc n)) h = leb-true 0 most_lifetime refl
brief_by (Some (pos n)) h =
    leb-true n most_lifetime (right_holds (nat_lt 0 n) (nat_le n most_lifetime) (limit_step _ _ h))

all_brief : (defs : List ActivationDef) → AllByRecursion (λ def. lifetime_limit def ≡ None) defs
    → AllByRecursion IsBrief defs
all_brief [] h = tt
all_brief (def ∷ defs) h = (brief_by def.ttl h.0, all_brief defs h.1)

brief_of : (metric : Metric) → metric_limit metric ≡ None → AreBrief metric.common.activations
brief_of metric h =
    let defs = metric.common.activations in
    let within = none_of (count_limit Activations (length defs) ∷ _ ∷ []) (metric_parts metric h).1.1.0 in
    All-from_recursion IsBrief defs (all_brief defs (none_in lifetime_limit defs within.1.0))

metrics_brief : (metrics : List Metric) → AllByRecursion (λ metric. metric_limit metric ≡ None) metrics
    → AllByRecursion (λ (metric : Metric). AreBrief metric.common.activations) metrics
metrics_brief [] h = tt
metrics_brief (metric ∷ metrics) h = (brief_of metric h.0, metrics_brief metrics h.1)

all_metrics_brief : (entities : Entities) → limit_fault entities ≡ None
    → All (λ (metric : Metric). AreBrief metric.common.activations) entities.metrics
unfolding limit_fault
all_metrics_brief entities h =
    All-from_recursion (λ (metric : Metric). AreBrief metric.common.activations) entities.metrics
    (metrics_brief entities.metrics (none_in metric_limit entities.metrics (none_of (limits entities) h).1.1.1.1.1.0))

-- where no rule is broken no activation lasts longer than one may
pub brief_activations : (entities : Entities) → rule_fault entities ≡ None
    → All (λ (metric : Metric). AreBrief metric.common.activations) entities.metrics
brief_activations entities h = all_metrics_brief entities (no_limit_fault entities h)

-- an alert's numbers within their limits
patient_of : (def : AlertDef) → alert_limit def ≡ None → IsPatient def
patient_of def h =
    refractory_fits def.refractory
    (none_of
    (number_limit Parts def.parts ∷ amount_limit Threshold def.threshold ∷ amount_limit Refractory def.refractory ∷ [])
    h).1.1.0

all_patient : (defs : List AlertDef) → AllByRecursion (λ def. alert_limit def ≡ None) defs
    → AllByRecursion IsPatient defs
all_patient [] h = tt
all_patient (def ∷ defs) h = (patient_of def h.0, all_patient defs h.1)

alerts_patient : (entities : Entities) → limit_fault entities ≡ None → All IsPatient entities.alerts
unfolding limit_fault
alerts_patient entities h =
    All-from_recursion IsPatient entities.alerts
    (all_patient entities.alerts (none_in alert_limit entities.alerts (none_of (limits entities) h).1.1.1.1.1.1.1.0))

-- nor is the time without an alarm after an alarm longer than it may be
pub patient_alerts : (entities : Entities) → rule_fault entities ≡ None → All IsPatient entities.alerts
patient_alerts entities h = alerts_patient entities (no_limit_fault entities h)
