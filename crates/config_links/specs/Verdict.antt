-- The first fault of a configuration, and its linked form.
use Rattle.std.specs.Prelude.{ℤ, List, [], ◌∷◌, map, Option, Some}
use Rattle.std.specs.Option.{option_map}
use Rattle.config_types.specs.declared.alert.AlertDef.{AlertDef}
use Rattle.config_types.specs.declared.config.Config.{Config}
use Rattle.config_types.specs.declared.matcher.MatcherDef.{MatcherDef}
use Rattle.config_types.specs.declared.predicate.PredicateDef.{PredicateDef}
use Rattle.config_types.specs.declared.state.StateDef.{StateDef}
use Rattle.link_rules.specs.declared.entities.Entities.{Entities}
use Rattle.link_rules.specs.declared.entities.Metric.{Metric}
use Rattle.link_rules.specs.declared.fault.LinkFault.{LinkFault}
use Rattle.link_rules.specs.Entities.{entities_of}
use Rattle.link_rules.specs.EntityIds.{matcher_ids, predicate_ids, metric_ids}
use Rattle.link_rules.specs.EntityNames.{first_unknown, unknown_watched, unknown_metric_fault}
use Rattle.link_rules.specs.LinkFaults.{fault, first_of, first_in}
use Rattle.link_rules.specs.LinkRules.{ids_in, rule_fault}
use Rattle.config_links.specs.declared.linked.LMatcher.{LMatcher}
use Rattle.config_links.specs.declared.linked.LPredicate.{LPredicate}
use Rattle.config_links.specs.declared.linked.LState.{LState}
use Rattle.config_links.specs.declared.linked.LMetric.{LMetric}
use Rattle.config_links.specs.declared.linked.LAlert.{LAlert}
use Rattle.config_links.specs.declared.linked.Linked.{Linked}
use Rattle.config_links.specs.declared.scope.Scope.{Scope}
use Rattle.config_links.specs.declared.reasons.Reason.TheVariants.{UnknownHidden}
use Rattle.config_links.specs.LinkReasons.{bad_type, reason_number, bad_matcher, bad_predicate, bad_state}
use Rattle.config_links.specs.LinkedForm.{linked_matcher, linked_predicate, linked_state}
use Rattle.config_links.specs.LinkMetrics.{bad_metric, linked_metric}
use Rattle.config_links.specs.LinkAlerts.{bad_alert, linked_alert}

-- all matchers
unfoldable pub matchers_linked : Entities → List LMatcher
matchers_linked entities = map (linked_matcher (matcher_ids entities)) entities.matchers

-- all predicates
unfoldable pub predicates_linked : Entities → List LPredicate
predicates_linked entities = map (linked_predicate (matcher_ids entities) (predicate_ids entities)) entities.predicates

-- all states
unfoldable pub states_linked : Entities → List LState
states_linked entities = map linked_state entities.states

-- what metrics are linked with
abbrev pub scope_of : Entities → Scope
scope_of entities = record {
  ids = ids_in entities;
  matchers = matchers_linked entities;
  predicates = predicates_linked entities;
  states = states_linked entities;
}

-- number 9 of matchers, predicates and states
unfoldable pub bad_part_fault : List MatcherDef → List PredicateDef → List StateDef → Option LinkFault
bad_part_fault matchers predicates states = first_of
    (first_in bad_matcher matchers ∷ first_in bad_predicate predicates ∷ first_in bad_state states ∷ [])

-- the first id without a metric, where metrics have these ids, among those of metrics that no report shows
abbrev pub hidden_fault : List ℤ → List ℤ → Option LinkFault
hidden_fault known no_report =
    option_map (fault bad_type (reason_number UnknownHidden)) (first_unknown known (map Some no_report))

-- number 9 of metrics
unfoldable pub bad_metric_fault : Scope → List Metric → Option LinkFault
bad_metric_fault scope metrics = first_in (bad_metric scope) metrics

-- number 9 of alerts, where metrics have these ids
unfoldable pub bad_alert_fault : List ℤ → List Metric → List AlertDef → Option LinkFault
bad_alert_fault known metrics alerts = first_in (bad_alert known metrics) alerts

-- number 9: the first entity that isn't what it should be, and last the metrics that no report shows
unfoldable pub bad_type_fault : Entities → Option LinkFault
bad_type_fault entities = first_of
    (bad_part_fault entities.matchers entities.predicates entities.states
    ∷ bad_metric_fault (scope_of entities) entities.metrics
    ∷ bad_alert_fault (metric_ids entities) entities.metrics entities.alerts
    ∷ hidden_fault (metric_ids entities) entities.no_report
    ∷ [])

-- the first fault, in the order of the numbers: 1 to 8, 9, and 10
abbrev pub first_fault : Entities → Option LinkFault
first_fault entities = first_of (rule_fault entities ∷ bad_type_fault entities ∷ unknown_metric_fault entities ∷ [])

-- what is judged of metrics, alerts and metrics that no report shows, once all else is linked: numbers 9 and 10
abbrev pub scoped_fault : Scope → List Metric → List AlertDef → List ℤ → Option LinkFault
scoped_fault scope metrics alerts no_report = first_of
    (bad_metric_fault scope metrics
    ∷ bad_alert_fault scope.ids.metrics metrics alerts
    ∷ hidden_fault scope.ids.metrics no_report
    ∷ unknown_watched scope.ids.metrics alerts
    ∷ [])

-- what is judged after the rules, in two steps
unfoldable pub late_fault : Entities → Option LinkFault
late_fault entities = first_of
    (bad_part_fault entities.matchers entities.predicates entities.states
    ∷ scoped_fault (scope_of entities) entities.metrics entities.alerts entities.no_report
    ∷ [])

-- all metrics
unfoldable pub metrics_linked : Scope → ℤ → Entities → List LMetric
metrics_linked scope uid entities = map (linked_metric scope uid entities.no_report) entities.metrics

-- all alerts
unfoldable pub alerts_linked : Entities → List LAlert
alerts_linked entities = map (linked_alert (metric_ids entities) entities.metrics) entities.alerts

-- the entities, linked for a client
abbrev pub entities_linked : Entities → ℤ → Linked
entities_linked entities uid = record {
  matchers = matchers_linked entities;
  predicates = predicates_linked entities;
  states = states_linked entities;
  metrics = metrics_linked (scope_of entities) uid entities;
  alerts = alerts_linked entities;
}

-- the first fault of a configuration, or none
unfoldable pub verdict : Config → Option LinkFault
verdict config = first_fault (entities_of config)

-- a configuration without faults, linked for a client
unfoldable pub linked_form : Config → ℤ → Linked
linked_form config uid = entities_linked (entities_of config) uid

-- the same fault, as it is judged: after the rules in two steps
abbrev pub judged : Config → Option LinkFault
judged config = first_of (rule_fault (entities_of config) ∷ late_fault (entities_of config) ∷ [])
