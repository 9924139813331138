-- The ids by which entities name others.
use Rattle.std.specs.Prelude.{ℕ, ℤ, List, [], ◌∷◌, map, Option, Some, None, if◌then◌else◌}
use Rattle.std.specs.Option.{option_map}
use Rattle.std.specs.Ordering.{int_eq}
use Rattle.std.specs.List.{list_any, flat_map}
use Rattle.config_types.specs.declared.alert.AlertDef.{AlertDef}
use Rattle.config_types.specs.declared.matcher.Combo.{Combo}
use Rattle.config_types.specs.declared.matcher.MatcherDef.{MatcherDef}
use Rattle.config_types.specs.declared.matcher.MatcherBody.{MatcherBody}
use Rattle.config_types.specs.declared.matcher.MatcherBody.TheVariants as matcher
use Rattle.config_types.specs.declared.predicate.PredicateDef.{PredicateDef}
use Rattle.config_types.specs.declared.predicate.PredicateBody.{PredicateBody}
use Rattle.config_types.specs.declared.predicate.PredicateBody.TheVariants as predicate
use Rattle.config_types.specs.declared.metric.LinkDef.{LinkDef}
use Rattle.config_types.specs.declared.metric.ActivationDef.{ActivationDef}
use Rattle.link_rules.specs.declared.entities.Metric.{Metric}
use Rattle.link_rules.specs.declared.entities.Kind.{Kind}
use Rattle.link_rules.specs.declared.entities.Kind.TheVariants.{Gauge, Duration}
use Rattle.link_rules.specs.declared.entities.Entities.{Entities}
use Rattle.link_rules.specs.declared.fault.LinkFault.{LinkFault}
use Rattle.link_rules.specs.LinkFaults.{fault, unknown_matcher, unknown_predicate, unknown_state, unknown_metric, matcher_kind, predicate_kind, metric_kind, alert_kind, first_of, first_in}
use Rattle.link_rules.specs.EntityIds.{matcher_ids, predicate_ids, state_ids, metric_ids}

-- the first of these names that isn't known; one that is absent names nothing
abbrev pub first_unknown : List ℤ → List (Option ℤ) → Option ℤ
first_unknown known [] = None
first_unknown known (None ∷ names) = first_unknown known names
first_unknown known (Some id ∷ names) =
    if list_any (int_eq id) known then first_unknown known names else Some id

-- a combination names its children
abbrev pub combined_ids : Combo → List (Option ℤ)
combined_ids combo = map Some combo.children

-- a matcher names the children of its combination
abbrev pub matchers_of_matcher : MatcherDef → List (Option ℤ)
matchers_of_matcher def = by_body def.body where
  by_body : Option MatcherBody → List (Option ℤ)
  by_body (Some (matcher.Combo combo)) = combined_ids combo
  by_body _ = []

-- a simple predicate names what starts and stops it
abbrev pub matchers_of_predicate : PredicateDef → List (Option ℤ)
matchers_of_predicate def = by_body def.body where
  by_body : Option PredicateBody → List (Option ℤ)
  by_body (Some (predicate.Simple simple)) = simple.start ∷ simple.stop ∷ simple.stop_all ∷ []
  by_body _ = []

-- an activation names what begins it, and then what ends it
abbrev pub matchers_of_activation : ActivationDef → List (Option ℤ)
matchers_of_activation def = def.start ∷ def.cancel ∷ []

-- a metric names the matcher of what it counts, a gauge then its trigger, and a duration neither; and all name at last
-- those of their activations, one after another
abbrev pub matchers_of_metric : Metric → List (Option ℤ)
matchers_of_metric metric = by_kind metric.kind where
  signals : List (Option ℤ)
  signals = flat_map matchers_of_activation metric.common.activations

  by_kind : Kind → List (Option ℤ)
  by_kind (Gauge gauge) = metric.common.what ∷ gauge.trigger ∷ signals
  by_kind (Duration max_sparse) = signals
  by_kind _ = metric.common.what ∷ signals

-- a predicate names the children of its combination
abbrev pub predicates_of_predicate : PredicateDef → List (Option ℤ)
predicates_of_predicate def = by_body def.body where
  by_body : Option PredicateBody → List (Option ℤ)
  by_body (Some (predicate.Combo combo)) = combined_ids combo
  by_body _ = []

-- the condition of a link
abbrev pub link_condition : LinkDef → Option ℤ
link_condition link = link.condition

-- a metric names its condition and those of its links; a duration before them the predicate whose time it is
abbrev pub predicates_of_metric : Metric → List (Option ℤ)
predicates_of_metric metric = by_kind metric.kind where
  conditions : List (Option ℤ)
  conditions = metric.common.condition ∷ map link_condition metric.common.links

  by_kind : Kind → List (Option ℤ)
  by_kind (Duration max_sparse) = metric.common.what ∷ conditions
  by_kind _ = conditions

-- the first entity of a kind that names an id that isn't known
abbrev pub unknown_in : {A : Type 0} → ℕ → ℕ → List ℤ → (A → List (Option ℤ)) → List A → Option LinkFault
unknown_in number kind known names entities =
    option_map (fault number kind) (first_in (λ entity. first_unknown known (names entity)) entities)

-- a metric names the states by which it is sliced
abbrev pub states_of_metric : Metric → List (Option ℤ)
states_of_metric metric = map Some metric.sliced.slices

-- number 4, kind by kind
abbrev pub unknown_matchers : List ℤ → Entities → List (Option LinkFault)
unknown_matchers known entities =
    unknown_in unknown_matcher matcher_kind known matchers_of_matcher entities.matchers
    ∷ unknown_in unknown_matcher predicate_kind known matchers_of_predicate entities.predicates
    ∷ unknown_in unknown_matcher metric_kind known matchers_of_metric entities.metrics
    ∷ []

-- number 4: the first name that leads to no matcher
unfoldable pub unknown_matcher_fault : Entities → Option LinkFault
unknown_matcher_fault entities = first_of (unknown_matchers (matcher_ids entities) entities)

-- number 5, kind by kind
abbrev pub unknown_predicates : List ℤ → Entities → List (Option LinkFault)
unknown_predicates known entities =
    unknown_in unknown_predicate predicate_kind known predicates_of_predicate entities.predicates
    ∷ unknown_in unknown_predicate metric_kind known predicates_of_metric entities.metrics
    ∷ []

-- number 5: the first name that leads to no predicate
unfoldable pub unknown_predicate_fault : Entities → Option LinkFault
unknown_predicate_fault entities = first_of (unknown_predicates (predicate_ids entities) entities)

-- number 6: the first name that leads to no state
unfoldable pub unknown_state_fault : Entities → Option LinkFault
unknown_state_fault entities =
    unknown_in unknown_state metric_kind (state_ids entities) states_of_metric entities.metrics

-- an alert names the metric that it watches
abbrev pub metrics_of_alert : AlertDef → List (Option ℤ)
metrics_of_alert def = def.metric ∷ []

-- number 10, which is judged after all others: the first alert on no metric, where metrics have these ids
abbrev pub unknown_watched : List ℤ → List AlertDef → Option LinkFault
unknown_watched known alerts = unknown_in unknown_metric alert_kind known metrics_of_alert alerts

-- the same of a configuration
unfoldable pub unknown_metric_fault : Entities → Option LinkFault
unknown_metric_fault entities = unknown_watched (metric_ids entities) entities.alerts
