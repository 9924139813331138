-- A configuration without faults has a sound linked form.
use Rattle.std.proofs.Common.{◌≡◌, ◌≢◌, ℕ, ◌+◌, ◌≤◌, List, [], ◌∷◌, map, length, Option, Some, None, Result, Ok, Err, IfOk, All, AllPairs, refl, sym, ap, ◌∙◌, subst, arith}
use Rattle.std.specs.Prelude.{ℤ, pos}
use Rattle.std.specs.Ordering.{int_eq}
use Rattle.std.specs.Option.{unwrap_or}
use Rattle.std.specs.List.{AllByRecursion}
use Rattle.std.proofs.lemmas.Bool.Decides.{Decides-int_eq}
use Rattle.std.proofs.lemmas.List.{length-map}
use Rattle.config_types.specs.declared.alert.AlertDef.{AlertDef}
use Rattle.config_types.specs.declared.config.Config.{Config}
use Rattle.config_types.specs.declared.predicate.PredicateDef.{PredicateDef}
use Rattle.distinct.specs.Repeats.{repeat_in, AreApart}
use Rattle.distinct.proofs.ApartLemmas.{apart_without_repeat}
use Rattle.link_graph.specs.Links.{HasNoCycle}
use Rattle.link_graph.specs.Ids.{IdNode}
use Rattle.link_rules.specs.declared.entities.Entities.{Entities}
use Rattle.link_rules.specs.declared.entities.Metric.{Metric}
use Rattle.link_rules.specs.declared.fault.LinkError.{LinkError}
use Rattle.link_rules.specs.Entities.{entities_of}
use Rattle.link_rules.specs.LinkFaults.{Links, first_in, fault, duplicate_id, unknown_matcher, unknown_predicate, unknown_state, unknown_metric, matcher_kind, predicate_kind, metric_kind, alert_kind}
use Rattle.link_rules.specs.EntityLimits.{limit_fault, limits, predicate_limit, metric_limit, alert_limit}
use Rattle.link_rules.specs.EntityIds.{no_id_from, set_ids, id_of_matcher, id_of_predicate, id_of_state, id_of_metric, id_of_alert, missing_ids, duplicate_ids, no_id_fault, duplicate_id_fault, matcher_ids, predicate_ids, state_ids, metric_ids}
use Rattle.link_rules.specs.EntityNames.{first_unknown, matchers_of_matcher, matchers_of_predicate, matchers_of_metric, predicates_of_predicate, predicates_of_metric, states_of_metric, metrics_of_alert, unknown_matchers, unknown_predicates, unknown_matcher_fault, unknown_predicate_fault, unknown_state_fault, unknown_metric_fault}
use Rattle.link_rules.specs.Cycles.{predicate_node, cycle_fault}
use Rattle.link_rules.specs.LinkRules.{id_fault, name_fault, reference_fault, rule_fault}
use Rattle.link_rules.proofs.LinkFaultLemmas.{none_of, none_in}
use Rattle.link_rules.proofs.ResolveLemmas.{few_entities, predicate_ids_are, matchers_have_no_cycle, predicates_have_no_cycle}
use Rattle.config_links.specs.declared.linked.Linked.{Linked}
use Rattle.config_links.specs.declared.linked.LPredicate.{LPredicate}
use Rattle.config_links.specs.declared.linked.LMetric.{LMetric}
use Rattle.config_links.specs.declared.linked.LAlert.{LAlert}
use Rattle.config_links.specs.declared.scope.Scope.{Scope}
use Rattle.config_links.specs.LinkReasons.{bad_matcher, bad_predicate, bad_state}
use Rattle.config_links.specs.LinkedForm.{linked_matcher, linked_predicate, linked_state}
use Rattle.config_links.specs.LinkScopes.{named_predicates}
use Rattle.config_links.specs.LinkMetrics.{bad_metric, linked_metric}
use Rattle.config_links.specs.LinkAlerts.{bad_alert, linked_alert}
use Rattle.config_links.specs.Verdict.{matchers_linked, predicates_linked, states_linked, metrics_linked, alerts_linked, scope_of, bad_part_fault, hidden_fault, bad_metric_fault, bad_alert_fault, bad_type_fault, first_fault, entities_linked, verdict, linked_form}
use Rattle.config_links.specs.SoundConfig.{named_matchers, IsBound, IsSoundConfig}
use Rattle.config_links.proofs.SoundParts.{nothing_mapped, matchers_sound, predicates_sound, states_sound, matcher_links_again, predicate_links_again, apart_mapped}
use Rattle.config_links.proofs.SoundMetrics.{metrics_sound}
use Rattle.config_links.proofs.SoundAlerts.{alerts_sound}

few_ids : (ids : List (Option ℤ)) → length (set_ids ids) ≤ length ids
few_ids [] = omega arith
few_ids (Some id ∷ ids) = let rest = few_ids ids in omega (arith, rest)
few_ids (None ∷ ids) = let rest = few_ids ids in omega (arith, rest)

all_set : (kind place : ℕ) (ids : List (Option ℤ)) → no_id_from kind place ids ≡ None
    → set_ids ids ≡ map (λ id. unwrap_or id (pos 0)) ids
all_set kind place [] h = refl
all_set kind place (None ∷ ids) h = absurd (cc)
all_set kind place (Some id ∷ ids) h = ap (λ more. id ∷ more) (all_set kind (place + 1) ids h)

-- the ids of linked predicates are those of the predicates
predicates_again : (matchers predicates : List ℤ) (defs : List PredicateDef)
    → map (λ (node : IdNode). node.id) (map predicate_node defs)
    ≡ map (λ (linked : LPredicate). linked.id) (map (linked_predicate matchers predicates) defs)
predicates_again matchers predicates [] = refl
predicates_again matchers predicates (def ∷ defs) =
    ap (λ more. unwrap_or def.id (pos 0) ∷ more) (predicates_again matchers predicates defs)

-- and so it is of metrics
metrics_again : (scope : Scope) (uid : ℤ) (no_report : List ℤ) (defs : List Metric)
    → map (λ id. unwrap_or id (pos 0)) (map id_of_metric defs)
    ≡ map (λ (linked : LMetric). linked.id) (map (linked_metric scope uid no_report) defs)
metrics_again scope uid no_report [] = refl
metrics_again scope uid no_report (def ∷ defs) =
    ap (λ more. unwrap_or def.common.id (pos 0) ∷ more) (metrics_again scope uid no_report defs)

-- and of alerts
alerts_again : (known : List ℤ) (metrics : List Metric) (defs : List AlertDef)
    → map (λ id. unwrap_or id (pos 0)) (map id_of_alert defs)
    ≡ map (λ (linked : LAlert). linked.id) (map (linked_alert known metrics) defs)
alerts_again known metrics [] = refl
alerts_again known metrics (def ∷ defs) =
    ap (λ more. unwrap_or def.id (pos 0) ∷ more) (alerts_again known metrics defs)

module _ (entities : Entities) where
  rule_parts : rule_fault entities ≡ None
      → (id_fault entities ≡ None) × (name_fault entities ≡ None) × (cycle_fault entities ≡ None)
  unfolding rule_fault reference_fault
  rule_parts h =
      let parts = none_of (id_fault entities ∷ reference_fault entities ∷ []) h in
      let references = none_of (name_fault entities ∷ cycle_fault entities ∷ []) parts.1.0 in
      (parts.0, references.0, references.1.0)

  id_parts : id_fault entities ≡ None
      → (limit_fault entities ≡ None) × (no_id_fault entities ≡ None) × (duplicate_id_fault entities ≡ None)
  unfolding id_fault
  id_parts h =
      let parts = none_of (limit_fault entities ∷ no_id_fault entities ∷ duplicate_id_fault entities ∷ []) h in
      (parts.0, parts.1.0, parts.1.1.0)

  name_parts : name_fault entities ≡ None
      → (unknown_matcher_fault entities ≡ None) × (unknown_predicate_fault entities ≡ None)
      × (unknown_state_fault entities ≡ None)
  unfolding name_fault
  name_parts h =
      let parts = none_of
      (unknown_matcher_fault entities ∷ unknown_predicate_fault entities ∷ unknown_state_fault entities ∷ []) h in
      (parts.0, parts.1.0, parts.1.1.0)

  type_parts : bad_type_fault entities ≡ None
      → (bad_part_fault entities.matchers entities.predicates entities.states ≡ None)
      × (bad_metric_fault (scope_of entities) entities.metrics ≡ None)
      × (bad_alert_fault (metric_ids entities) entities.metrics entities.alerts ≡ None)
  unfolding bad_type_fault
  type_parts h =
      let parts = none_of
      (bad_part_fault entities.matchers entities.predicates entities.states
      ∷ bad_metric_fault (scope_of entities) entities.metrics
      ∷ bad_alert_fault (metric_ids entities) entities.metrics entities.alerts
      ∷ hidden_fault (metric_ids entities) entities.no_report ∷ []) h in
      (parts.0, parts.1.0, parts.1.1.0)

  good_parts : bad_part_fault entities.matchers entities.predicates entities.states ≡ None
      → AllByRecursion (λ def. bad_matcher def ≡ None) entities.matchers
      × AllByRecursion (λ def. bad_predicate def ≡ None) entities.predicates
      × AllByRecursion (λ def. bad_state def ≡ None) entities.states
  unfolding bad_part_fault
  good_parts h =
      let parts = none_of
      (first_in bad_matcher entities.matchers ∷ first_in bad_predicate entities.predicates
      ∷ first_in bad_state entities.states ∷ []) h in (
        none_in bad_matcher entities.matchers parts.0,
        none_in bad_predicate entities.predicates parts.1.0,
        none_in bad_state entities.states parts.1.1.0,
      )

  good_metrics : bad_metric_fault (scope_of entities) entities.metrics ≡ None
      → AllByRecursion (λ def. bad_metric (scope_of entities) def ≡ None) entities.metrics
  unfolding bad_metric_fault
  good_metrics h = none_in (bad_metric (scope_of entities)) entities.metrics h

  good_alerts : bad_alert_fault (metric_ids entities) entities.metrics entities.alerts ≡ None
      → AllByRecursion (λ def. bad_alert (metric_ids entities) entities.metrics def ≡ None) entities.alerts
  unfolding bad_alert_fault
  good_alerts h = none_in (bad_alert (metric_ids entities) entities.metrics) entities.alerts h

  within_limits : limit_fault entities ≡ None
      → AllByRecursion (λ def. predicate_limit def ≡ None) entities.predicates
      × AllByRecursion (λ def. metric_limit def ≡ None) entities.metrics
      × AllByRecursion (λ def. alert_limit def ≡ None) entities.alerts
  unfolding limit_fault
  within_limits h =
      let parts = none_of (limits entities) h in (
        none_in predicate_limit entities.predicates parts.1.1.1.1.0,
        none_in metric_limit entities.metrics
            parts.1.1.1.1.1.0,
        none_in alert_limit entities.alerts
            parts.1.1.1.1.1.1.1.0,
      )

  -- the names of matchers lead somewhere
  starts : unknown_matcher_fault entities ≡ None
      → AllByRecursion (λ def. first_unknown (matcher_ids entities) (matchers_of_matcher def) ≡ None) entities.matchers
      × AllByRecursion (λ def. first_unknown (matcher_ids entities) (matchers_of_predicate def)
      ≡ None) entities.predicates
      × AllByRecursion (λ def. first_unknown (matcher_ids entities) (matchers_of_metric def) ≡ None) entities.metrics
  unfolding unknown_matcher_fault
  starts h =
      let known = matcher_ids entities in
      let parts = none_of (unknown_matchers known entities) h in (
        none_in (λ def. first_unknown known (matchers_of_matcher def)) entities.matchers
            (nothing_mapped (fault unknown_matcher matcher_kind) _ parts.0),
        none_in (λ def. first_unknown known (matchers_of_predicate def)) entities.predicates
            (nothing_mapped (fault unknown_matcher predicate_kind) _ parts.1.0),
        none_in (λ def. first_unknown known (matchers_of_metric def)) entities.metrics
            (nothing_mapped (fault unknown_matcher metric_kind) _ parts.1.1.0),
      )

  -- and those of predicates
  names : unknown_predicate_fault entities ≡ None
      → AllByRecursion (λ def. first_unknown (predicate_ids entities) (predicates_of_predicate def)
      ≡ None) entities.predicates
      × AllByRecursion (λ def. first_unknown (predicate_ids entities) (predicates_of_metric def)
      ≡ None) entities.metrics
  unfolding unknown_predicate_fault
  names h =
      let known = predicate_ids entities in
      let parts = none_of (unknown_predicates known entities) h in (
        none_in (λ def. first_unknown known (predicates_of_predicate def)) entities.predicates
            (nothing_mapped (fault unknown_predicate predicate_kind) _ parts.0),
        none_in (λ def. first_unknown known (predicates_of_metric def)) entities.metrics
            (nothing_mapped (fault unknown_predicate metric_kind) _ parts.1.0),
      )

  -- and those of states
  slices : unknown_state_fault entities ≡ None
      → AllByRecursion (λ def. first_unknown (state_ids entities) (states_of_metric def) ≡ None) entities.metrics
  unfolding unknown_state_fault
  slices h =
      none_in (λ def. first_unknown (state_ids entities) (states_of_metric def)) entities.metrics
      (nothing_mapped (fault unknown_state metric_kind) _ h)

  -- and those of the metrics of alerts
  watched : unknown_metric_fault entities ≡ None
      → AllByRecursion (λ def. first_unknown (metric_ids entities) (metrics_of_alert def) ≡ None) entities.alerts
  unfolding unknown_metric_fault
  watched h =
      none_in (λ def. first_unknown (metric_ids entities) (metrics_of_alert def)) entities.alerts
      (nothing_mapped (fault unknown_metric alert_kind) _ h)

  -- there are no more ids than entities
  some_matchers : length (matcher_ids entities) ≤ length (matchers_linked entities)
  unfolding matcher_ids matchers_linked
  some_matchers = omega (
    arith,
    few_ids (map id_of_matcher entities.matchers),
    length-map entities.matchers
        id_of_matcher,
    length-map entities.matchers (linked_matcher (matcher_ids entities)),
  )

  some_predicates : length (predicate_ids entities) ≤ length (predicates_linked entities)
  unfolding predicate_ids predicates_linked
  some_predicates = omega (
    arith,
    few_ids (map id_of_predicate entities.predicates),
    length-map entities.predicates
        id_of_predicate,
    length-map entities.predicates
        (linked_predicate (matcher_ids entities) (predicate_ids entities)),
  )

  some_states : length (state_ids entities) ≤ length (states_linked entities)
  unfolding state_ids states_linked
  some_states = omega (
    arith,
    few_ids (map id_of_state entities.states),
    length-map entities.states id_of_state,
    length-map entities.states linked_state,
  )

  some_metrics : length (metric_ids entities) ≤ length entities.metrics
  unfolding metric_ids
  some_metrics = omega (
    arith,
    few_ids (map id_of_metric entities.metrics),
    length-map entities.metrics id_of_metric,
  )

  -- no id of a predicate stood earlier
  no_predicate_again : id_fault entities ≡ None → repeat_in int_eq (predicate_ids entities) ≡ None
  unfolding duplicate_id_fault predicate_ids
  no_predicate_again h =
      nothing_mapped (fault duplicate_id predicate_kind) _ (none_of (duplicate_ids entities) (id_parts h).2).1.0

  -- no two linked predicates have the same id
  predicates_apart : id_fault entities ≡ None
      → AllPairs (λ (one later : LPredicate). one.id ≢ later.id) (predicates_linked entities)
  unfolding predicates_linked
  predicates_apart h =
      let ids = predicate_ids_are entities h
      ∙ predicates_again (matcher_ids entities) (predicate_ids entities) entities.predicates in
      apart_mapped (λ (one : LPredicate). one.id)
      (map (linked_predicate (matcher_ids entities) (predicate_ids entities)) entities.predicates)
      (subst AreApart ids
      (apart_without_repeat int_eq Decides-int_eq (predicate_ids entities) (no_predicate_again h)))

  -- nor have two linked metrics
  metrics_apart : (uid : ℤ) → id_fault entities ≡ None
      → AllPairs (λ (one later : LMetric). one.id ≢ later.id) (metrics_linked (scope_of entities) uid entities)
  unfolding duplicate_id_fault no_id_fault metrics_linked
  metrics_apart uid h =
      let none = nothing_mapped (fault duplicate_id metric_kind) _
      (none_of (duplicate_ids entities) (id_parts h).2).1.1.1.0 in
      let set = all_set metric_kind 0 (map id_of_metric entities.metrics)
      (none_of (missing_ids entities) (id_parts h).1).1.1.1.0 in
      let ids = set ∙ metrics_again (scope_of entities) uid entities.no_report entities.metrics in
      apart_mapped (λ (one : LMetric). one.id) (map (linked_metric (scope_of entities) uid entities.no_report)
      entities.metrics)
      (subst AreApart ids (apart_without_repeat int_eq Decides-int_eq (set_ids (map id_of_metric entities.metrics))
      none))

  -- nor have two linked alerts
  alerts_apart : id_fault entities ≡ None
      → AllPairs (λ (one later : LAlert). one.id ≢ later.id) (alerts_linked entities)
  unfolding duplicate_id_fault no_id_fault alerts_linked
  alerts_apart h =
      let none = nothing_mapped (fault duplicate_id alert_kind) _
      (none_of (duplicate_ids entities) (id_parts h).2).1.1.1.1.0 in
      let set = all_set alert_kind 0 (map id_of_alert entities.alerts)
      (none_of (missing_ids entities) (id_parts h).1).1.1.1.1.0 in
      let made = map (linked_alert (metric_ids entities) entities.metrics) entities.alerts in
      let ids = set ∙ alerts_again (metric_ids entities) entities.metrics entities.alerts in
      apart_mapped (λ (one : LAlert). one.id) made
      (subst AreApart ids (apart_without_repeat int_eq Decides-int_eq (set_ids (map id_of_alert entities.alerts)) none))

  -- no linked combination is below itself
  matchers_end : id_fault entities ≡ None → name_fault entities ≡ None → cycle_fault entities ≡ None
      → HasNoCycle (map named_matchers (matchers_linked entities))
  unfolding matchers_linked
  matchers_end numbered named none =
      subst HasNoCycle (matcher_links_again (matcher_ids entities) entities.matchers)
      (matchers_have_no_cycle entities numbered named none)

  predicates_end : id_fault entities ≡ None → name_fault entities ≡ None → cycle_fault entities ≡ None
      → HasNoCycle (map named_predicates (predicates_linked entities))
  unfolding predicates_linked
  predicates_end numbered named none =
      subst HasNoCycle (predicate_links_again (matcher_ids entities) (predicate_ids entities) entities.predicates)
      (predicates_have_no_cycle entities numbered named none)

  -- entities without a fault have a sound linked form
  pub entities_sound : (uid : ℤ) → first_fault entities ≡ None → IsSoundConfig (entities_linked entities uid)
  unfolding matchers_linked predicates_linked states_linked metrics_linked alerts_linked
  entities_sound uid h =
      let all = none_of (rule_fault entities ∷ bad_type_fault entities ∷ unknown_metric_fault entities ∷ []) h in
      let rules = rule_parts all.0 in
      let types = type_parts all.1.0 in
      let good = good_parts types.0 in
      let ids = id_parts rules.0 in
      let limit = within_limits ids.0 in
      let named = name_parts rules.1 in
      let matched = starts named.0 in
      let predicated = names named.1 in
      let few = few_entities entities rules.0 in
      let metrics = metrics_sound (scope_of entities) (metrics_linked (scope_of entities) uid entities)
      (alerts_linked entities) some_matchers some_predicates some_states uid entities.no_report entities.metrics
      matched.2 predicated.1 (slices named.2) limit.1 (good_metrics types.1) in
      let bounds : All (λ (metric : LMetric). IsBound metric.bound)
      (map (linked_metric (scope_of entities) uid entities.no_report) entities.metrics) =
      λ at d within. (metrics at d within).bound in
      record {
        few_matchers = omega (
          arith,
          few.matchers,
          length-map entities.matchers
              (linked_matcher (matcher_ids entities)),
        );
        few_predicates = omega (
          arith,
          few.predicates,
          length-map entities.predicates
              (linked_predicate (matcher_ids entities) (predicate_ids entities)),
        );
        few_states = omega (arith, few.states, length-map entities.states linked_state);
        few_metrics = omega (
          arith,
          few.metrics,
          length-map entities.metrics
              (linked_metric (scope_of entities) uid entities.no_report),
        );
        matchers = matchers_sound (matcher_ids entities) _ some_matchers entities.matchers matched.0 good.0;
        predicates = predicates_sound (matcher_ids entities) (predicate_ids entities) _ _ some_matchers
            some_predicates entities.predicates matched.1 predicated.0 limit.0 good.1;
        states = states_sound entities.states good.2;
        few_alerts = omega (
          arith,
          few.alerts,
          length-map entities.alerts (linked_alert (metric_ids entities) entities.metrics),
        );
        metrics = metrics;
        alerts = alerts_sound (scope_of entities) uid entities.no_report (metric_ids entities) entities.metrics
            some_metrics bounds entities.alerts (watched all.1.1.0) limit.2 (good_alerts types.2);
        matchers_end = matchers_end rules.0 rules.1 rules.2;
        predicates_end = predicates_end rules.0 rules.1 rules.2;
        predicate_ids = predicates_apart rules.0;
        metric_ids = metrics_apart uid rules.0;
        alert_ids = alerts_apart rules.0;
      }

-- where there is no fault the linked form is sound
pub form_sound : (config : Config) (uid : ℤ) → verdict config ≡ None → IsSoundConfig (linked_form config uid)
unfolding verdict linked_form
form_sound config uid h = entities_sound (entities_of config) uid h

-- so what is answered is sound
pub answer_sound : (result : Result Linked LinkError) (config : Config) (uid : ℤ)
    → Links result (verdict config) (linked_form config uid) → IfOk result IsSoundConfig
answer_sound (Ok linked) config uid h = subst IsSoundConfig (sym h.1) (form_sound config uid h.0)
answer_sound (Err error) config uid h = tt
