use Rattle.std.proofs.Common.{◌≡◌, List, map, None, Err, rules, subst}
use Rattle.std.proofs.lemmas.Result.{err_from_is_err_and}
use Rattle.config_types.specs.declared.alert.AlertDef.{AlertDef}
use Rattle.config_types.specs.declared.matcher.MatcherDef.{MatcherDef}
use Rattle.config_types.specs.declared.predicate.PredicateDef.{PredicateDef}
use Rattle.config_types.specs.declared.state.StateDef.{StateDef}
use Rattle.link_rules.specs.declared.entities.Metric.{Metric}
use Rattle.link_rules.specs.EntityIds.{id_of_matcher, id_of_predicate, id_of_state, id_of_metric, id_of_alert, set_ids, duplicate_in, duplicate_id_fault, matcher_ids, predicate_ids, state_ids, metric_ids}
use Rattle.link_rules.specs.LinkFaults.{Links, matcher_kind, predicate_kind, state_kind, metric_kind, alert_kind}
use Rattle.link_rules.proofs.LinkFaultLemmas.{breaks_fifth}
use Rattle.link_rules.proofs.rules.all_ids.Goals as goal

-- no id of the other kinds stood before, and one of an alert did
pub returns-in_err-ids_of : goal.returns-in_err-ids_of
unfolding duplicate_id_fault
returns-in_err-ids_of c =
    let p = err_from_is_err_and c.from_residual-in_err-ids_of.result
    c.from_residual-in_err-ids_of.ensures.1 in
    let matchers = subst (λ (defs : List MatcherDef). duplicate_in matcher_kind (map id_of_matcher defs) ≡ None)
    c.as_slice.ensures c.in_ok-matchers.ensures.0 in
    let predicates = subst (λ (defs : List PredicateDef). duplicate_in predicate_kind (map id_of_predicate defs) ≡ None)
    c.as_slice-2.ensures c.in_ok-predicates.ensures.0 in
    let states = subst (λ (defs : List StateDef). duplicate_in state_kind (map id_of_state defs) ≡ None)
    c.as_slice-3.ensures c.in_ok-states.ensures.0 in
    let metrics = subst (λ (defs : List Metric). duplicate_in metric_kind (map id_of_metric defs) ≡ None)
    c.as_slice-4.ensures c.in_ok-metrics.ensures.0 in
    let alerts = subst (λ (defs : List AlertDef). Links (Err c.in_err-ids_of.field-0.0)
    (duplicate_in alert_kind (map id_of_alert defs)) (set_ids (map id_of_alert defs))) c.as_slice-5.ensures
    c.in_err-ids_of.ensures in
    rw (p.1, p.2) (breaks_fifth _ _ _ _ _ c.in_err-ids_of.field-0.0 _ _ matchers predicates states metrics alerts)

-- each kind has its ids
pub returns : goal.returns
unfolding duplicate_id_fault matcher_ids predicate_ids state_ids metric_ids
returns c = search rules
