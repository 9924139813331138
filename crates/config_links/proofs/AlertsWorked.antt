-- Worked configurations with alerts and their first faults, by computing.
use Rattle.std.proofs.Common.{◌≡◌, ℕ, pos, negsuc, true, false, List, [], ◌∷◌, replicate, Some, None, refl}
use Rattle.config_types.specs.declared.alert.AlertDef.{AlertDef}
use Rattle.config_types.specs.declared.config.Config.{Config}
use Rattle.config_types.specs.declared.predicate.PredicateDef.{PredicateDef}
use Rattle.config_types.specs.declared.predicate.PredicateBody.TheVariants.{Simple}
use Rattle.distinct.specs.Places.{first_place}
use Rattle.link_graph.specs.Ids.{reaches_by_id}
use Rattle.link_rules.specs.Cycles.{cycle_fault}
use Rattle.link_rules.specs.Entities.{no_slicing}
use Rattle.link_rules.specs.EntityIds.{no_id_fault, duplicate_id_fault, matcher_ids, predicate_ids, state_ids, metric_ids}
use Rattle.link_rules.specs.EntityLimits.{limit_fault}
use Rattle.link_rules.specs.EntityNames.{unknown_matcher_fault, unknown_predicate_fault, unknown_state_fault, unknown_metric_fault}
use Rattle.link_rules.specs.LinkFaults.{fault}
use Rattle.link_rules.specs.LinkRules.{rule_fault, id_fault, reference_fault, name_fault}
use Rattle.config_links.specs.LinkMetrics.{bad_rest}
use Rattle.config_links.specs.MetricActivations.{bad_activations}
use Rattle.config_links.specs.MetricKinds.{bad_kind}
use Rattle.config_links.specs.MetricLinks.{bad_links}
use Rattle.config_links.specs.MetricSlices.{bad_times, bad_slices}
use Rattle.config_links.specs.Verdict.{verdict, bad_type_fault, bad_part_fault, bad_metric_fault, bad_alert_fault, matchers_linked, predicates_linked, states_linked, alerts_linked, linked_form}
use Rattle.config_links.proofs.LinkWorked.{nothing, atom, count, duration}

-- an alert of this id on a metric
abbrev alert : ℕ → ℕ → AlertDef
alert id metric = record {
  id = Some (pos id);
  metric = Some (pos metric);
  threshold = Some (pos 2);
  parts = Some (pos 2);
  refractory = Some (pos 1);
}

-- a predicate that nothing starts
abbrev lock : PredicateDef
lock = record {
  id = Some (pos 11);
  body = Some (Simple (record {
    start = None;
    stop = None;
    stop_all = None;
    nesting = true;
    unknown = false;
    dims = None;
    bound = None;
  }));
}

-- a count of the atoms of id 5, whose buckets admit seven keys, with these alerts
abbrev watched : List AlertDef → Config
watched alerts = record nothing {
  matchers = atom 1 5 ∷ [];
  counts = count 100 1 (record no_slicing { bound = Some (pos 7) }) ∷ [];
  alerts = alerts;
}

-- an alert on a count
one_alert : verdict (watched (alert 200 100 ∷ []))
    ≡ None
unfolding verdict rule_fault id_fault reference_fault name_fault cycle_fault bad_type_fault bad_part_fault
    bad_metric_fault bad_alert_fault bad_links bad_rest bad_times bad_slices bad_kind bad_activations
    matchers_linked predicates_linked states_linked
    limit_fault
    no_id_fault duplicate_id_fault matcher_ids predicate_ids state_ids metric_ids unknown_matcher_fault
    unknown_predicate_fault unknown_state_fault unknown_metric_fault reaches_by_id first_place
one_alert = refl

-- an alert on no metric
on_nothing : verdict (watched (alert 200 9 ∷ []))
    ≡ Some (fault 10 5 (pos 9))
unfolding verdict rule_fault id_fault reference_fault name_fault cycle_fault bad_type_fault bad_part_fault
    bad_metric_fault bad_alert_fault bad_links bad_rest bad_times bad_slices bad_kind bad_activations
    matchers_linked predicates_linked states_linked
    limit_fault
    no_id_fault duplicate_id_fault matcher_ids predicate_ids state_ids metric_ids unknown_matcher_fault
    unknown_predicate_fault unknown_state_fault unknown_metric_fault reaches_by_id first_place
on_nothing = refl

-- a metric that no report shows and that isn't there is told before
hidden_before : verdict (record (watched (alert 200 9 ∷ [])) { no_report = pos 8 ∷ [] })
    ≡ Some (fault 9 19 (pos 8))
unfolding verdict rule_fault id_fault reference_fault name_fault cycle_fault bad_type_fault bad_part_fault
    bad_metric_fault bad_alert_fault bad_links bad_rest bad_times bad_slices bad_kind bad_activations
    matchers_linked predicates_linked states_linked
    limit_fault
    no_id_fault duplicate_id_fault matcher_ids predicate_ids state_ids metric_ids unknown_matcher_fault
    unknown_predicate_fault unknown_state_fault unknown_metric_fault reaches_by_id first_place
hidden_before = refl

-- an alert that lacks its threshold is told before that
lacking_before : verdict (record (watched (record (alert 200 9) { threshold = None } ∷ [])) {
  no_report = pos 8 ∷ [];
})
    ≡ Some (fault 9 22 (pos 200))
unfolding verdict rule_fault id_fault reference_fault name_fault cycle_fault bad_type_fault bad_part_fault
    bad_metric_fault bad_alert_fault bad_links bad_rest bad_times bad_slices bad_kind bad_activations
    matchers_linked predicates_linked states_linked
    limit_fault
    no_id_fault duplicate_id_fault matcher_ids predicate_ids state_ids metric_ids unknown_matcher_fault
    unknown_predicate_fault unknown_state_fault unknown_metric_fault reaches_by_id first_place
lacking_before = refl

-- an alert on a duration
on_a_duration : verdict (record nothing {
  predicates = lock ∷ [];
  durations = duration 100 11 ∷ [];
  alerts = alert 200 100 ∷ [];
})
    ≡ Some (fault 9 23 (pos 200))
unfolding verdict rule_fault id_fault reference_fault name_fault cycle_fault bad_type_fault bad_part_fault
    bad_metric_fault bad_alert_fault bad_links bad_rest bad_times bad_slices bad_kind bad_activations
    matchers_linked predicates_linked states_linked
    limit_fault
    no_id_fault duplicate_id_fault matcher_ids predicate_ids state_ids metric_ids unknown_matcher_fault
    unknown_predicate_fault unknown_state_fault unknown_metric_fault reaches_by_id first_place
on_a_duration = refl

-- an alert without id
no_id : verdict (watched (alert 200 100 ∷ record (alert 201 100) { id = None } ∷ []))
    ≡ Some (fault 2 5 (pos 1))
unfolding verdict rule_fault id_fault reference_fault name_fault cycle_fault bad_type_fault bad_part_fault
    bad_metric_fault bad_alert_fault bad_links bad_rest bad_times bad_slices bad_kind bad_activations
    matchers_linked predicates_linked states_linked
    limit_fault
    no_id_fault duplicate_id_fault matcher_ids predicate_ids state_ids metric_ids unknown_matcher_fault
    unknown_predicate_fault unknown_state_fault unknown_metric_fault reaches_by_id first_place
no_id = refl

-- two alerts of one id, which is also a metric's
an_id_twice : verdict (watched (alert 100 100 ∷ alert 100 9 ∷ []))
    ≡ Some (fault 3 5 (pos 100))
unfolding verdict rule_fault id_fault reference_fault name_fault cycle_fault bad_type_fault bad_part_fault
    bad_metric_fault bad_alert_fault bad_links bad_rest bad_times bad_slices bad_kind bad_activations
    matchers_linked predicates_linked states_linked
    limit_fault
    no_id_fault duplicate_id_fault matcher_ids predicate_ids state_ids metric_ids unknown_matcher_fault
    unknown_predicate_fault unknown_state_fault unknown_metric_fault reaches_by_id first_place
an_id_twice = refl

-- ten alerts
ten : verdict (watched (alert 1 100 ∷ alert 2 100 ∷ alert 3 100 ∷ alert 4 100 ∷ alert 5 100
    ∷ alert 6 100 ∷ alert 7 100 ∷ alert 8 100 ∷ alert 9 100 ∷ alert 10 100 ∷ []))
    ≡ None
unfolding verdict rule_fault id_fault reference_fault name_fault cycle_fault bad_type_fault bad_part_fault
    bad_metric_fault bad_alert_fault bad_links bad_rest bad_times bad_slices bad_kind bad_activations
    matchers_linked predicates_linked states_linked
    limit_fault
    no_id_fault duplicate_id_fault matcher_ids predicate_ids state_ids metric_ids unknown_matcher_fault
    unknown_predicate_fault unknown_state_fault unknown_metric_fault reaches_by_id first_place
ten = refl

-- eleven
eleven : verdict (watched (replicate 11 (alert 1 100)))
    ≡ Some (fault 1 11 (pos 11))
unfolding verdict rule_fault id_fault reference_fault name_fault cycle_fault bad_type_fault bad_part_fault
    bad_metric_fault bad_alert_fault bad_links bad_rest bad_times bad_slices bad_kind bad_activations
    matchers_linked predicates_linked states_linked
    limit_fault
    no_id_fault duplicate_id_fault matcher_ids predicate_ids state_ids metric_ids unknown_matcher_fault
    unknown_predicate_fault unknown_state_fault unknown_metric_fault reaches_by_id first_place
eleven = refl

-- more parts than there may be, and a threshold below 0
many_parts : verdict (watched (record (alert 200 100) { parts = Some (pos 11); threshold = Some (negsuc 0) } ∷ []))
    ≡ Some (fault 1 12 (pos 11))
unfolding verdict rule_fault id_fault reference_fault name_fault cycle_fault bad_type_fault bad_part_fault
    bad_metric_fault bad_alert_fault bad_links bad_rest bad_times bad_slices bad_kind bad_activations
    matchers_linked predicates_linked states_linked
    limit_fault
    no_id_fault duplicate_id_fault matcher_ids predicate_ids state_ids metric_ids unknown_matcher_fault
    unknown_predicate_fault unknown_state_fault unknown_metric_fault reaches_by_id first_place
many_parts = refl

-- a threshold below 0
low_threshold : verdict (watched (record (alert 200 100) { threshold = Some (negsuc 0) } ∷ []))
    ≡ Some (fault 1 13 (negsuc 0))
unfolding verdict rule_fault id_fault reference_fault name_fault cycle_fault bad_type_fault bad_part_fault
    bad_metric_fault bad_alert_fault bad_links bad_rest bad_times bad_slices bad_kind bad_activations
    matchers_linked predicates_linked states_linked
    limit_fault
    no_id_fault duplicate_id_fault matcher_ids predicate_ids state_ids metric_ids unknown_matcher_fault
    unknown_predicate_fault unknown_state_fault unknown_metric_fault reaches_by_id first_place
low_threshold = refl

-- a time of 0 without an alarm after an alarm, and one that is too long
long_wait : verdict (watched (
    record (alert 200 100) { refractory = Some (pos 0) }
    ∷ record (alert 201 100) { refractory = Some (pos 1000001) } ∷ []
    ))
    ≡ Some (fault 1 14 (pos 1000001))
unfolding verdict rule_fault id_fault reference_fault name_fault cycle_fault bad_type_fault bad_part_fault
    bad_metric_fault bad_alert_fault bad_links bad_rest bad_times bad_slices bad_kind bad_activations
    matchers_linked predicates_linked states_linked
    limit_fault
    no_id_fault duplicate_id_fault matcher_ids predicate_ids state_ids metric_ids unknown_matcher_fault
    unknown_predicate_fault unknown_state_fault unknown_metric_fault reaches_by_id first_place
long_wait = refl

-- an alert has the bound of its metric, and its time in nanoseconds
linked_alert : (linked_form (watched (record (alert 200 100) { refractory = Some (pos 3) } ∷ [])) (pos 10)).alerts
    ≡ record {
      id = pos 200;
      metric = 0;
      spec = record { bound = 7; parts = 2; threshold = 2; refractory = 3000000000 };
    } ∷ []
unfolding linked_form alerts_linked metric_ids first_place
linked_alert = refl
