-- Worked configurations with activations and their first faults, by computing.
use Rattle.std.proofs.Common.{◌≡◌, ℕ, pos, true, List, [], ◌∷◌, map, replicate, Some, None, refl}
use Rattle.config_types.specs.declared.config.Config.{Config}
use Rattle.config_types.specs.declared.metric.ActivationDef.{ActivationDef}
use Rattle.config_types.specs.declared.metric.CountDef.{CountDef}
use Rattle.config_types.specs.declared.metric.GaugeDef.{GaugeDef}
use Rattle.config_types.specs.declared.metric.SamplingType.TheVariants.{RandomOne}
use Rattle.config_links.specs.declared.linked.LMetric.{LMetric}
use Rattle.distinct.specs.Places.{first_place}
use Rattle.link_graph.specs.Ids.{reaches_by_id}
use Rattle.link_rules.specs.Cycles.{cycle_fault}
use Rattle.link_rules.specs.Entities.{no_slicing}
use Rattle.link_rules.specs.EntityIds.{no_id_fault, duplicate_id_fault, matcher_ids, predicate_ids, state_ids, metric_ids}
use Rattle.link_rules.specs.EntityLimits.{limit_fault}
use Rattle.link_rules.specs.EntityNames.{unknown_matcher_fault, unknown_predicate_fault, unknown_state_fault, unknown_metric_fault}
use Rattle.link_rules.specs.LinkFaults.{fault}
use Rattle.link_rules.specs.LinkRules.{rule_fault, id_fault, reference_fault, name_fault}
use Rattle.config_links.specs.LinkMetrics.{bad_rest}
use Rattle.config_links.specs.MetricActivations.{bad_activations, linked_activations}
use Rattle.config_links.specs.MetricKinds.{bad_kind, linked_kind}
use Rattle.config_links.specs.MetricLinks.{bad_links}
use Rattle.config_links.specs.MetricSlices.{bad_times, bad_slices}
use Rattle.config_links.specs.Verdict.{verdict, bad_type_fault, bad_part_fault, bad_metric_fault, bad_alert_fault, matchers_linked, predicates_linked, states_linked, metrics_linked, linked_form}
use Rattle.config_links.proofs.LinkWorked.{nothing, atom, count}

-- what the matcher of this id begins, for so many seconds
abbrev begun_by : ℕ → ℕ → ActivationDef
begun_by start ttl = record { start = Some (pos start); ttl = Some (pos ttl); cancel = None }

-- a count of the atoms of id 5, with these activations
abbrev active_count : List ActivationDef → CountDef
active_count defs = record (count 100 1 no_slicing) {
  common = record { id = Some (pos 100); what = Some (pos 1); condition = None; links = []; activations = defs };
}

-- such a count, where the matcher 1 means the atoms of id 5, and the matcher 2 those of id 6
abbrev counted : List ActivationDef → Config
counted defs = record nothing { matchers = atom 1 5 ∷ atom 2 6 ∷ []; counts = active_count defs ∷ [] }

-- a gauge of what is pulled, with these activations
abbrev pulled_gauge : List ActivationDef → GaugeDef
pulled_gauge defs = record {
  common = record { id = Some (pos 100); what = Some (pos 1); condition = None; links = []; activations = defs };
  sliced = no_slicing;
  include_all = true;
  fields = None;
  sampling = RandomOne;
  max_samples = None;
  trigger = None;
}

-- an activation that a known matcher begins, for the longest time
longest : verdict (counted (begun_by 2 1000000 ∷ []))
    ≡ None
unfolding verdict rule_fault id_fault reference_fault name_fault cycle_fault bad_type_fault bad_part_fault
    bad_metric_fault bad_alert_fault bad_links bad_rest bad_times bad_slices bad_kind bad_activations
    matchers_linked predicates_linked states_linked
    limit_fault
    no_id_fault duplicate_id_fault matcher_ids predicate_ids state_ids metric_ids unknown_matcher_fault
    unknown_predicate_fault unknown_state_fault unknown_metric_fault reaches_by_id first_place
longest = refl

-- one that a matcher begins that isn't there
no_start : verdict (counted (begun_by 9 1 ∷ []))
    ≡ Some (fault 4 4 (pos 9))
unfolding verdict rule_fault id_fault reference_fault name_fault cycle_fault bad_type_fault bad_part_fault
    bad_metric_fault bad_alert_fault bad_links bad_rest bad_times bad_slices bad_kind bad_activations
    matchers_linked predicates_linked states_linked
    limit_fault
    no_id_fault duplicate_id_fault matcher_ids predicate_ids state_ids metric_ids unknown_matcher_fault
    unknown_predicate_fault unknown_state_fault unknown_metric_fault reaches_by_id first_place
no_start = refl

-- one that a matcher ends that isn't there, before a later one that such a one begins
no_cancel : verdict (counted (
    record { start = Some (pos 2); ttl = Some (pos 1); cancel = Some (pos 7) } ∷ begun_by 9 1 ∷ []
    ))
    ≡ Some (fault 4 4 (pos 7))
unfolding verdict rule_fault id_fault reference_fault name_fault cycle_fault bad_type_fault bad_part_fault
    bad_metric_fault bad_alert_fault bad_links bad_rest bad_times bad_slices bad_kind bad_activations
    matchers_linked predicates_linked states_linked
    limit_fault
    no_id_fault duplicate_id_fault matcher_ids predicate_ids state_ids metric_ids unknown_matcher_fault
    unknown_predicate_fault unknown_state_fault unknown_metric_fault reaches_by_id first_place
no_cancel = refl

-- one without a time
no_time : verdict (counted (record { start = Some (pos 2); ttl = None; cancel = None } ∷ []))
    ≡ Some (fault 9 20 (pos 100))
unfolding verdict rule_fault id_fault reference_fault name_fault cycle_fault bad_type_fault bad_part_fault
    bad_metric_fault bad_alert_fault bad_links bad_rest bad_times bad_slices bad_kind bad_activations
    matchers_linked predicates_linked states_linked
    limit_fault
    no_id_fault duplicate_id_fault matcher_ids predicate_ids state_ids metric_ids unknown_matcher_fault
    unknown_predicate_fault unknown_state_fault unknown_metric_fault reaches_by_id first_place
no_time = refl

-- one that nothing begins
no_beginning : verdict (counted (record { start = None; ttl = Some (pos 1); cancel = None } ∷ []))
    ≡ Some (fault 9 20 (pos 100))
unfolding verdict rule_fault id_fault reference_fault name_fault cycle_fault bad_type_fault bad_part_fault
    bad_metric_fault bad_alert_fault bad_links bad_rest bad_times bad_slices bad_kind bad_activations
    matchers_linked predicates_linked states_linked
    limit_fault
    no_id_fault duplicate_id_fault matcher_ids predicate_ids state_ids metric_ids unknown_matcher_fault
    unknown_predicate_fault unknown_state_fault unknown_metric_fault reaches_by_id first_place
no_beginning = refl

-- a time of 0
time_of_0 : verdict (counted (begun_by 2 0 ∷ []))
    ≡ Some (fault 1 10 (pos 0))
unfolding verdict rule_fault id_fault reference_fault name_fault cycle_fault bad_type_fault bad_part_fault
    bad_metric_fault bad_alert_fault bad_links bad_rest bad_times bad_slices bad_kind bad_activations
    matchers_linked predicates_linked states_linked
    limit_fault
    no_id_fault duplicate_id_fault matcher_ids predicate_ids state_ids metric_ids unknown_matcher_fault
    unknown_predicate_fault unknown_state_fault unknown_metric_fault reaches_by_id first_place
time_of_0 = refl

-- a time above the longest, after an activation of another matcher that isn't there
too_long : verdict (counted (begun_by 9 1 ∷ begun_by 2 1000001 ∷ []))
    ≡ Some (fault 1 10 (pos 1000001))
unfolding verdict rule_fault id_fault reference_fault name_fault cycle_fault bad_type_fault bad_part_fault
    bad_metric_fault bad_alert_fault bad_links bad_rest bad_times bad_slices bad_kind bad_activations
    matchers_linked predicates_linked states_linked
    limit_fault
    no_id_fault duplicate_id_fault matcher_ids predicate_ids state_ids metric_ids unknown_matcher_fault
    unknown_predicate_fault unknown_state_fault unknown_metric_fault reaches_by_id first_place
too_long = refl

-- eight activations
eight : verdict (counted (replicate 8 (begun_by 2 1)))
    ≡ None
unfolding verdict rule_fault id_fault reference_fault name_fault cycle_fault bad_type_fault bad_part_fault
    bad_metric_fault bad_alert_fault bad_links bad_rest bad_times bad_slices bad_kind bad_activations
    matchers_linked predicates_linked states_linked
    limit_fault
    no_id_fault duplicate_id_fault matcher_ids predicate_ids state_ids metric_ids unknown_matcher_fault
    unknown_predicate_fault unknown_state_fault unknown_metric_fault reaches_by_id first_place
eight = refl

-- nine, of which one has no time that may be
nine : verdict (counted (begun_by 2 0 ∷ replicate 8 (begun_by 2 1)))
    ≡ Some (fault 1 9 (pos 9))
unfolding verdict rule_fault id_fault reference_fault name_fault cycle_fault bad_type_fault bad_part_fault
    bad_metric_fault bad_alert_fault bad_links bad_rest bad_times bad_slices bad_kind bad_activations
    matchers_linked predicates_linked states_linked
    limit_fault
    no_id_fault duplicate_id_fault matcher_ids predicate_ids state_ids metric_ids unknown_matcher_fault
    unknown_predicate_fault unknown_state_fault unknown_metric_fault reaches_by_id first_place
nine = refl

-- an activation of a gauge of pulled atoms
of_pulled : verdict (record nothing {
  matchers = atom 1 10000 ∷ [];
  gauges = pulled_gauge (begun_by 1 1 ∷ []) ∷ [];
})
    ≡ Some (fault 9 21 (pos 100))
unfolding verdict rule_fault id_fault reference_fault name_fault cycle_fault bad_type_fault bad_part_fault
    bad_metric_fault bad_alert_fault bad_links bad_rest bad_times bad_slices bad_kind bad_activations
    matchers_linked predicates_linked states_linked
    limit_fault
    no_id_fault duplicate_id_fault matcher_ids predicate_ids state_ids metric_ids unknown_matcher_fault
    unknown_predicate_fault unknown_state_fault unknown_metric_fault reaches_by_id first_place
of_pulled = refl

-- times are told in nanoseconds, and matchers by their places
in_nanoseconds : map (λ (metric : LMetric). metric.activations) (linked_form (counted (
    record { start = Some (pos 2); ttl = Some (pos 3); cancel = Some (pos 1) } ∷ []
    )) (pos 10)).metrics
    ≡ (record { start = 1; ttl = 3000000000; cancel = Some 0 } ∷ []) ∷ []
unfolding linked_form metrics_linked linked_kind linked_activations matcher_ids first_place
in_nanoseconds = refl
