-- Worked configurations and their first faults, by computing.
use Rattle.std.proofs.Common.{◌≡◌, ℕ, ℤ, pos, Bool, true, false, List, [], ◌∷◌, map, Option, Some, None, refl}
use Rattle.config_types.specs.declared.config.Config.{Config}
use Rattle.config_types.specs.declared.matcher.MatcherDef.{MatcherDef}
use Rattle.config_types.specs.declared.matcher.MatcherBody.{MatcherBody}
use Rattle.config_types.specs.declared.matcher.MatcherBody.TheVariants as matcher
use Rattle.config_types.specs.declared.matcher.Operation.{Operation}
use Rattle.config_types.specs.declared.matcher.Operation.TheVariants.{And, Not}
use Rattle.config_types.specs.declared.predicate.PredicateDef.{PredicateDef}
use Rattle.config_types.specs.declared.predicate.PredicateBody.TheVariants as predicate
use Rattle.config_types.specs.declared.metric.CountDef.{CountDef}
use Rattle.config_types.specs.declared.metric.DurationDef.{DurationDef}
use Rattle.config_types.specs.declared.metric.Sliced.{Sliced}
use Rattle.distinct.specs.Places.{first_place}
use Rattle.field_select.specs.declared.leaf.LeafPath.{LeafPath}
use Rattle.link_graph.specs.Ids.{reaches_by_id}
use Rattle.link_rules.specs.Cycles.{cycle_fault}
use Rattle.link_rules.specs.Entities.{no_slicing}
use Rattle.link_rules.specs.EntityIds.{no_id_fault, duplicate_id_fault, matcher_ids, predicate_ids, state_ids, metric_ids}
use Rattle.link_rules.specs.EntityLimits.{limit_fault}
use Rattle.link_rules.specs.EntityNames.{unknown_matcher_fault, unknown_predicate_fault, unknown_state_fault, unknown_metric_fault}
use Rattle.link_rules.specs.LinkFaults.{fault}
use Rattle.link_rules.specs.LinkRules.{rule_fault, id_fault, reference_fault, name_fault}
use Rattle.config_links.specs.declared.linked.LMetric.{LMetric}
use Rattle.config_links.specs.declared.linked.LKind.TheVariants as kinds
use Rattle.config_links.specs.LinkMetrics.{bad_rest}
use Rattle.config_links.specs.MetricActivations.{bad_activations}
use Rattle.config_links.specs.MetricKinds.{bad_kind, linked_kind}
use Rattle.config_links.specs.MetricLinks.{bad_links, rising_places, leaf_bound}
use Rattle.config_links.specs.MetricSlices.{bad_times, bad_slices}
use Rattle.config_links.specs.Verdict.{verdict, bad_type_fault, bad_part_fault, bad_metric_fault, bad_alert_fault, matchers_linked, predicates_linked, states_linked, metrics_linked, linked_form}

-- a configuration of nothing
abbrev pub nothing : Config
nothing = record {
  matchers = [];
  predicates = [];
  states = [];
  events = [];
  counts = [];
  values = [];
  gauges = [];
  durations = [];
  no_report = [];
  alerts = [];
}

-- the atoms of an id
abbrev pub of_atom : ℕ → Option MatcherBody
of_atom id = Some (matcher.Simple (record { atom_id = Some (pos id); tests = [] }))

-- a matcher of the atoms of an id
abbrev pub atom : ℕ → ℕ → MatcherDef
atom id number = record { id = Some (pos id); body = of_atom number }

-- a matcher of these matchers
abbrev joined : Operation → ℕ → List ℤ → MatcherDef
joined op id children = record {
  id = Some (pos id);
  body = Some (matcher.Combo (record { op = Some op; children = children }));
}

-- a predicate that holds where another doesn't
abbrev not_of_predicate : ℕ → ℕ → PredicateDef
not_of_predicate id child = record {
  id = Some (pos id);
  body = Some (predicate.Combo (record { op = Some Not; children = pos child ∷ [] }));
}

-- a count of what a matcher matches
abbrev pub count : ℕ → ℕ → Sliced → CountDef
count id what sliced = record {
  common = record { id = Some (pos id); what = Some (pos what); condition = None; links = []; activations = [] };
  sliced = sliced;
  overflow = false;
}

-- a count of this id, with or without an overflow row
abbrev count_with : ℕ → Bool → CountDef
count_with id overflow = record (count id 1 no_slicing) { overflow = overflow }

-- the time of a predicate
abbrev pub duration : ℕ → ℕ → DurationDef
duration id what = record {
  common = record { id = Some (pos id); what = Some (pos what); condition = None; links = []; activations = [] };
  sliced = no_slicing;
  max_sparse = false;
}

-- a count of a matcher has no fault
fine : verdict (record nothing { matchers = atom 1 5 ∷ []; counts = count 100 1 no_slicing ∷ [] })
    ≡ None
unfolding verdict rule_fault id_fault reference_fault name_fault cycle_fault bad_type_fault bad_part_fault
    bad_metric_fault bad_alert_fault bad_links bad_rest bad_times bad_slices bad_kind bad_activations
    matchers_linked predicates_linked states_linked
    limit_fault
    no_id_fault duplicate_id_fault matcher_ids predicate_ids state_ids metric_ids unknown_matcher_fault
    unknown_predicate_fault unknown_state_fault unknown_metric_fault reaches_by_id first_place
fine = refl

-- of three counts the one that asks has an overflow row
one_overflow : map (λ (metric : LMetric). metric.kind) (linked_form (record nothing {
  matchers = atom 1 5 ∷ [];
  counts = count_with 100 false ∷ count_with 101 true ∷ count_with 102 false ∷ [];
}) (pos 10)).metrics
    ≡ kinds.Count false ∷ kinds.Count true ∷ kinds.Count false ∷ []
unfolding linked_form metrics_linked linked_kind
one_overflow = refl

-- a bound of 0
bound_of_0 : verdict (record nothing {
  matchers = atom 1 5 ∷ [];
  counts = count 100 1 (record no_slicing { bound = Some (pos 0) }) ∷ [];
})
    ≡ Some (fault 1 6 (pos 0))
unfolding verdict rule_fault id_fault reference_fault name_fault cycle_fault bad_type_fault bad_part_fault
    bad_metric_fault bad_alert_fault bad_links bad_rest bad_times bad_slices bad_kind bad_activations
    matchers_linked predicates_linked states_linked
    limit_fault
    no_id_fault duplicate_id_fault matcher_ids predicate_ids state_ids metric_ids unknown_matcher_fault
    unknown_predicate_fault unknown_state_fault unknown_metric_fault reaches_by_id first_place
bound_of_0 = refl

-- a matcher without id
no_id : verdict (record nothing { matchers = record { id = None; body = of_atom 5 } ∷ [] })
    ≡ Some (fault 2 1 (pos 0))
unfolding verdict rule_fault id_fault reference_fault name_fault cycle_fault bad_type_fault bad_part_fault
    bad_metric_fault bad_alert_fault bad_links bad_rest bad_times bad_slices bad_kind bad_activations
    matchers_linked predicates_linked states_linked
    limit_fault
    no_id_fault duplicate_id_fault matcher_ids predicate_ids state_ids metric_ids unknown_matcher_fault
    unknown_predicate_fault unknown_state_fault unknown_metric_fault reaches_by_id first_place
no_id = refl

-- two matchers of the same id
an_id_twice : verdict (record nothing { matchers = atom 1 5 ∷ atom 1 6 ∷ [] })
    ≡ Some (fault 3 1 (pos 1))
unfolding verdict rule_fault id_fault reference_fault name_fault cycle_fault bad_type_fault bad_part_fault
    bad_metric_fault bad_alert_fault bad_links bad_rest bad_times bad_slices bad_kind bad_activations
    matchers_linked predicates_linked states_linked
    limit_fault
    no_id_fault duplicate_id_fault matcher_ids predicate_ids state_ids metric_ids unknown_matcher_fault
    unknown_predicate_fault unknown_state_fault unknown_metric_fault reaches_by_id first_place
an_id_twice = refl

-- of two ids that come twice, the one whose second stands first
the_first_repeat : verdict (record nothing { matchers = atom 1 5 ∷ atom 2 5 ∷ atom 2 6 ∷ atom 1 6 ∷ [] })
    ≡ Some (fault 3 1 (pos 2))
unfolding verdict rule_fault id_fault reference_fault name_fault cycle_fault bad_type_fault bad_part_fault
    bad_metric_fault bad_alert_fault bad_links bad_rest bad_times bad_slices bad_kind bad_activations
    matchers_linked predicates_linked states_linked
    limit_fault
    no_id_fault duplicate_id_fault matcher_ids predicate_ids state_ids metric_ids unknown_matcher_fault
    unknown_predicate_fault unknown_state_fault unknown_metric_fault reaches_by_id first_place
the_first_repeat = refl

-- a count of nothing that is there
no_matcher : verdict (record nothing { counts = count 100 9 no_slicing ∷ [] })
    ≡ Some (fault 4 4 (pos 9))
unfolding verdict rule_fault id_fault reference_fault name_fault cycle_fault bad_type_fault bad_part_fault
    bad_metric_fault bad_alert_fault bad_links bad_rest bad_times bad_slices bad_kind bad_activations
    matchers_linked predicates_linked states_linked
    limit_fault
    no_id_fault duplicate_id_fault matcher_ids predicate_ids state_ids metric_ids unknown_matcher_fault
    unknown_predicate_fault unknown_state_fault unknown_metric_fault reaches_by_id first_place
no_matcher = refl

-- the time of nothing that is there
no_predicate : verdict (record nothing { durations = duration 100 11 ∷ [] })
    ≡ Some (fault 5 4 (pos 11))
unfolding verdict rule_fault id_fault reference_fault name_fault cycle_fault bad_type_fault bad_part_fault
    bad_metric_fault bad_alert_fault bad_links bad_rest bad_times bad_slices bad_kind bad_activations
    matchers_linked predicates_linked states_linked
    limit_fault
    no_id_fault duplicate_id_fault matcher_ids predicate_ids state_ids metric_ids unknown_matcher_fault
    unknown_predicate_fault unknown_state_fault unknown_metric_fault reaches_by_id first_place
no_predicate = refl

-- a slice by nothing that is there
no_state : verdict (record nothing {
  matchers = atom 1 5 ∷ [];
  counts = count 100 1 (record no_slicing { slices = pos 3 ∷ [] }) ∷ [];
})
    ≡ Some (fault 6 4 (pos 3))
unfolding verdict rule_fault id_fault reference_fault name_fault cycle_fault bad_type_fault bad_part_fault
    bad_metric_fault bad_alert_fault bad_links bad_rest bad_times bad_slices bad_kind bad_activations
    matchers_linked predicates_linked states_linked
    limit_fault
    no_id_fault duplicate_id_fault matcher_ids predicate_ids state_ids metric_ids unknown_matcher_fault
    unknown_predicate_fault unknown_state_fault unknown_metric_fault reaches_by_id first_place
no_state = refl

-- a matcher that is below itself
a_matcher_of_itself : verdict (record nothing { matchers = joined Not 1 (pos 1 ∷ []) ∷ [] })
    ≡ Some (fault 7 0 (pos 1))
unfolding verdict rule_fault id_fault reference_fault name_fault cycle_fault bad_type_fault bad_part_fault
    bad_metric_fault bad_alert_fault bad_links bad_rest bad_times bad_slices bad_kind bad_activations
    matchers_linked predicates_linked states_linked
    limit_fault
    no_id_fault duplicate_id_fault matcher_ids predicate_ids state_ids metric_ids unknown_matcher_fault
    unknown_predicate_fault unknown_state_fault unknown_metric_fault reaches_by_id first_place
a_matcher_of_itself = refl

-- two matchers name one another, and the first of three only refers to them: the second is named
the_cycles_member : verdict (record nothing {
  matchers = joined And 1 (pos 2 ∷ [])
      ∷ joined And 2 (pos 3 ∷ []) ∷ joined And 3 (pos 2 ∷ []) ∷ [];
})
    ≡ Some (fault 7 0 (pos 2))
unfolding verdict rule_fault id_fault reference_fault name_fault cycle_fault bad_type_fault bad_part_fault
    bad_metric_fault bad_alert_fault bad_links bad_rest bad_times bad_slices bad_kind bad_activations
    matchers_linked predicates_linked states_linked
    limit_fault
    no_id_fault duplicate_id_fault matcher_ids predicate_ids state_ids metric_ids unknown_matcher_fault
    unknown_predicate_fault unknown_state_fault unknown_metric_fault reaches_by_id first_place
the_cycles_member = refl

-- a predicate that is below itself
a_predicate_of_itself : verdict (record nothing { predicates = not_of_predicate 11 11 ∷ [] })
    ≡ Some (fault 8 0 (pos 11))
unfolding verdict rule_fault id_fault reference_fault name_fault cycle_fault bad_type_fault bad_part_fault
    bad_metric_fault bad_alert_fault bad_links bad_rest bad_times bad_slices bad_kind bad_activations
    matchers_linked predicates_linked states_linked
    limit_fault
    no_id_fault duplicate_id_fault matcher_ids predicate_ids state_ids metric_ids unknown_matcher_fault
    unknown_predicate_fault unknown_state_fault unknown_metric_fault reaches_by_id first_place
a_predicate_of_itself = refl

-- a matcher that says nothing
no_body : verdict (record nothing { matchers = record { id = Some (pos 1); body = None } ∷ [] })
    ≡ Some (fault 9 1 (pos 1))
unfolding verdict rule_fault id_fault reference_fault name_fault cycle_fault bad_type_fault bad_part_fault
    bad_metric_fault bad_alert_fault bad_links bad_rest bad_times bad_slices bad_kind bad_activations
    matchers_linked predicates_linked states_linked
    limit_fault
    no_id_fault duplicate_id_fault matcher_ids predicate_ids state_ids metric_ids unknown_matcher_fault
    unknown_predicate_fault unknown_state_fault unknown_metric_fault reaches_by_id first_place
no_body = refl

-- an id without a metric, of those that no report shows
hidden_nothing : verdict (record nothing { no_report = pos 5 ∷ [] })
    ≡ Some (fault 9 19 (pos 5))
unfolding verdict rule_fault id_fault reference_fault name_fault cycle_fault bad_type_fault bad_part_fault
    bad_metric_fault bad_alert_fault bad_links bad_rest bad_times bad_slices bad_kind bad_activations
    matchers_linked predicates_linked states_linked
    limit_fault
    no_id_fault duplicate_id_fault matcher_ids predicate_ids state_ids metric_ids unknown_matcher_fault
    unknown_predicate_fault unknown_state_fault unknown_metric_fault reaches_by_id first_place
hidden_nothing = refl

-- the leaf of a field
abbrev leaf_of : ℕ → LeafPath
leaf_of field = record { field = field; position = None; sub = 0 }

-- leaves that are bound to the last and to the first of three dimensions stand in the order of these
places_in_order : rising_places 3 (2 ∷ 0 ∷ []) ≡ 0 ∷ 2 ∷ []
places_in_order = refl

leaves_in_order : map (leaf_bound (2 ∷ 0 ∷ []) (leaf_of 7 ∷ leaf_of 8 ∷ [])) (0 ∷ 2 ∷ [])
    ≡ leaf_of 8 ∷ leaf_of 7 ∷ []
unfolding first_place
leaves_in_order = refl
