-- Worked configurations by their bytes, what is found of them, and their lines, by computing. In a comment, {7: {1: 1}}
-- is a message whose field 7 holds a message whose field 1 is 1.
use Rattle.std.proofs.Common.{◌≡◌, ℕ, pos, negsuc, List, [], ◌∷◌, ◌++◌, length, refl, ap, codes}
use Rattle.std.specs.Fmt.{digits}
use Rattle.proto_wire.specs.WireReading.{inside_at, walk_from, walk_turns, field_at, field_with, tag_at, tag_of, varint_at, taken_at}
use Rattle.distinct.specs.Places.{first_place}
use Rattle.link_graph.specs.Ids.{reaches_by_id}
use Rattle.link_rules.specs.Cycles.{cycle_fault}
use Rattle.link_rules.specs.EntityIds.{no_id_fault, duplicate_id_fault, matcher_ids, predicate_ids, state_ids, metric_ids}
use Rattle.link_rules.specs.EntityLimits.{limit_fault}
use Rattle.link_rules.specs.EntityNames.{unknown_matcher_fault, unknown_predicate_fault, unknown_state_fault, unknown_metric_fault}
use Rattle.link_rules.specs.LinkFaults.{fault}
use Rattle.link_rules.specs.LinkRules.{rule_fault, id_fault, reference_fault, name_fault}
use Rattle.config_links.specs.LinkMetrics.{bad_rest}
use Rattle.config_links.specs.MetricActivations.{bad_activations}
use Rattle.config_links.specs.MetricKinds.{bad_kind}
use Rattle.config_links.specs.MetricLinks.{bad_links}
use Rattle.config_links.specs.MetricSlices.{bad_times, bad_slices}
use Rattle.config_links.specs.Verdict.{verdict, linked_form, bad_type_fault, bad_part_fault, bad_metric_fault, bad_alert_fault, matchers_linked, predicates_linked, states_linked, metrics_linked}
use Rattle.config_decode.specs.Walk as whole
use Rattle.config_decode.specs.Walk.{walk_of}
use Rattle.config_decode.specs.Config.{config_of}
use Rattle.config_decode.proofs.WorkedConfigs.{matcher_bytes, least_bytes, least_config, overflow_of_value_bytes, overflow_of_value_config}
use Rattle.config_check.specs.declared.finding.Finding.TheVariants.{Sound, TooLarge, Malformed, Unsupported, Unlinked}
use Rattle.config_check.specs.Findings.{finding_on, finding_of}
use Rattle.config_check.specs.FindingLines.{finding_line}

-- a count: {7: {1: 1, 2: {1: 5}}, 3: {1: 100, 2: 1}}
a_count : finding_of least_bytes ≡ Sound (record { matchers = 1; predicates = 0; states = 0; metrics = 1 })
unfolding finding_of verdict rule_fault id_fault reference_fault name_fault cycle_fault bad_type_fault bad_part_fault
    bad_metric_fault bad_alert_fault bad_links bad_rest bad_times bad_slices bad_kind bad_activations
    matchers_linked predicates_linked states_linked
    metrics_linked linked_form limit_fault
    no_id_fault duplicate_id_fault matcher_ids predicate_ids state_ids metric_ids unknown_matcher_fault
    unknown_predicate_fault unknown_state_fault unknown_metric_fault reaches_by_id first_place
a_count = ap finding_on least_config

a_count_line : finding_line (Sound (record { matchers = 1; predicates = 0; states = 0; metrics = 1 }))
    ≡ codes "ok 1 0 0 1\n"
unfolding digits
a_count_line = refl

-- a count that asks for an overflow row: {7: {1: 1, 2: {1: 5}}, 3: {1: 100, 2: 1, 1002: 1}}
abbrev overflow_bytes : List ℕ
overflow_bytes = matcher_bytes ++ 26 ∷ 7 ∷ 8 ∷ 100 ∷ 16 ∷ 1 ∷ 208 ∷ 62 ∷ 1 ∷ []

an_overflow : finding_of overflow_bytes ≡ Sound (record { matchers = 1; predicates = 0; states = 0; metrics = 1 })
unfolding finding_of config_of walk_of whole.walk_in inside_at walk_from walk_turns field_at field_with tag_at tag_of
    varint_at taken_at
    verdict rule_fault id_fault reference_fault name_fault cycle_fault bad_type_fault bad_part_fault
    bad_metric_fault bad_alert_fault bad_links bad_rest bad_times bad_slices bad_kind bad_activations
    matchers_linked predicates_linked states_linked
    metrics_linked linked_form limit_fault
    no_id_fault duplicate_id_fault matcher_ids predicate_ids state_ids metric_ids unknown_matcher_fault
    unknown_predicate_fault unknown_state_fault unknown_metric_fault reaches_by_id first_place
an_overflow = refl

-- a metric of another kind has none
overflow_of_value : finding_of overflow_of_value_bytes ≡ Unsupported (4 ∷ 1002 ∷ [])
unfolding finding_of
overflow_of_value = ap finding_on overflow_of_value_config

overflow_of_value_line : finding_line (Unsupported (4 ∷ 1002 ∷ [])) ≡ codes "refused unsupported 4.1002\n"
unfolding digits
overflow_of_value_line = refl

-- matchers of 2, of 3, and of 2: {7: {1: 1, 3: {1: 1, 2: 2}}, 7: {1: 2, 3: {1: 1, 2: 3}}, 7: {1: 3, 3: {1: 1, 2: 2}}}
abbrev cycle_bytes : List ℕ
cycle_bytes =
    (58 ∷ 8 ∷ 8 ∷ 1 ∷ 26 ∷ 4 ∷ 8 ∷ 1 ∷ 16 ∷ 2 ∷ [])
    ++ (58 ∷ 8 ∷ 8 ∷ 2 ∷ 26 ∷ 4 ∷ 8 ∷ 1 ∷ 16 ∷ 3 ∷ []) ++ (58 ∷ 8 ∷ 8 ∷ 3 ∷ 26 ∷ 4 ∷ 8 ∷ 1 ∷ 16 ∷ 2 ∷ [])

a_cycle : finding_of cycle_bytes ≡ Unlinked (fault 7 0 (pos 2))
unfolding finding_of config_of walk_of whole.walk_in inside_at walk_from walk_turns field_at field_with tag_at tag_of
    varint_at taken_at
    verdict rule_fault id_fault reference_fault name_fault cycle_fault bad_type_fault bad_part_fault
    bad_metric_fault bad_alert_fault bad_links bad_rest bad_times bad_slices bad_kind bad_activations
    matchers_linked predicates_linked states_linked
    limit_fault
    no_id_fault duplicate_id_fault matcher_ids predicate_ids state_ids metric_ids unknown_matcher_fault
    unknown_predicate_fault unknown_state_fault unknown_metric_fault reaches_by_id first_place
a_cycle = refl

a_cycle_line : finding_line (Unlinked (fault 7 0 (pos 2))) ≡ codes "refused link 7 0 2\n"
unfolding digits
a_cycle_line = refl

-- 262,145 bytes, whatever they are
too_long : (bytes : List ℕ) → length bytes ≡ 262145 → finding_of bytes ≡ TooLarge 262145
unfolding finding_of config_of
too_long bytes len = rw len refl

too_long_line : finding_line (TooLarge 262145) ≡ codes "refused large 262145\n"
unfolding digits
too_long_line = refl

-- a record that is cut after the matcher
cut_record : finding_of (matcher_bytes ++ 58 ∷ []) ≡ Malformed (record { offset = 8; cause = 2 })
unfolding finding_of config_of walk_of whole.walk_in inside_at walk_from walk_turns field_at field_with tag_at tag_of
    varint_at taken_at
cut_record = refl

cut_record_line : finding_line (Malformed (record { offset = 8; cause = 2 })) ≡ codes "refused wire 2 8\n"
unfolding digits
cut_record_line = refl

-- a field of a matcher that isn't listed: {7: {9: 1}}
no_field : finding_of (58 ∷ 2 ∷ 72 ∷ 1 ∷ []) ≡ Unsupported (7 ∷ 9 ∷ [])
unfolding finding_of config_of walk_of whole.walk_in inside_at walk_from walk_turns field_at field_with tag_at tag_of
    varint_at taken_at
no_field = refl

no_field_line : finding_line (Unsupported (7 ∷ 9 ∷ [])) ≡ codes "refused unsupported 7.9\n"
unfolding digits
no_field_line = refl

-- an id below 0
below_0_line : finding_line (Unlinked (fault 4 4 (negsuc 0))) ≡ codes "refused link 4 4 -1\n"
unfolding digits
below_0_line = refl
