-- The profile: which fields the messages of a configuration have, by their numbers, and what stands in them.
-- Every field that isn't named is refused, and at the top ignored.
use Rattle.std.specs.Prelude.{ℕ, Bool, true, false, not, ◌==◌, ◌%◌, ◌^◌, List, [], ◌∷◌, Option, Some, None, is_none, if◌then◌else◌}
use Rattle.proto_wire.specs.Fields.{BodyOf, Varint, Bytes, FieldOf}
use Rattle.config_types.specs.declared.bucket.TimeUnit.{TimeUnit}
use Rattle.config_types.specs.declared.bucket.TimeUnit.TheVariants.{OneMinute, FiveMinutes, TenMinutes, ThirtyMinutes, OneHour, ThreeHours, SixHours, TwelveHours, OneDay, Cts}
use Rattle.config_types.specs.declared.fields.Position.{Position}
use Rattle.config_types.specs.declared.fields.Position.TheVariants as position
use Rattle.config_types.specs.declared.matcher.Operation.{Operation}
use Rattle.config_types.specs.declared.matcher.Operation.TheVariants.{And, Or, Not, Nand, Nor}
use Rattle.config_types.specs.declared.metric.Aggregation.{Aggregation}
use Rattle.config_types.specs.declared.metric.Aggregation.TheVariants as aggregation
use Rattle.config_types.specs.declared.metric.Direction.{Direction}
use Rattle.config_types.specs.declared.metric.Direction.TheVariants as direction
use Rattle.config_types.specs.declared.metric.SamplingType.{SamplingType}
use Rattle.config_types.specs.declared.metric.SamplingType.TheVariants.{RandomOne, ChangeToTrue, FirstN}
use Rattle.config_decode.specs.declared.scalar.InitialValue.{InitialValue}
use Rattle.config_decode.specs.declared.scalar.InitialValue.TheVariants as initial
use Rattle.config_decode.specs.declared.scalar.Runs.{Runs}
use Rattle.config_decode.specs.declared.scalar.Runs.TheVariants as runs
use Rattle.config_decode.specs.declared.profile.Kind.{Kind}
use Rattle.config_decode.specs.declared.profile.Kind.TheVariants.{Config, Matcher, SimpleMatcher, FieldTest, Tuple, Texts, Combo, Predicate, SimplePredicate, FieldMatcher, Link, StateLink, State, StateMap, Group, Filter, Event, Count, Value, Gauge, Duration, Activation, Alert}
use Rattle.config_decode.specs.declared.profile.Shape.{Shape}
use Rattle.config_decode.specs.declared.profile.Shape.TheVariants.{Number, Numbers, Text, Message, BucketUnit, ValueAggregation, GaugeSampling, Ignored, Refused}
use Rattle.config_decode.specs.FieldNumbers.{config_event_metric, config_count_metric, config_value_metric, config_gauge_metric, config_duration_metric, config_atom_matcher, config_predicate, config_no_report_metric, config_metric_activation, config_state, config_alert, matcher_id, matcher_simple, matcher_combination, combination_operation, combination_operand, simple_matcher_atom_id, simple_matcher_test, test_field, test_position, test_eq_bool, test_eq_string, test_eq_int, test_lt_int, test_gt_int, test_lte_int, test_gte_int, test_matches_tuple, test_eq_any_string, test_neq_any_string, tuple_test, strings_str_value, predicate_id, predicate_simple, predicate_combination, simple_predicate_start, simple_predicate_stop, simple_predicate_count_nesting, simple_predicate_stop_all, simple_predicate_initial_value, simple_predicate_dimensions, leaf_field, leaf_position, leaf_child, condition_link_condition, condition_link_fields_in_what, condition_link_fields_in_condition, state_link_atom_id, state_link_fields_in_what, state_link_fields_in_state, state_id, state_atom_id, state_map, state_map_group, state_group_id, state_group_value, filter_include_all, filter_fields, metric_id, metric_what, key_bound, metric_activation, activation_start, activation_ttl, activation_cancel, alert_id, alert_metric, alert_threshold, alert_parts, alert_refractory, event_condition, event_links, count_condition, count_dimensions, count_bucket, count_links, count_slice_by_state, count_state_link, count_overflow, value_field, value_condition, value_dimensions, value_bucket, value_links, value_aggregation_type, value_min_bucket_size, value_use_absolute_value_on_reset, value_use_diff, value_direction, value_skip_zero_diff_output, value_use_zero_default_base, value_max_pull_delay, value_split_bucket, value_slice_by_state, value_state_link, gauge_fields_filter, gauge_condition, gauge_dimensions, gauge_bucket, gauge_links, gauge_sampling_type, gauge_min_bucket_size, gauge_max_num_atoms, gauge_trigger_event, gauge_max_pull_delay, gauge_split_bucket, duration_condition, duration_links, duration_aggregation_type, duration_dimensions, duration_bucket, duration_slice_by_state, duration_state_link}

-- which entries of a repeated field are meant
abbrev pub position_of : ℕ → Option Position
position_of number =
    if number == 1 then Some position.First
    else if number == 2 then Some position.Last
    else if number == 3 then Some position.Any
    else if number == 4 then Some position.All
    else None

-- how a combination is joined
abbrev pub operation_of : ℕ → Option Operation
operation_of number =
    if number == 1 then Some And
    else if number == 2 then Some Or
    else if number == 3 then Some Not
    else if number == 4 then Some Nand
    else if number == 5 then Some Nor
    else None

-- the unit of a bucket's size
abbrev pub unit_of : ℕ → Option TimeUnit
unit_of number =
    if number == 1 then Some OneMinute
    else if number == 2 then Some FiveMinutes
    else if number == 3 then Some TenMinutes
    else if number == 4 then Some ThirtyMinutes
    else if number == 5 then Some OneHour
    else if number == 6 then Some ThreeHours
    else if number == 7 then Some SixHours
    else if number == 8 then Some TwelveHours
    else if number == 9 then Some OneDay
    else if number == 1000 then Some Cts
    else None

-- how the values of a bucket come to one
abbrev pub aggregation_of : ℕ → Option Aggregation
aggregation_of number =
    if number == 1 then Some aggregation.Sum
    else if number == 2 then Some aggregation.Min
    else if number == 3 then Some aggregation.Max
    else None

-- which way a value goes
abbrev pub direction_of : ℕ → Option Direction
direction_of number =
    if number == 1 then Some direction.Increasing
    else if number == 2 then Some direction.Decreasing
    else if number == 3 then Some direction.Any
    else None

-- when a gauge takes its samples
abbrev pub sampling_of : ℕ → Option SamplingType
sampling_of number =
    if number == 1 then Some RandomOne
    else if number == 3 then Some ChangeToTrue
    else if number == 4 then Some FirstN
    else None

-- what a predicate is at a key that was never started
abbrev pub initial_value_of : ℕ → Option InitialValue
initial_value_of number =
    if number == 0 then Some initial.Unknown
    else if number == 1 then Some initial.False
    else None

-- how the runs of a duration come to one
abbrev pub runs_of : ℕ → Option Runs
runs_of number =
    if number == 1 then Some runs.Sum
    else if number == 2 then Some runs.MaxSparse
    else None

-- The fields of each message, a row a field. The id of the whole has no place in the tree.
abbrev pub profile_rows : Kind → List (ℕ × Shape)
profile_rows Config =
    (config_event_metric, Message Event)
    ∷ (config_count_metric, Message Count)
    ∷ (config_value_metric, Message Value)
    ∷ (config_gauge_metric, Message Gauge)
    ∷ (config_duration_metric, Message Duration)
    ∷ (config_atom_matcher, Message Matcher)
    ∷ (config_predicate, Message Predicate)
    ∷ (config_no_report_metric, Numbers)
    ∷ (config_metric_activation, Refused)
    ∷ (config_state, Message State)
    ∷ (config_alert, Message Alert)
    ∷ []
profile_rows Matcher =
    (matcher_id, Number)
    ∷ (matcher_simple, Message SimpleMatcher)
    ∷ (matcher_combination, Message Combo)
    ∷ []
profile_rows SimpleMatcher =
    (simple_matcher_atom_id, Number)
    ∷ (simple_matcher_test, Message FieldTest)
    ∷ []
profile_rows FieldTest =
    (test_field, Number)
    ∷ (test_position, Number)
    ∷ (test_eq_bool, Number)
    ∷ (test_eq_string, Text)
    ∷ (test_eq_int, Number)
    ∷ (test_lt_int, Number)
    ∷ (test_gt_int, Number)
    ∷ (test_lte_int, Number)
    ∷ (test_gte_int, Number)
    ∷ (test_matches_tuple, Message Tuple)
    ∷ (test_eq_any_string, Message Texts)
    ∷ (test_neq_any_string, Message Texts)
    ∷ []
profile_rows Tuple =
    (tuple_test, Message FieldTest)
    ∷ []
profile_rows Texts =
    (strings_str_value, Text)
    ∷ []
profile_rows Combo =
    (combination_operation, Number)
    ∷ (combination_operand, Numbers)
    ∷ []
profile_rows Predicate =
    (predicate_id, Number)
    ∷ (predicate_simple, Message SimplePredicate)
    ∷ (predicate_combination, Message Combo)
    ∷ []
profile_rows SimplePredicate =
    (simple_predicate_start, Number)
    ∷ (simple_predicate_stop, Number)
    ∷ (simple_predicate_count_nesting, Number)
    ∷ (simple_predicate_stop_all, Number)
    ∷ (simple_predicate_initial_value, Number)
    ∷ (simple_predicate_dimensions, Message FieldMatcher)
    ∷ (key_bound, Number)
    ∷ []
profile_rows FieldMatcher =
    (leaf_field, Number)
    ∷ (leaf_position, Number)
    ∷ (leaf_child, Message FieldMatcher)
    ∷ []
profile_rows Link =
    (condition_link_condition, Number)
    ∷ (condition_link_fields_in_what, Message FieldMatcher)
    ∷ (condition_link_fields_in_condition, Message FieldMatcher)
    ∷ []
profile_rows StateLink =
    (state_link_atom_id, Number)
    ∷ (state_link_fields_in_what, Message FieldMatcher)
    ∷ (state_link_fields_in_state, Message FieldMatcher)
    ∷ []
profile_rows State =
    (state_id, Number)
    ∷ (state_atom_id, Number)
    ∷ (state_map, Message StateMap)
    ∷ []
profile_rows StateMap =
    (state_map_group, Message Group)
    ∷ []
profile_rows Group =
    (state_group_id, Number)
    ∷ (state_group_value, Numbers)
    ∷ []
profile_rows Filter =
    (filter_include_all, Number)
    ∷ (filter_fields, Message FieldMatcher)
    ∷ []
profile_rows Event =
    (metric_id, Number)
    ∷ (metric_what, Number)
    ∷ (event_condition, Number)
    ∷ (event_links, Message Link)
    ∷ (metric_activation, Message Activation)
    ∷ []
profile_rows Count =
    (metric_id, Number)
    ∷ (metric_what, Number)
    ∷ (count_condition, Number)
    ∷ (count_dimensions, Message FieldMatcher)
    ∷ (count_bucket, BucketUnit)
    ∷ (count_links, Message Link)
    ∷ (count_slice_by_state, Numbers)
    ∷ (count_state_link, Message StateLink)
    ∷ (key_bound, Number)
    ∷ (count_overflow, Number)
    ∷ (metric_activation, Message Activation)
    ∷ []
profile_rows Value =
    (metric_id, Number)
    ∷ (metric_what, Number)
    ∷ (value_field, Message FieldMatcher)
    ∷ (value_condition, Number)
    ∷ (value_dimensions, Message FieldMatcher)
    ∷ (value_bucket, BucketUnit)
    ∷ (value_links, Message Link)
    ∷ (value_aggregation_type, ValueAggregation)
    ∷ (value_min_bucket_size, Ignored)
    ∷ (value_use_absolute_value_on_reset, Number)
    ∷ (value_use_diff, Number)
    ∷ (value_direction, Number)
    ∷ (value_skip_zero_diff_output, Number)
    ∷ (value_use_zero_default_base, Number)
    ∷ (value_max_pull_delay, Ignored)
    ∷ (value_split_bucket, Ignored)
    ∷ (value_slice_by_state, Numbers)
    ∷ (value_state_link, Message StateLink)
    ∷ (key_bound, Number)
    ∷ (metric_activation, Message Activation)
    ∷ []
profile_rows Gauge =
    (metric_id, Number)
    ∷ (metric_what, Number)
    ∷ (gauge_fields_filter, Message Filter)
    ∷ (gauge_condition, Number)
    ∷ (gauge_dimensions, Message FieldMatcher)
    ∷ (gauge_bucket, BucketUnit)
    ∷ (gauge_links, Message Link)
    ∷ (gauge_sampling_type, GaugeSampling)
    ∷ (gauge_min_bucket_size, Ignored)
    ∷ (gauge_max_num_atoms, Number)
    ∷ (gauge_trigger_event, Number)
    ∷ (gauge_max_pull_delay, Ignored)
    ∷ (gauge_split_bucket, Ignored)
    ∷ (key_bound, Number)
    ∷ (metric_activation, Message Activation)
    ∷ []
profile_rows Duration =
    (metric_id, Number)
    ∷ (metric_what, Number)
    ∷ (duration_condition, Number)
    ∷ (duration_links, Message Link)
    ∷ (duration_aggregation_type, Number)
    ∷ (duration_dimensions, Message FieldMatcher)
    ∷ (duration_bucket, BucketUnit)
    ∷ (duration_slice_by_state, Numbers)
    ∷ (duration_state_link, Message StateLink)
    ∷ (key_bound, Number)
    ∷ []
profile_rows Activation =
    (activation_start, Number)
    ∷ (activation_ttl, Number)
    ∷ (activation_cancel, Number)
    ∷ []
profile_rows Alert =
    (alert_id, Number)
    ∷ (alert_metric, Number)
    ∷ (alert_threshold, Number)
    ∷ (alert_parts, Number)
    ∷ (alert_refractory, Number)
    ∷ []

-- what stands in a field that has no row
abbrev pub shape_without_row : Kind → Shape
shape_without_row Config = Ignored
shape_without_row _ = Refused

-- the shape in the row of a number, or another where there is no such row
abbrev pub shape_in : Shape → List (ℕ × Shape) → ℕ → Shape
shape_in other [] number = other
shape_in other ((own, shape) ∷ rows) number = if own == number then shape else shape_in other rows number

-- what stands in a field
abbrev pub shape_of : Kind → ℕ → Shape
shape_of kind number = shape_in (shape_without_row kind) (profile_rows kind) number

-- the low 32 bits
abbrev pub low_half : ℕ → ℕ
low_half number = number % 2 ^ 32

-- the whole configuration
abbrev pub is_top : Kind → Bool
is_top Config = true
is_top _ = false

-- A record of this shape and content isn't supported: the field isn't, a strict enum doesn't have its number, or it has
-- another wire type than its field, which is ignored at the top.
abbrev pub is_unsupported : Kind → Shape → BodyOf → Bool
is_unsupported kind Ignored body = false
is_unsupported kind Refused body = true
is_unsupported kind Number (Varint number) = false
is_unsupported kind Numbers (Varint number) = false
is_unsupported kind Numbers (Bytes bytes) = false
is_unsupported kind Text (Bytes bytes) = false
is_unsupported kind (Message inner) (Bytes bytes) = false
is_unsupported kind BucketUnit (Varint number) = is_none (unit_of (low_half number))
is_unsupported kind ValueAggregation (Varint number) = is_none (aggregation_of (low_half number))
is_unsupported kind GaugeSampling (Varint number) = is_none (sampling_of (low_half number))
is_unsupported kind _ body = not (is_top kind)

-- a record of such a message isn't supported
abbrev pub refuses : Kind → FieldOf → Bool
refuses kind field = is_unsupported kind (shape_of kind field.number) field.body
