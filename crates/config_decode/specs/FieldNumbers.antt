-- The numbers of the fields, by message, as `statsd_config.proto` names them. Each is named here alone.
use Rattle.std.specs.Prelude.{ℕ}

-- the whole: `StatsdConfig.event_metric`
abbrev pub config_event_metric : ℕ
config_event_metric = 2

-- `StatsdConfig.count_metric`
abbrev pub config_count_metric : ℕ
config_count_metric = 3

-- `StatsdConfig.value_metric`
abbrev pub config_value_metric : ℕ
config_value_metric = 4

-- `StatsdConfig.gauge_metric`
abbrev pub config_gauge_metric : ℕ
config_gauge_metric = 5

-- `StatsdConfig.duration_metric`
abbrev pub config_duration_metric : ℕ
config_duration_metric = 6

-- `StatsdConfig.atom_matcher`
abbrev pub config_atom_matcher : ℕ
config_atom_matcher = 7

-- `StatsdConfig.predicate`
abbrev pub config_predicate : ℕ
config_predicate = 8

-- `StatsdConfig.no_report_metric`
abbrev pub config_no_report_metric : ℕ
config_no_report_metric = 13

-- the activation of metrics in `StatsdConfig`, which is refused
abbrev pub config_metric_activation : ℕ
config_metric_activation = 17

-- `StatsdConfig.state`
abbrev pub config_state : ℕ
config_state = 21

-- `StatsdConfig.alert`, which is this project's own
abbrev pub config_alert : ℕ
config_alert = 1011

-- a matcher: `AtomMatcher.id`
abbrev pub matcher_id : ℕ
matcher_id = 1

-- `AtomMatcher.simple_atom_matcher`
abbrev pub matcher_simple : ℕ
matcher_simple = 2

-- `AtomMatcher.combination`
abbrev pub matcher_combination : ℕ
matcher_combination = 3

-- a combination, of matchers or of predicates: `Combination.operation`
abbrev pub combination_operation : ℕ
combination_operation = 1

-- `Combination.predicate`
abbrev pub combination_operand : ℕ
combination_operand = 2

-- a matcher of atoms: `SimpleAtomMatcher.atom_id`
abbrev pub simple_matcher_atom_id : ℕ
simple_matcher_atom_id = 1

-- `SimpleAtomMatcher.field_value_matcher`
abbrev pub simple_matcher_test : ℕ
simple_matcher_test = 2

-- a test of a field: `FieldValueMatcher.field`
abbrev pub test_field : ℕ
test_field = 1

-- `FieldValueMatcher.position`
abbrev pub test_position : ℕ
test_position = 2

-- `FieldValueMatcher.eq_bool`
abbrev pub test_eq_bool : ℕ
test_eq_bool = 3

-- `FieldValueMatcher.eq_string`
abbrev pub test_eq_string : ℕ
test_eq_string = 4

-- `FieldValueMatcher.eq_int`
abbrev pub test_eq_int : ℕ
test_eq_int = 5

-- `FieldValueMatcher.lt_int`
abbrev pub test_lt_int : ℕ
test_lt_int = 6

-- `FieldValueMatcher.gt_int`
abbrev pub test_gt_int : ℕ
test_gt_int = 7

-- `FieldValueMatcher.lte_int`
abbrev pub test_lte_int : ℕ
test_lte_int = 10

-- `FieldValueMatcher.gte_int`
abbrev pub test_gte_int : ℕ
test_gte_int = 11

-- `FieldValueMatcher.matches_tuple`
abbrev pub test_matches_tuple : ℕ
test_matches_tuple = 12

-- `FieldValueMatcher.eq_any_string`
abbrev pub test_eq_any_string : ℕ
test_eq_any_string = 13

-- `FieldValueMatcher.neq_any_string`
abbrev pub test_neq_any_string : ℕ
test_neq_any_string = 14

-- the tests of a tuple: `MessageMatcher.field_value_matcher`
abbrev pub tuple_test : ℕ
tuple_test = 1

-- a list of strings: `StringListMatcher.str_value`
abbrev pub strings_str_value : ℕ
strings_str_value = 1

-- a predicate: `Predicate.id`
abbrev pub predicate_id : ℕ
predicate_id = 1

-- `Predicate.simple_predicate`
abbrev pub predicate_simple : ℕ
predicate_simple = 2

-- `Predicate.combination`
abbrev pub predicate_combination : ℕ
predicate_combination = 3

-- a predicate of atoms: `SimplePredicate.start`
abbrev pub simple_predicate_start : ℕ
simple_predicate_start = 1

-- `SimplePredicate.stop`
abbrev pub simple_predicate_stop : ℕ
simple_predicate_stop = 2

-- `SimplePredicate.count_nesting`
abbrev pub simple_predicate_count_nesting : ℕ
simple_predicate_count_nesting = 3

-- `SimplePredicate.stop_all`
abbrev pub simple_predicate_stop_all : ℕ
simple_predicate_stop_all = 4

-- `SimplePredicate.initial_value`
abbrev pub simple_predicate_initial_value : ℕ
simple_predicate_initial_value = 5

-- `SimplePredicate.dimensions`
abbrev pub simple_predicate_dimensions : ℕ
simple_predicate_dimensions = 6

-- a tree of field numbers: `FieldMatcher.field`
abbrev pub leaf_field : ℕ
leaf_field = 1

-- `FieldMatcher.position`
abbrev pub leaf_position : ℕ
leaf_position = 2

-- `FieldMatcher.child`
abbrev pub leaf_child : ℕ
leaf_child = 3

-- a link to a condition: `MetricConditionLink.condition`
abbrev pub condition_link_condition : ℕ
condition_link_condition = 1

-- `MetricConditionLink.fields_in_what`
abbrev pub condition_link_fields_in_what : ℕ
condition_link_fields_in_what = 2

-- `MetricConditionLink.fields_in_condition`
abbrev pub condition_link_fields_in_condition : ℕ
condition_link_fields_in_condition = 3

-- a link to a state: `MetricStateLink.state_atom_id`
abbrev pub state_link_atom_id : ℕ
state_link_atom_id = 1

-- `MetricStateLink.fields_in_what`
abbrev pub state_link_fields_in_what : ℕ
state_link_fields_in_what = 2

-- `MetricStateLink.fields_in_state`
abbrev pub state_link_fields_in_state : ℕ
state_link_fields_in_state = 3

-- a state: `State.id`
abbrev pub state_id : ℕ
state_id = 1

-- `State.atom_id`
abbrev pub state_atom_id : ℕ
state_atom_id = 2

-- `State.map`
abbrev pub state_map : ℕ
state_map = 3

-- the groups of a state: `StateMap.group`
abbrev pub state_map_group : ℕ
state_map_group = 1

-- a group of a state's values: `StateGroup.group_id`
abbrev pub state_group_id : ℕ
state_group_id = 1

-- `StateGroup.value`
abbrev pub state_group_value : ℕ
state_group_value = 2

-- the fields that a gauge samples: `FieldFilter.include_all`
abbrev pub filter_include_all : ℕ
filter_include_all = 1

-- `FieldFilter.fields`
abbrev pub filter_fields : ℕ
filter_fields = 2

-- every metric
abbrev pub metric_id : ℕ
metric_id = 1

-- what every metric counts, or is of
abbrev pub metric_what : ℕ
metric_what = 2

-- how many keys a metric with buckets or a simple predicate holds
abbrev pub key_bound : ℕ
key_bound = 1001

-- what makes a metric active, unless it is one of durations
abbrev pub metric_activation : ℕ
metric_activation = 1010

-- an activation: `Activation.start`
abbrev pub activation_start : ℕ
activation_start = 1

-- `Activation.ttl_seconds`
abbrev pub activation_ttl : ℕ
activation_ttl = 2

-- `Activation.cancel`
abbrev pub activation_cancel : ℕ
activation_cancel = 3

-- an alert: `Alert.id`
abbrev pub alert_id : ℕ
alert_id = 1

-- `Alert.metric`
abbrev pub alert_metric : ℕ
alert_metric = 2

-- `Alert.threshold`
abbrev pub alert_threshold : ℕ
alert_threshold = 3

-- `Alert.parts`
abbrev pub alert_parts : ℕ
alert_parts = 4

-- `Alert.refractory_seconds`
abbrev pub alert_refractory : ℕ
alert_refractory = 5

-- an event metric: `EventMetric.condition`
abbrev pub event_condition : ℕ
event_condition = 3

-- `EventMetric.links`
abbrev pub event_links : ℕ
event_links = 4

-- a count metric: `CountMetric.condition`
abbrev pub count_condition : ℕ
count_condition = 3

-- `CountMetric.dimensions_in_what`
abbrev pub count_dimensions : ℕ
count_dimensions = 4

-- `CountMetric.bucket`
abbrev pub count_bucket : ℕ
count_bucket = 5

-- `CountMetric.links`
abbrev pub count_links : ℕ
count_links = 6

-- `CountMetric.slice_by_state`
abbrev pub count_slice_by_state : ℕ
count_slice_by_state = 8

-- `CountMetric.state_link`
abbrev pub count_state_link : ℕ
count_state_link = 9

-- whether a count metric gathers what finds no room
abbrev pub count_overflow : ℕ
count_overflow = 1002

-- a value metric: `ValueMetric.value_field`
abbrev pub value_field : ℕ
value_field = 3

-- `ValueMetric.condition`
abbrev pub value_condition : ℕ
value_condition = 4

-- `ValueMetric.dimensions_in_what`
abbrev pub value_dimensions : ℕ
value_dimensions = 5

-- `ValueMetric.bucket`
abbrev pub value_bucket : ℕ
value_bucket = 6

-- `ValueMetric.links`
abbrev pub value_links : ℕ
value_links = 7

-- `ValueMetric.aggregation_type`
abbrev pub value_aggregation_type : ℕ
value_aggregation_type = 8

-- the smallest bucket of a `ValueMetric`, without effect
abbrev pub value_min_bucket_size : ℕ
value_min_bucket_size = 10

-- `ValueMetric.use_absolute_value_on_reset`
abbrev pub value_use_absolute_value_on_reset : ℕ
value_use_absolute_value_on_reset = 11

-- `ValueMetric.use_diff`
abbrev pub value_use_diff : ℕ
value_use_diff = 12

-- `ValueMetric.value_direction`
abbrev pub value_direction : ℕ
value_direction = 13

-- `ValueMetric.skip_zero_diff_output`
abbrev pub value_skip_zero_diff_output : ℕ
value_skip_zero_diff_output = 14

-- `ValueMetric.use_zero_default_base`
abbrev pub value_use_zero_default_base : ℕ
value_use_zero_default_base = 15

-- the longest delay of a pull of a `ValueMetric`, without effect
abbrev pub value_max_pull_delay : ℕ
value_max_pull_delay = 16

-- how a `ValueMetric` splits its buckets, without effect
abbrev pub value_split_bucket : ℕ
value_split_bucket = 17

-- `ValueMetric.slice_by_state`
abbrev pub value_slice_by_state : ℕ
value_slice_by_state = 18

-- `ValueMetric.state_link`
abbrev pub value_state_link : ℕ
value_state_link = 19

-- a gauge metric: `GaugeMetric.gauge_fields_filter`
abbrev pub gauge_fields_filter : ℕ
gauge_fields_filter = 3

-- `GaugeMetric.condition`
abbrev pub gauge_condition : ℕ
gauge_condition = 4

-- `GaugeMetric.dimensions_in_what`
abbrev pub gauge_dimensions : ℕ
gauge_dimensions = 5

-- `GaugeMetric.bucket`
abbrev pub gauge_bucket : ℕ
gauge_bucket = 6

-- `GaugeMetric.links`
abbrev pub gauge_links : ℕ
gauge_links = 7

-- `GaugeMetric.sampling_type`
abbrev pub gauge_sampling_type : ℕ
gauge_sampling_type = 9

-- the smallest bucket of a `GaugeMetric`, without effect
abbrev pub gauge_min_bucket_size : ℕ
gauge_min_bucket_size = 10

-- `GaugeMetric.max_num_gauge_atoms_per_bucket`
abbrev pub gauge_max_num_atoms : ℕ
gauge_max_num_atoms = 11

-- `GaugeMetric.trigger_event`
abbrev pub gauge_trigger_event : ℕ
gauge_trigger_event = 12

-- the longest delay of a pull of a `GaugeMetric`, without effect
abbrev pub gauge_max_pull_delay : ℕ
gauge_max_pull_delay = 13

-- how a `GaugeMetric` splits its buckets, without effect
abbrev pub gauge_split_bucket : ℕ
gauge_split_bucket = 14

-- a duration metric: `DurationMetric.condition`
abbrev pub duration_condition : ℕ
duration_condition = 3

-- `DurationMetric.links`
abbrev pub duration_links : ℕ
duration_links = 4

-- `DurationMetric.aggregation_type`
abbrev pub duration_aggregation_type : ℕ
duration_aggregation_type = 5

-- `DurationMetric.dimensions_in_what`
abbrev pub duration_dimensions : ℕ
duration_dimensions = 6

-- `DurationMetric.bucket`
abbrev pub duration_bucket : ℕ
duration_bucket = 7

-- `DurationMetric.slice_by_state`
abbrev pub duration_slice_by_state : ℕ
duration_slice_by_state = 9

-- `DurationMetric.state_link`
abbrev pub duration_state_link : ℕ
duration_state_link = 10
