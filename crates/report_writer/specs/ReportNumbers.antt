-- The numbers of the fields of a report, by message, as `stats_log.proto` names them. Each is named here alone.
use Rattle.std.specs.Prelude.{ℕ}

-- ConfigMetricsReportList: whose report it is
abbrev pub list_key : ℕ
list_key = 1

-- ConfigMetricsReportList: the report
abbrev pub list_report : ℕ
list_report = 2

-- ConfigKey: the client
abbrev pub key_uid : ℕ
key_uid = 1

-- ConfigKey: the client's configuration
abbrev pub key_id : ℕ
key_id = 2

-- ConfigMetricsReport: each metric
abbrev pub report_metric : ℕ
report_metric = 1

-- ConfigMetricsReport: the clock at the report before
abbrev pub report_last : ℕ
report_last = 3

-- ConfigMetricsReport: the clock
abbrev pub report_now : ℕ
report_now = 4

-- ConfigMetricsReport: what the tables of predicates dropped
abbrev pub report_predicate_drops : ℕ
report_predicate_drops = 1001

-- ConfigMetricsReport: what the tables of states dropped
abbrev pub report_state_drops : ℕ
report_state_drops = 1002

-- ConfigMetricsReport: state atoms whose id met a full table
abbrev pub report_dropped_state_atoms : ℕ
report_dropped_state_atoms = 1003

-- ConfigMetricsReport: each alarm that is listed
abbrev pub report_alarms : ℕ
report_alarms = 1004

-- ConfigMetricsReport: how many alarms aren't listed
abbrev pub report_alarms_not_kept : ℕ
report_alarms_not_kept = 1005

-- PredicateDrops, StateDrops, AlarmsNotKept: the predicate, the atom or the alert
abbrev pub drops_id : ℕ
drops_id = 1

-- PredicateDrops, StateDrops, AlarmsNotKept: how many
abbrev pub drops_number : ℕ
drops_number = 2

-- Alarm: the alert
abbrev pub alarm_alert : ℕ
alarm_alert = 1

-- Alarm: when the key arrived
abbrev pub alarm_time : ℕ
alarm_time = 2

-- Alarm: the key's arrivals in the window
abbrev pub alarm_sum : ℕ
alarm_sum = 3

-- StatsLogReport: the metric
abbrev pub shown_id : ℕ
shown_id = 1

-- StatsLogReport: the rows of an event metric
abbrev pub shown_events : ℕ
shown_events = 4

-- StatsLogReport: the rows of a count metric
abbrev pub shown_counts : ℕ
shown_counts = 5

-- StatsLogReport: the rows of a duration metric
abbrev pub shown_durations : ℕ
shown_durations = 6

-- StatsLogReport: the rows of a value metric
abbrev pub shown_values : ℕ
shown_values = 7

-- StatsLogReport: the rows of a gauge metric
abbrev pub shown_gauges : ℕ
shown_gauges = 8

-- StatsLogReport: where the first bucket begins
abbrev pub shown_base : ℕ
shown_base = 9

-- StatsLogReport: how long a bucket is
abbrev pub shown_size : ℕ
shown_size = 10

-- StatsLogReport: arrivals that met a full bucket
abbrev pub shown_dropped : ℕ
shown_dropped = 1001

-- StatsLogReport: rows past those that are kept
abbrev pub shown_not_kept : ℕ
shown_not_kept = 1002

-- StatsLogReport: snapshots that weren't there
abbrev pub shown_missing : ℕ
shown_missing = 1003

-- the wrappers of rows: each row
abbrev pub wrapper_data : ℕ
wrapper_data = 1

-- EventMetricData: when the atom was logged
abbrev pub event_time : ℕ
event_time = 1

-- EventMetricData: the atom
abbrev pub event_atom : ℕ
event_atom = 2

-- data of the other kinds: each bucket
abbrev pub data_bucket : ℕ
data_bucket = 3

-- data of the other kinds, Alarm: each value of the key
abbrev pub data_leaf : ℕ
data_leaf = 4

-- data of the other kinds, Alarm: each slice of the key
abbrev pub data_slice : ℕ
data_slice = 6

-- data of the kinds with numbers: 1 where the row gathers what found no room
abbrev pub data_overflow : ℕ
data_overflow = 1001

-- their bucket_info: where it begins
abbrev pub bucket_start : ℕ
bucket_start = 1

-- their bucket_info: where it ends
abbrev pub bucket_end : ℕ
bucket_end = 2

-- their bucket_info: the count, the duration or the value
abbrev pub bucket_number : ℕ
bucket_number = 3

-- their bucket_info: each atom that was sampled
abbrev pub bucket_atom : ℕ
bucket_atom = 3

-- DimensionsValue: a text
abbrev pub dimension_str : ℕ
dimension_str = 2

-- DimensionsValue: a number of four bytes
abbrev pub dimension_int : ℕ
dimension_int = 3

-- DimensionsValue: a number of eight bytes
abbrev pub dimension_long : ℕ
dimension_long = 4

-- DimensionsValue: a truth
abbrev pub dimension_bool : ℕ
dimension_bool = 5

-- DimensionsValue: a float as its four bytes
abbrev pub dimension_float : ℕ
dimension_float = 6

-- DimensionsValue: the place of the leaf in the key
abbrev pub dimension_place : ℕ
dimension_place = 1001

-- DimensionsValue: a string of bytes
abbrev pub dimension_raw : ℕ
dimension_raw = 1002

-- StateValue: the state's atom
abbrev pub slice_atom_id : ℕ
slice_atom_id = 1

-- StateValue: the group that lists the state
abbrev pub slice_group_id : ℕ
slice_group_id = 2

-- StateValue: the state itself
abbrev pub slice_value : ℕ
slice_value = 3

-- the greatest number that a field may have
abbrev pub greatest_field_number : ℕ
greatest_field_number = 536870911
