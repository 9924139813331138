-- Metrics, from the records of their messages.
use Rattle.std.specs.Prelude.{◌≡◌, ℕ, Bool, true, false, List, [], map, Option}
use Rattle.std.specs.Option.{option_map, unwrap_or}
use Rattle.proto_wire.specs.Fields.{FieldOf}
use Rattle.config_types.specs.declared.fields.FieldMatcher.{FieldMatcher}
use Rattle.config_types.specs.declared.metric.ActivationDef.{ActivationDef}
use Rattle.config_types.specs.declared.metric.LinkDef.{LinkDef}
use Rattle.config_types.specs.declared.metric.StateLinkDef.{StateLinkDef}
use Rattle.config_types.specs.declared.metric.Common.{Common}
use Rattle.config_types.specs.declared.metric.Sliced.{Sliced}
use Rattle.config_types.specs.declared.metric.EventDef.{EventDef}
use Rattle.config_types.specs.declared.metric.CountDef.{CountDef}
use Rattle.config_types.specs.declared.metric.ValueDef.{ValueDef}
use Rattle.config_types.specs.declared.metric.GaugeDef.{GaugeDef}
use Rattle.config_types.specs.declared.metric.DurationDef.{DurationDef}
use Rattle.config_types.specs.declared.metric.Aggregation.TheVariants as aggregation
use Rattle.config_types.specs.declared.metric.Direction.TheVariants as direction
use Rattle.config_types.specs.declared.metric.SamplingType.TheVariants as sampling
use Rattle.config_decode.specs.declared.profile.Kind.{Kind}
use Rattle.config_decode.specs.declared.profile.Kind.TheVariants as kind
use Rattle.config_decode.specs.declared.scalar.Runs.{Runs}
use Rattle.config_decode.specs.declared.scalar.Runs.TheVariants as runs
use Rattle.config_decode.specs.FieldNumbers.{condition_link_condition, condition_link_fields_in_what, condition_link_fields_in_condition, state_link_atom_id, state_link_fields_in_what, state_link_fields_in_state, filter_include_all, filter_fields, metric_id, metric_what, key_bound, metric_activation, activation_start, activation_ttl, activation_cancel, event_condition, event_links, count_condition, count_dimensions, count_bucket, count_links, count_slice_by_state, count_state_link, count_overflow, value_field, value_condition, value_dimensions, value_bucket, value_links, value_aggregation_type, value_use_absolute_value_on_reset, value_use_diff, value_direction, value_skip_zero_diff_output, value_use_zero_default_base, value_slice_by_state, value_state_link, gauge_fields_filter, gauge_condition, gauge_dimensions, gauge_bucket, gauge_links, gauge_sampling_type, gauge_max_num_atoms, gauge_trigger_event, duration_condition, duration_links, duration_aggregation_type, duration_dimensions, duration_bucket, duration_slice_by_state, duration_state_link}
use Rattle.config_decode.specs.Profile.{unit_of, aggregation_of, direction_of, sampling_of, runs_of}
use Rattle.config_decode.specs.Values.{int64_field, int32_field, bool_field, enum_field, int64_fields, messages, listed_messages, message}
use Rattle.config_decode.specs.Tree.{field_matcher_of}

-- fields of an atom, in the message of this number
abbrev pub fields_at : ℕ → List FieldOf → Option FieldMatcher
fields_at number fields = option_map field_matcher_of (message number fields)

-- a link from a metric to a condition
abbrev pub link_of : List FieldOf → LinkDef
link_of fields = record {
  condition = int64_field condition_link_condition fields;
  in_what = fields_at condition_link_fields_in_what fields;
  in_condition = fields_at condition_link_fields_in_condition fields;
}

-- a link from a metric to a state
abbrev pub state_link_of : List FieldOf → StateLinkDef
state_link_of fields = record {
  atom_id = int32_field state_link_atom_id fields;
  in_what = fields_at state_link_fields_in_what fields;
  in_state = fields_at state_link_fields_in_state fields;
}

-- what makes a metric active for a while
abbrev pub activation_of : List FieldOf → ActivationDef
activation_of fields = record {
  start = int64_field activation_start fields;
  ttl = int64_field activation_ttl fields;
  cancel = int64_field activation_cancel fields;
}

-- what a metric of every kind has, where the condition and the links have these numbers
abbrev pub common_of : Kind → ℕ → ℕ → List FieldOf → Common
common_of kind condition links fields = record {
  id = int64_field metric_id fields;
  what = int64_field metric_what fields;
  condition = int64_field condition fields;
  links = map link_of (messages links fields);
  activations = map activation_of (listed_messages kind metric_activation fields);
}

-- what a metric with buckets has that isn't sliced by states, where the key and the bucket have these numbers
abbrev pub unsliced_of : ℕ → ℕ → List FieldOf → Sliced
unsliced_of dims bucket fields = record {
  dims = fields_at dims fields;
  bucket = enum_field unit_of bucket fields;
  bound = int32_field key_bound fields;
  slices = [];
  state_links = [];
}

-- what a metric with buckets and slices has, where the key, the bucket, the slices and their links have these numbers
abbrev pub sliced_of : ℕ → ℕ → ℕ → ℕ → List FieldOf → Sliced
sliced_of dims bucket slices links fields = record {
  dims = fields_at dims fields;
  bucket = enum_field unit_of bucket fields;
  bound = int32_field key_bound fields;
  slices = int64_fields slices fields;
  state_links = map state_link_of (messages links fields);
}

-- a metric that lists atoms
abbrev pub event_of : List FieldOf → EventDef
event_of fields = record { common = common_of kind.Event event_condition event_links fields }

-- a metric that counts: without an overflow row by default
abbrev pub count_of : List FieldOf → CountDef
count_of fields = record {
  common = common_of kind.Count count_condition count_links fields;
  sliced = sliced_of count_dimensions count_bucket count_slice_by_state count_state_link fields;
  overflow = unwrap_or (bool_field count_overflow fields) false;
}

-- a metric of values: sums by default, of values that go up, where a difference of zero is left out
abbrev pub value_of : List FieldOf → ValueDef
value_of fields = record {
  common = common_of kind.Value value_condition value_links fields;
  sliced = sliced_of value_dimensions value_bucket value_slice_by_state value_state_link fields;
  field = fields_at value_field fields;
  agg = unwrap_or (enum_field aggregation_of value_aggregation_type fields) aggregation.Sum;
  abs_reset = unwrap_or (bool_field value_use_absolute_value_on_reset fields) false;
  diff = bool_field value_use_diff fields;
  direction = unwrap_or (enum_field direction_of value_direction fields) direction.Increasing;
  skip_zero = unwrap_or (bool_field value_skip_zero_diff_output fields) true;
  zero_base = unwrap_or (bool_field value_use_zero_default_base fields) false;
}

-- the filter of a gauge that has none says as little as an empty one
abbrev pub filter_of : Option (List FieldOf) → List FieldOf
filter_of filter = unwrap_or filter []

-- these are what a gauge's filter says of its samples: whether they have all entries, and which they have else
pub record IsGaugeFilter (filter : List FieldOf) (include_all : Bool) (entries : Option FieldMatcher) : Type 0 where
  pub whole : include_all ≡ unwrap_or (bool_field filter_include_all filter) false
  pub named : entries ≡ fields_at filter_fields filter

-- a metric of samples: one at random by default
abbrev pub gauge_of : List FieldOf → GaugeDef
gauge_of fields =
    let filter = filter_of (message gauge_fields_filter fields) in
    record {
      common = common_of kind.Gauge gauge_condition gauge_links fields;
      sliced = unsliced_of gauge_dimensions gauge_bucket fields;
      include_all = unwrap_or (bool_field filter_include_all filter) false;
      fields = fields_at filter_fields filter;
      sampling = unwrap_or (enum_field sampling_of gauge_sampling_type fields) sampling.RandomOne;
      max_samples = int64_field gauge_max_num_atoms fields;
      trigger = int64_field gauge_trigger_event fields;
    }

-- whether the longest run counts, and not the sum of all
abbrev pub keeps_longest : Runs → Bool
keeps_longest runs.Sum = false
keeps_longest runs.MaxSparse = true

-- a metric of durations: sums by default
abbrev pub duration_of : List FieldOf → DurationDef
duration_of fields = record {
  common = common_of kind.Duration duration_condition duration_links fields;
  sliced = sliced_of duration_dimensions duration_bucket duration_slice_by_state duration_state_link fields;
  max_sparse = keeps_longest (unwrap_or (enum_field runs_of duration_aggregation_type fields) runs.Sum);
}
