-- The one spelling of a report as bytes: fields in rising number, repeated ones in their order, numbers in their
-- shortest form. Every field is there, also where it is 0, but for those that are said to be left out.
use Rattle.std.specs.Prelude.{ℕ, ℤ, Bool, nat_lt, List, [], ◌++◌, Option, Some, None, if◌then◌else◌}
use Rattle.std.specs.List.{flat_map}
use Rattle.std.specs.Int.{w64, cast_unsigned}
use Rattle.atom_record.specs.declared.value.Value.{Value}
use Rattle.atom_record.specs.declared.value.Value.TheVariants as held
use Rattle.atom_record.specs.declared.value.Slice.{Slice}
use Rattle.atom_record.specs.declared.value.Slice.TheVariants.{Plain, Group}
use Rattle.proto_wire.specs.Spelling.{varint_field, bytes_field, fixed32_field}
use Rattle.report_writer.specs.ReportNumbers as field
use Rattle.report_writer.specs.declared.tree.LeafTree.{LeafTree}
use Rattle.report_writer.specs.declared.tree.NumBucket.{NumBucket}
use Rattle.report_writer.specs.declared.tree.NumTree.{NumTree}
use Rattle.report_writer.specs.declared.tree.Part.{Part}
use Rattle.report_writer.specs.declared.tree.PartBody.{PartBody}
use Rattle.report_writer.specs.declared.tree.PartBody.TheVariants.{Num, Chunk, Bits}
use Rattle.report_writer.specs.declared.tree.AtomMsg.{AtomMsg}
use Rattle.report_writer.specs.declared.tree.AtomBucket.{AtomBucket}
use Rattle.report_writer.specs.declared.tree.GaugeTree.{GaugeTree}
use Rattle.report_writer.specs.declared.tree.EventTree.{EventTree}
use Rattle.report_writer.specs.declared.tree.MetricBody.{MetricBody}
use Rattle.report_writer.specs.declared.tree.MetricBody.TheVariants.{Events, Counts, Durations, Values, Gauges}
use Rattle.report_writer.specs.declared.tree.MetricTree.{MetricTree}
use Rattle.report_writer.specs.declared.tree.Drop64.{Drop64}
use Rattle.report_writer.specs.declared.tree.AlarmTree.{AlarmTree}
use Rattle.report_writer.specs.declared.tree.ReportTree.{ReportTree}

-- a number that may be below 0 is spelled as the 64 bits of its two's complement
abbrev pub signed_field : ℕ → ℤ → List ℕ
signed_field number value = varint_field number (cast_unsigned w64 value)

-- a number that is left out where it is 0
abbrev pub field_if_above : ℕ → ℕ → List ℕ
field_if_above number value = if nat_lt 0 value then varint_field number value else []

-- a truth as a number
abbrev pub truth_number : Bool → ℕ
truth_number truth = if truth then 1 else 0

-- a field of this number for each of these, which holds its message
abbrev pub repeated_field : {X : Type 0} → ℕ → (X → List ℕ) → List X → List ℕ
repeated_field number message items = flat_map (λ item. bytes_field number (message item)) items

-- the value of a leaf, but for raw bytes, whose number is above that of the place
abbrev pub leaf_value_field : Option Value → List ℕ
leaf_value_field None = []
leaf_value_field (Some (held.Int value)) = signed_field field.dimension_int value
leaf_value_field (Some (held.Long value)) = signed_field field.dimension_long value
leaf_value_field (Some (held.Bool value)) = varint_field field.dimension_bool (truth_number value)
leaf_value_field (Some (held.Str text)) = bytes_field field.dimension_str text
leaf_value_field (Some (held.Raw bytes)) = []
leaf_value_field (Some (held.Bits32 bits)) = fixed32_field field.dimension_float bits

-- the raw bytes of a leaf, if its value is such
abbrev pub leaf_raw_field : Option Value → List ℕ
leaf_raw_field None = []
leaf_raw_field (Some (held.Int value)) = []
leaf_raw_field (Some (held.Long value)) = []
leaf_raw_field (Some (held.Bool value)) = []
leaf_raw_field (Some (held.Str text)) = []
leaf_raw_field (Some (held.Raw bytes)) = bytes_field field.dimension_raw bytes
leaf_raw_field (Some (held.Bits32 bits)) = []

-- one value of a key; a leaf without a value has neither of its fields
unfoldable pub leaf_message : LeafTree → List ℕ
leaf_message leaf =
    leaf_value_field leaf.value ++ (field_if_above field.dimension_place leaf.place ++ leaf_raw_field leaf.value)

-- a state's value, or the group that lists it
unfoldable pub slice_message : Slice → List ℕ
slice_message (Plain atom_id value) =
    varint_field field.slice_atom_id atom_id ++ signed_field field.slice_value value
slice_message (Group atom_id group) =
    varint_field field.slice_atom_id atom_id ++ signed_field field.slice_group_id group

-- a bucket with its number
unfoldable pub bucket_message : NumBucket → List ℕ
bucket_message bucket =
    varint_field field.bucket_start bucket.start
    ++ (varint_field field.bucket_end bucket.end ++ signed_field field.bucket_number bucket.value)

-- the fields by which rows of one metric are told apart, and the alarms of one alert
abbrev pub key_fields : List LeafTree → List Slice → List ℕ
key_fields leaves slices =
    repeated_field field.data_leaf leaf_message leaves ++ repeated_field field.data_slice slice_message slices

-- the buckets of one key, or of an overflow row, which says so last
unfoldable pub row_message : NumTree → List ℕ
row_message row =
    repeated_field field.data_bucket bucket_message row.buckets
    ++ (key_fields row.leaves row.slices ++ field_if_above field.data_overflow (truth_number row.overflow))

-- a field of an atom, by what it holds
abbrev pub part_with : ℕ → PartBody → List ℕ
part_with number (Num value) = varint_field number value
part_with number (Chunk bytes) = bytes_field number bytes
part_with number (Bits bits) = fixed32_field number bits

-- one field of an atom
abbrev pub part_field : Part → List ℕ
part_field part = part_with part.number part.body

-- an atom: one field, which holds the atom's own
unfoldable pub atom_message : AtomMsg → List ℕ
atom_message atom = bytes_field atom.id (flat_map part_field atom.parts)

-- a bucket with the atoms that were sampled in it
unfoldable pub samples_message : AtomBucket → List ℕ
samples_message bucket =
    varint_field field.bucket_start bucket.start
    ++ (varint_field field.bucket_end bucket.end ++ repeated_field field.bucket_atom atom_message bucket.atoms)

-- the buckets of one key of a gauge
unfoldable pub gauge_message : GaugeTree → List ℕ
gauge_message row = repeated_field field.data_bucket samples_message row.buckets ++ key_fields row.leaves row.slices

-- an atom and when it was logged
unfoldable pub event_message : EventTree → List ℕ
event_message event = varint_field field.event_time event.at ++ bytes_field field.event_atom (atom_message event.atom)

-- rows of a metric, in a field that is there even if there is no row
abbrev pub wrapper_field : {X : Type 0} → ℕ → (X → List ℕ) → List X → List ℕ
wrapper_field number message rows = bytes_field number (repeated_field field.wrapper_data message rows)

-- the rows of a metric, in a field by the metric's kind
abbrev pub rows_field : MetricBody → List ℕ
rows_field (Events rows) = wrapper_field field.shown_events event_message rows
rows_field (Counts rows) = wrapper_field field.shown_counts row_message rows
rows_field (Durations rows) = wrapper_field field.shown_durations row_message rows
rows_field (Values rows) = wrapper_field field.shown_values row_message rows
rows_field (Gauges rows) = wrapper_field field.shown_gauges gauge_message rows

-- how long a bucket is; an event metric has none
abbrev pub size_field : MetricBody → ℕ → List ℕ
size_field (Events rows) size = []
size_field (Counts rows) size = varint_field field.shown_size size
size_field (Durations rows) size = varint_field field.shown_size size
size_field (Values rows) size = varint_field field.shown_size size
size_field (Gauges rows) size = varint_field field.shown_size size

-- what a metric didn't show, each number only where it is above 0
abbrev pub unshown_fields : MetricTree → List ℕ
unshown_fields metric =
    field_if_above field.shown_dropped metric.dropped
    ++ (field_if_above field.shown_not_kept metric.not_kept ++ field_if_above field.shown_missing metric.missing)

-- one metric
unfoldable pub metric_message : MetricTree → List ℕ
metric_message metric =
    signed_field field.shown_id metric.id
    ++ (rows_field metric.body
    ++ (varint_field field.shown_base metric.base
    ++ (size_field metric.body metric.size ++ unshown_fields metric)))

-- how many were dropped, by an id
unfoldable pub drop_message : Drop64 → List ℕ
drop_message drop = signed_field field.drops_id drop.id ++ varint_field field.drops_number drop.number

-- an alarm, with the key that went above the alert's threshold
unfoldable pub alarm_message : AlarmTree → List ℕ
alarm_message alarm =
    signed_field field.alarm_alert alarm.id
    ++ (varint_field field.alarm_time alarm.at
    ++ (varint_field field.alarm_sum alarm.sum ++ key_fields alarm.leaves alarm.slices))

-- whose report it is
unfoldable pub key_message : ReportTree → List ℕ
key_message tree = signed_field field.key_uid tree.uid ++ signed_field field.key_id tree.id

-- the fields that say what full tables dropped
abbrev pub drops_fields : ReportTree → List ℕ
drops_fields tree =
    repeated_field field.report_predicate_drops drop_message tree.predicate_drops
    ++ (repeated_field field.report_state_drops drop_message tree.state_drops
    ++ field_if_above field.report_dropped_state_atoms tree.state_atoms_dropped)

-- the fields that tell the alarms, and how many aren't listed
abbrev pub alarms_fields : ReportTree → List ℕ
alarms_fields tree =
    repeated_field field.report_alarms alarm_message tree.alarms
    ++ repeated_field field.report_alarms_not_kept drop_message tree.alarms_not_kept

-- the part of a report that speaks of one configuration
unfoldable pub config_message : ReportTree → List ℕ
config_message tree =
    repeated_field field.report_metric metric_message tree.metrics
    ++ (varint_field field.report_last tree.last
    ++ (varint_field field.report_now tree.now ++ (drops_fields tree ++ alarms_fields tree)))

-- a report
unfoldable pub report_message : ReportTree → List ℕ
report_message tree =
    bytes_field field.list_key (key_message tree) ++ bytes_field field.list_report (config_message tree)
