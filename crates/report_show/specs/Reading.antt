-- Reading a report's bytes as a tree. Every list of bytes has a tree here: what isn't there, or isn't of its type, is
-- 0 or empty. Bytes are a report exactly where the tree that is read is well-formed and spelled so.
use Rattle.std.specs.Prelude.{ℕ, ◌%◌, ◌^◌, not, ◌==◌, List, [], ◌∷◌, map, drop, Option, None, Some, if◌then◌else◌}
use Rattle.std.specs.Int.{w32, w64, cast_signed}
use Rattle.std.specs.List.{flat_map}
use Rattle.atom_record.specs.declared.value.Value.{Value}
use Rattle.atom_record.specs.declared.value.Value.TheVariants as held
use Rattle.atom_record.specs.declared.value.Slice.{Slice}
use Rattle.atom_record.specs.declared.value.Slice.TheVariants.{Plain, Group}
use Rattle.proto_wire.specs.Fields.{BodyOf, Varint, Fixed64, Bytes, Fixed32, FieldOf, Rest}
use Rattle.proto_wire.specs.Fields as wire
use Rattle.proto_wire.specs.WireReading.{walk_from}
use Rattle.report_writer.specs.ReportNumbers as field
use Rattle.report_writer.specs.declared.tree.LeafTree.{LeafTree}
use Rattle.report_writer.specs.declared.tree.NumBucket.{NumBucket}
use Rattle.report_writer.specs.declared.tree.NumTree.{NumTree}
use Rattle.report_writer.specs.declared.tree.Part.{Part}
use Rattle.report_writer.specs.declared.tree.PartBody.{PartBody}
use Rattle.report_writer.specs.declared.tree.PartBody.TheVariants.{Num, Chunk, Bits}
use Rattle.report_writer.specs.declared.tree.AtomMsg.{AtomMsg}
use Rattle.report_writer.specs.declared.tree.AtomBucket.{AtomBucket}
use Rattle.report_writer.specs.declared.tree.GaugeTree.{GaugeTree}
use Rattle.report_writer.specs.declared.tree.EventTree.{EventTree}
use Rattle.report_writer.specs.declared.tree.MetricBody.{MetricBody}
use Rattle.report_writer.specs.declared.tree.MetricBody.TheVariants.{Events, Counts, Durations, Values, Gauges}
use Rattle.report_writer.specs.declared.tree.MetricTree.{MetricTree}
use Rattle.report_writer.specs.declared.tree.Drop64.{Drop64}
use Rattle.report_writer.specs.declared.tree.AlarmTree.{AlarmTree}
use Rattle.report_writer.specs.declared.tree.ReportTree.{ReportTree}

-- what a field says, but not where it stands: its number, and what it holds
abbrev pub Content : Type 0
Content = ℕ × BodyOf

-- the number of a field, and what it holds
abbrev pub field_content : FieldOf → Content
field_content field = (field.number, field.body)

-- what the fields that are left say, up to the end or the first that can't be read
abbrev pub contents_left : Rest → List Content
contents_left rest = map field_content (walk_from rest).fields

-- what the fields of a message say
abbrev pub contents_in : List ℕ → List Content
contents_in bytes = contents_left (record { bytes = bytes; at = 0; depth = 0 })

-- a number as one of 64 bits
abbrev pub low64 : ℕ → ℕ
low64 n = n % 2 ^ 64

-- a number as one of 32 bits
abbrev pub low32 : ℕ → ℕ
low32 n = n % 2 ^ 32

-- the number of a field, if it holds one
abbrev pub held_number : BodyOf → ℕ
held_number (Varint value) = low64 value
held_number (Fixed64 value) = 0
held_number (Bytes bytes) = 0
held_number (wire.Group bytes) = 0
held_number (Fixed32 value) = 0

-- its bytes
abbrev pub held_bytes : BodyOf → List ℕ
held_bytes (Varint value) = []
held_bytes (Fixed64 value) = []
held_bytes (Bytes bytes) = bytes
held_bytes (wire.Group bytes) = []
held_bytes (Fixed32 value) = []

-- its four bytes
abbrev pub held_bits : BodyOf → ℕ
held_bits (Varint value) = 0
held_bits (Fixed64 value) = 0
held_bits (Bytes bytes) = 0
held_bits (wire.Group bytes) = 0
held_bits (Fixed32 value) = low32 value

-- the number of the first field
abbrev pub leading_number : List Content → ℕ
leading_number [] = 0
leading_number (first ∷ fields) = held_number first.1

-- the bytes of the first field
abbrev pub leading_bytes : List Content → List ℕ
leading_bytes [] = []
leading_bytes (first ∷ fields) = held_bytes first.1

-- the number of the first field with this number of its own
abbrev pub number_under : ℕ → List Content → ℕ
number_under number [] = 0
number_under number (first ∷ fields) = if first.0 == number then held_number first.1 else number_under number fields

-- the bytes of a field that holds some
abbrev pub held_payload : BodyOf → List (List ℕ)
held_payload (Varint value) = []
held_payload (Fixed64 value) = []
held_payload (Bytes bytes) = bytes ∷ []
held_payload (wire.Group bytes) = []
held_payload (Fixed32 value) = []

-- the bytes of a field, if it has this number
abbrev pub payload_under : ℕ → Content → List (List ℕ)
payload_under number told = if told.0 == number then held_payload told.1 else []

-- the bytes of all fields with this number
abbrev pub payloads_under : ℕ → List Content → List (List ℕ)
payloads_under number fields = flat_map (payload_under number) fields

-- the value that a field of a leaf says
abbrev pub value_said : Content → Option Value
value_said told =
    if told.0 == field.dimension_str then Some (held.Str (held_bytes told.1))
    else if told.0 == field.dimension_int then Some (held.Int (cast_signed w32 (low32 (held_number told.1))))
    else if told.0 == field.dimension_long then Some (held.Long (cast_signed w64 (held_number told.1)))
    else if told.0 == field.dimension_bool then Some (held.Bool (not (held_number told.1 == 0)))
    else if told.0 == field.dimension_float then Some (held.Bits32 (held_bits told.1))
    else if told.0 == field.dimension_raw then Some (held.Raw (held_bytes told.1))
    else None

-- a leaf with one more field
abbrev pub leaf_adding : LeafTree → Content → LeafTree
leaf_adding leaf told =
    if told.0 == field.dimension_place then record leaf { place = low32 (held_number told.1) }
    else record leaf { value = value_said told }

-- with the first of these fields, if there is any
abbrev pub leaf_adding_first : LeafTree → List Content → LeafTree
leaf_adding_first leaf [] = leaf
leaf_adding_first leaf (first ∷ fields) = leaf_adding leaf first

-- a leaf has two fields at most
abbrev pub leaf_said : List Content → LeafTree
leaf_said fields = leaf_adding_first (leaf_adding_first (record { place = 0; value = None }) fields) (drop 1 fields)

-- the message of one value of a key
unfoldable pub read_leaf : List ℕ → LeafTree
read_leaf bytes = leaf_said (contents_in bytes)

-- a slice, by the number of its second field
abbrev pub slice_under : ℕ → List Content → Slice
slice_under atom_id [] = Plain atom_id (cast_signed w32 0)
slice_under atom_id (second ∷ fields) =
    if second.0 == field.slice_group_id then Group atom_id (cast_signed w64 (held_number second.1))
    else Plain atom_id (cast_signed w32 (low32 (held_number second.1)))

-- a slice says its atom first
abbrev pub slice_said : List Content → Slice
slice_said fields = slice_under (low32 (leading_number fields)) (drop 1 fields)

-- the message of a state's value, or a group
unfoldable pub read_slice : List ℕ → Slice
read_slice bytes = slice_said (contents_in bytes)

-- a bucket says its start, its end and its number
abbrev pub bucket_said : List Content → NumBucket
bucket_said fields = record {
  start = leading_number fields;
  end = leading_number (drop 1 fields);
  value = cast_signed w64 (leading_number (drop 1 (drop 1 fields)));
}

-- the message of a bucket with its number
unfoldable pub read_bucket : List ℕ → NumBucket
read_bucket bytes = bucket_said (contents_in bytes)

-- the parts of a row are told apart by their numbers
abbrev pub row_said : List Content → NumTree
row_said fields = record {
  leaves = map read_leaf (payloads_under field.data_leaf fields);
  slices = map read_slice (payloads_under field.data_slice fields);
  overflow = not (number_under field.data_overflow fields == 0);
  buckets = map read_bucket (payloads_under field.data_bucket fields);
}

-- the message of the buckets of one key
unfoldable pub read_row : List ℕ → NumTree
read_row bytes = row_said (contents_in bytes)

-- what a field of an atom holds
abbrev pub held_part : BodyOf → PartBody
held_part (Varint value) = Num (low64 value)
held_part (Fixed64 value) = Num 0
held_part (Bytes bytes) = Chunk bytes
held_part (wire.Group bytes) = Num 0
held_part (Fixed32 value) = Bits (low32 value)

-- a field of an atom is what it says
abbrev pub part_of : Content → Part
part_of told = record { number = told.0; body = held_part told.1 }

-- the number of the first field is the atom's id
abbrev pub leading_id : List Content → ℕ
leading_id [] = 0
leading_id (first ∷ fields) = first.0

-- an atom is one field, which holds the atom's own
abbrev pub atom_said : List Content → AtomMsg
atom_said fields = record { id = leading_id fields; parts = map part_of (contents_in (leading_bytes fields)) }

-- the message of an atom
unfoldable pub read_atom : List ℕ → AtomMsg
read_atom bytes = atom_said (contents_in bytes)

-- a bucket with atoms says its start and its end first
abbrev pub samples_said : List Content → AtomBucket
samples_said fields = record {
  start = leading_number fields;
  end = leading_number (drop 1 fields);
  atoms = map read_atom (payloads_under field.bucket_atom fields);
}

-- the message of a bucket with its atoms
unfoldable pub read_samples : List ℕ → AtomBucket
read_samples bytes = samples_said (contents_in bytes)

-- the parts of a gauge's row are told apart by their numbers
abbrev pub gauge_said : List Content → GaugeTree
gauge_said fields = record {
  leaves = map read_leaf (payloads_under field.data_leaf fields);
  slices = map read_slice (payloads_under field.data_slice fields);
  buckets = map read_samples (payloads_under field.data_bucket fields);
}

-- the message of the buckets of one key of a gauge
unfoldable pub read_gauge : List ℕ → GaugeTree
read_gauge bytes = gauge_said (contents_in bytes)

-- an event says its time first, and then its atom
abbrev pub event_said : List Content → EventTree
event_said fields = record { at = leading_number fields; atom = read_atom (leading_bytes (drop 1 fields)) }

-- the message of an atom, and when it was logged
unfoldable pub read_event : List ℕ → EventTree
read_event bytes = event_said (contents_in bytes)

-- each row in a wrapper
abbrev pub wrapped_rows : {X : Type 0} → (List ℕ → X) → List ℕ → List X
wrapped_rows row bytes = map row (payloads_under field.wrapper_data (contents_in bytes))

-- the rows of a metric, by the number of their field
abbrev pub body_said : ℕ → List ℕ → MetricBody
body_said number bytes =
    if number == field.shown_events then Events (wrapped_rows read_event bytes)
    else if number == field.shown_counts then Counts (wrapped_rows read_row bytes)
    else if number == field.shown_durations then Durations (wrapped_rows read_row bytes)
    else if number == field.shown_values then Values (wrapped_rows read_row bytes)
    else Gauges (wrapped_rows read_gauge bytes)

-- a metric says its id first, and then its rows
abbrev pub metric_said : List Content → MetricTree
metric_said fields = record {
  id = cast_signed w64 (leading_number fields);
  base = number_under field.shown_base fields;
  size = number_under field.shown_size fields;
  dropped = number_under field.shown_dropped fields;
  not_kept = number_under field.shown_not_kept fields;
  missing = number_under field.shown_missing fields;
  body = body_said (leading_id (drop 1 fields)) (leading_bytes (drop 1 fields));
}

-- the message of one metric
unfoldable pub read_metric : List ℕ → MetricTree
read_metric bytes = metric_said (contents_in bytes)

-- an id, and how many were dropped or not kept
abbrev pub drop_said : List Content → Drop64
drop_said fields = record { id = cast_signed w64 (leading_number fields); number = leading_number (drop 1 fields) }

-- the message of what a table dropped or a list didn't keep
unfoldable pub read_drop : List ℕ → Drop64
read_drop bytes = drop_said (contents_in bytes)

-- an alarm says its alert, its time and its sum first; the parts of its key are told apart by their numbers
abbrev pub alarm_said : List Content → AlarmTree
alarm_said fields = record {
  id = cast_signed w64 (leading_number fields);
  at = leading_number (drop 1 fields);
  sum = leading_number (drop 1 (drop 1 fields));
  leaves = map read_leaf (payloads_under field.data_leaf fields);
  slices = map read_slice (payloads_under field.data_slice fields);
}

-- the message of an alarm
unfoldable pub read_alarm : List ℕ → AlarmTree
read_alarm bytes = alarm_said (contents_in bytes)

-- the tree of a message that says whose report it is, and of one that says the rest
abbrev pub tree_said : List Content → List Content → ReportTree
tree_said whose fields = record {
  uid = cast_signed w32 (low32 (leading_number whose));
  id = cast_signed w64 (leading_number (drop 1 whose));
  last = number_under field.report_last fields;
  now = number_under field.report_now fields;
  metrics = map read_metric (payloads_under field.report_metric fields);
  predicate_drops = map read_drop (payloads_under field.report_predicate_drops fields);
  state_drops = map read_drop (payloads_under field.report_state_drops fields);
  state_atoms_dropped = number_under field.report_dropped_state_atoms fields;
  alarms = map read_alarm (payloads_under field.report_alarms fields);
  alarms_not_kept = map read_drop (payloads_under field.report_alarms_not_kept fields);
}

-- the tree of a report, from its two fields
abbrev pub report_said : List Content → ReportTree
report_said fields = tree_said (contents_in (leading_bytes fields)) (contents_in (leading_bytes (drop 1 fields)))

-- the tree of any bytes
unfoldable pub read_report : List ℕ → ReportTree
read_report bytes = report_said (contents_in bytes)
