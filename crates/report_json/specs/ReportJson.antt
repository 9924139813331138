-- A report's tree as JSON. Numbers are whole numbers, byte strings are lower-case hexadecimal text, and the members of
-- an object stand in the order of the bytes of their keys.
use Rattle.std.specs.Prelude.{ℕ, ℤ, List, map, Option, Some, None, codes}
use Rattle.serde_json.specs.Data.{Data, boolean, number, string, array, object, unsigned, item, no_items, member, no_members}
use Rattle.serde_json.specs.Find.{of_integer}
use Rattle.serde_json.specs.View.{items_of}
use Rattle.hex.specs.Hex.{encode_lower}
use Rattle.atom_record.specs.declared.value.Value.{Value}
use Rattle.atom_record.specs.declared.value.Value.TheVariants as held
use Rattle.atom_record.specs.declared.value.Slice.{Slice}
use Rattle.atom_record.specs.declared.value.Slice.TheVariants.{Plain, Group}
use Rattle.report_writer.specs.declared.tree.LeafTree.{LeafTree}
use Rattle.report_writer.specs.declared.tree.NumBucket.{NumBucket}
use Rattle.report_writer.specs.declared.tree.NumTree.{NumTree}
use Rattle.report_writer.specs.declared.tree.Part.{Part}
use Rattle.report_writer.specs.declared.tree.PartBody.{PartBody}
use Rattle.report_writer.specs.declared.tree.PartBody.TheVariants.{Num, Chunk, Bits}
use Rattle.report_writer.specs.declared.tree.AtomMsg.{AtomMsg}
use Rattle.report_writer.specs.declared.tree.AtomBucket.{AtomBucket}
use Rattle.report_writer.specs.declared.tree.GaugeTree.{GaugeTree}
use Rattle.report_writer.specs.declared.tree.EventTree.{EventTree}
use Rattle.report_writer.specs.declared.tree.MetricBody.{MetricBody}
use Rattle.report_writer.specs.declared.tree.MetricBody.TheVariants.{Events, Counts, Durations, Values, Gauges}
use Rattle.report_writer.specs.declared.tree.MetricTree.{MetricTree}
use Rattle.report_writer.specs.declared.tree.Drop64.{Drop64}
use Rattle.report_writer.specs.declared.tree.AlarmTree.{AlarmTree}
use Rattle.report_writer.specs.declared.tree.ReportTree.{ReportTree}

-- a number that isn't below 0
abbrev pub whole : ℕ → Data
whole n = number (unsigned n)

-- a number that may be below 0
abbrev pub integer : ℤ → Data
integer z = number (of_integer z)

-- bytes as lower-case hexadecimal text
abbrev pub hex_text : List ℕ → Data
hex_text bytes = string (encode_lower bytes)

-- each of these, in an array
abbrev pub list_of : {X : Type 0} → (X → Data) → List X → Data
list_of shown items = array (items_of (map shown items))

-- an array of two
abbrev pub two : Data → Data → Data
two a b = array (item a (item b no_items))

-- an array of three
abbrev pub three : Data → Data → Data → Data
three a b c = array (item a (item b (item c no_items)))

-- the kind of a value
abbrev pub kind_of_value : Value → List ℕ
kind_of_value (held.Int value) = codes "int"
kind_of_value (held.Long value) = codes "long"
kind_of_value (held.Bool value) = codes "bool"
kind_of_value (held.Str text) = codes "str"
kind_of_value (held.Raw bytes) = codes "raw"
kind_of_value (held.Bits32 bits) = codes "bits"

-- a value without its kind
abbrev pub value_json : Value → Data
value_json (held.Int value) = integer value
value_json (held.Long value) = integer value
value_json (held.Bool value) = boolean value
value_json (held.Str text) = hex_text text
value_json (held.Raw bytes) = hex_text bytes
value_json (held.Bits32 bits) = whole bits

-- a leaf at this place: the place, and where it has a value the kind and the value
abbrev pub placed_json : ℕ → Option Value → Data
placed_json place None = array (item (whole place) no_items)
placed_json place (Some value) = three (whole place) (string (kind_of_value value)) (value_json value)

-- one value of a key
abbrev pub leaf_json : LeafTree → Data
leaf_json leaf = placed_json leaf.place leaf.value

-- a state's atom, and its value or the group that lists it
abbrev pub slice_json : Slice → Data
slice_json (Plain atom_id value) = three (whole atom_id) (string (codes "value")) (integer value)
slice_json (Group atom_id group) = three (whole atom_id) (string (codes "group")) (integer group)

-- a bucket with its number
abbrev pub bucket_json : NumBucket → Data
bucket_json bucket = three (whole bucket.start) (whole bucket.end) (integer bucket.value)

-- the buckets of one key, or of an overflow row
abbrev pub row_json : NumTree → Data
row_json row =
    object (member (codes "buckets") (list_of bucket_json row.buckets)
    (member (codes "key") (list_of leaf_json row.leaves)
    (member (codes "overflow") (boolean row.overflow)
    (member (codes "slices") (list_of slice_json row.slices) no_members))))

-- the kind of what a field of an atom holds
abbrev pub kind_of_body : PartBody → List ℕ
kind_of_body (Num value) = codes "num"
kind_of_body (Chunk bytes) = codes "bytes"
kind_of_body (Bits bits) = codes "bits"

-- what a field of an atom holds
abbrev pub body_json : PartBody → Data
body_json (Num value) = whole value
body_json (Chunk bytes) = hex_text bytes
body_json (Bits bits) = whole bits

-- a field of an atom: its number, and the kind and the value of what it holds
abbrev pub part_json : Part → Data
part_json part = three (whole part.number) (string (kind_of_body part.body)) (body_json part.body)

-- an atom: its id, and its fields
abbrev pub atom_json : AtomMsg → Data
atom_json atom = two (whole atom.id) (list_of part_json atom.parts)

-- a bucket with the atoms that were sampled in it
abbrev pub samples_json : AtomBucket → Data
samples_json bucket = three (whole bucket.start) (whole bucket.end) (list_of atom_json bucket.atoms)

-- the buckets of one key of a gauge
abbrev pub gauge_json : GaugeTree → Data
gauge_json row =
    object (member (codes "buckets") (list_of samples_json row.buckets)
    (member (codes "key") (list_of leaf_json row.leaves)
    (member (codes "slices") (list_of slice_json row.slices) no_members)))

-- an atom, and when it was logged
abbrev pub event_json : EventTree → Data
event_json event = two (whole event.at) (atom_json event.atom)

-- the kind of a metric
abbrev pub kind_of_metric : MetricBody → List ℕ
kind_of_metric (Events rows) = codes "event"
kind_of_metric (Counts rows) = codes "count"
kind_of_metric (Durations rows) = codes "duration"
kind_of_metric (Values rows) = codes "value"
kind_of_metric (Gauges rows) = codes "gauge"

-- the rows of a metric
abbrev pub rows_json : MetricBody → Data
rows_json (Events rows) = list_of event_json rows
rows_json (Counts rows) = list_of row_json rows
rows_json (Durations rows) = list_of row_json rows
rows_json (Values rows) = list_of row_json rows
rows_json (Gauges rows) = list_of gauge_json rows

-- a metric with its rows
abbrev pub metric_json : MetricTree → Data
metric_json metric =
    object (member (codes "base") (whole metric.base)
    (member (codes "dropped") (whole metric.dropped)
    (member (codes "id") (integer metric.id)
    (member (codes "kind") (string (kind_of_metric metric.body))
    (member (codes "missing") (whole metric.missing)
    (member (codes "not_kept") (whole metric.not_kept)
    (member (codes "rows") (rows_json metric.body)
    (member (codes "size") (whole metric.size) no_members))))))))

-- what a full table dropped or a full list didn't keep, by an id
abbrev pub drop_json : Drop64 → Data
drop_json drop = two (integer drop.id) (whole drop.number)

-- an alarm of an alert, with the key that went above its threshold
abbrev pub alarm_json : AlarmTree → Data
alarm_json alarm =
    object (member (codes "at") (whole alarm.at)
    (member (codes "id") (integer alarm.id)
    (member (codes "key") (list_of leaf_json alarm.leaves)
    (member (codes "slices") (list_of slice_json alarm.slices)
    (member (codes "sum") (whole alarm.sum) no_members)))))

-- a report
unfoldable pub report_json : ReportTree → Data
report_json tree =
    object (member (codes "alarms") (list_of alarm_json tree.alarms)
    (member (codes "alarms_not_kept") (list_of drop_json tree.alarms_not_kept)
    (member (codes "id") (integer tree.id)
    (member (codes "last") (whole tree.last)
    (member (codes "metrics") (list_of metric_json tree.metrics)
    (member (codes "now") (whole tree.now)
    (member (codes "predicate_drops") (list_of drop_json tree.predicate_drops)
    (member (codes "state_atoms_dropped") (whole tree.state_atoms_dropped)
    (member (codes "state_drops") (list_of drop_json tree.state_drops)
    (member (codes "uid") (integer tree.uid) no_members))))))))))
