-- Worked leaves, slices, buckets, atoms, and reports of each kind of metric, by computing.
use Rattle.std.proofs.Common.{◌≡◌, ℕ, ℤ, pos, negsuc, true, false, List, [], ◌∷◌, Option, Some, None, refl}
use Rattle.atom_record.specs.declared.value.Value.{Value}
use Rattle.atom_record.specs.declared.value.Value.TheVariants as held
use Rattle.atom_record.specs.declared.value.Slice.{Slice}
use Rattle.atom_record.specs.declared.value.Slice.TheVariants.{Plain, Group}
use Rattle.atom_record.specs.declared.atom.AtomField.{AtomField}
use Rattle.proto_wire.specs.Spelling.{varint}
use Rattle.report_writer.specs.declared.tree.LeafTree.{LeafTree}
use Rattle.report_writer.specs.declared.tree.NumBucket.{NumBucket}
use Rattle.report_writer.specs.declared.tree.NumTree.{NumTree}
use Rattle.report_writer.specs.declared.tree.Part.{Part}
use Rattle.report_writer.specs.declared.tree.PartBody.{PartBody}
use Rattle.report_writer.specs.declared.tree.PartBody.TheVariants.{Num, Chunk, Bits}
use Rattle.report_writer.specs.declared.tree.AtomMsg.{AtomMsg}
use Rattle.report_writer.specs.declared.tree.AtomBucket.{AtomBucket}
use Rattle.report_writer.specs.declared.tree.GaugeTree.{GaugeTree}
use Rattle.report_writer.specs.declared.tree.MetricBody.{MetricBody}
use Rattle.report_writer.specs.declared.tree.MetricBody.TheVariants.{Events, Counts, Durations, Values, Gauges}
use Rattle.report_writer.specs.declared.tree.MetricTree.{MetricTree}
use Rattle.report_writer.specs.declared.tree.Drop64.{Drop64}
use Rattle.report_writer.specs.declared.tree.AlarmTree.{AlarmTree}
use Rattle.report_writer.specs.declared.tree.ReportTree.{ReportTree}
use Rattle.report_writer.specs.ReportSpelling.{leaf_message, slice_message, bucket_message, row_message, atom_message, samples_message, gauge_message, event_message, metric_message, drop_message, alarm_message, key_message, config_message, report_message}
use Rattle.report_writer.specs.AtomMessage.{message_of}

abbrev leaf : ℕ → Option Value → LeafTree
leaf place value = record { place = place; value = value }

abbrev bucket : ℕ → ℕ → ℤ → NumBucket
bucket start end value = record { start = start; end = end; value = value }

-- a metric with the id 100 that showed all
abbrev metric : ℕ → ℕ → MetricBody → MetricTree
metric base size body =
    record { id = pos 100; base = base; size = size; dropped = 0; not_kept = 0; missing = 0; body = body }

-- the first report of configuration 7 of client 10, with one metric
abbrev report : ℕ → ℕ → MetricTree → List Drop64 → ReportTree
report last now metric drops = record {
  uid = pos 10;
  id = pos 7;
  last = last;
  now = now;
  metrics = metric ∷ [];
  predicate_drops = drops;
  state_drops = [];
  state_atoms_dropped = 0;
  alarms = [];
  alarms_not_kept = [];
}

-- an atom with one field that holds a number
abbrev numbered : ℕ → ℕ → AtomMsg
numbered id value = record { id = id; parts = record { number = 1; body = Num value } ∷ [] }

abbrev events_tree : ℕ → ReportTree
events_tree id = report 0 4 (metric 0 0 (Events (record { at = 4; atom = numbered id 7 } ∷ []))) []

abbrev gauges_tree : ReportTree
gauges_tree =
    let samples : AtomBucket = record { start = 0; end = 1000000000; atoms = numbered 5 7 ∷ numbered 5 8 ∷ [] } in
    let row : GaugeTree = record { leaves = []; slices = []; buckets = samples ∷ [] } in
    report 0 1000000000 (metric 0 1000000000 (Gauges (row ∷ []))) []

abbrev counts_tree : ReportTree
counts_tree =
    let row : NumTree = record { leaves = []; slices = []; overflow = false; buckets = bucket 0 5 (pos 1) ∷ [] } in
    report 0 5 (metric 0 3600000000000 (Counts (row ∷ []))) (record { id = pos 11; number = 1 } ∷ [])

-- a text by which a second's atoms are counted, or what found no room in it
abbrev of_text : ℕ → ℕ → NumTree
of_text byte count = record {
  leaves = leaf 0 (Some (held.Str (byte ∷ []))) ∷ [];
  slices = [];
  overflow = false;
  buckets = bucket 0 1000000000 (pos count) ∷ [];
}

abbrev without_room : ℕ → NumTree
without_room count =
    record { leaves = []; slices = []; overflow = true; buckets = bucket 0 1000000000 (pos count) ∷ [] }

abbrev overflow_tree : ReportTree
overflow_tree =
    let rows = of_text 65 2 ∷ of_text 66 1 ∷ without_room 2 ∷ [] in
    report 0 1000000000 (record (metric 0 1000000000 (Counts rows)) { dropped = 2 }) []

abbrev sliced : Slice → ℤ → NumTree
sliced slice nanos = record {
  leaves = [];
  slices = slice ∷ [];
  overflow = false;
  buckets = bucket 100000000 900000000 nanos ∷ [];
}

abbrev durations_tree : ReportTree
durations_tree =
    let rows = sliced (Group 27 (pos 1)) (pos 300000000) ∷ sliced (Plain 27 (negsuc 0)) (pos 400000000) ∷ [] in
    report 100000000 900000000 (metric 100000000 1000000000 (Durations rows)) []

abbrev values_tree : ReportTree
values_tree = record {
  uid = negsuc 0;
  id = pos 7;
  last = 0;
  now = 9;
  metrics =
      record { id = negsuc 2; base = 0; size = 60; dropped = 1; not_kept = 0; missing = 2; body = Values [] } ∷ [];
  predicate_drops = [];
  state_drops = record { id = pos 27; number = 5 } ∷ [];
  state_atoms_dropped = 4;
  alarms = [];
  alarms_not_kept = [];
}

abbrev alarm : List LeafTree → List Slice → AlarmTree
alarm leaves slices = record { id = pos 200; at = 1000000001; sum = 3; leaves = leaves; slices = slices }

-- alarms of two alerts on metrics that aren't shown, one of which had five more
abbrev alarms_tree : ReportTree
alarms_tree = record {
  uid = pos 10;
  id = pos 7;
  last = 0;
  now = 2000000001;
  metrics = [];
  predicate_drops = [];
  state_drops = [];
  state_atoms_dropped = 0;
  alarms =
      alarm (leaf 0 (Some (held.Int (pos 7))) ∷ []) []
      ∷ record { id = negsuc 0; at = 0; sum = 18446744073709551615; leaves = []; slices = Group 27 (pos 1) ∷ [] } ∷ [];
  alarms_not_kept = record { id = pos 200; number = 5 } ∷ [];
}

abbrev part : ℕ → PartBody → Part
part number body = record { number = number; body = body }

abbrev entry : ℕ → ℕ → ℕ → Value → AtomField
entry field index sub value = record { field = field; index = index; sub = sub; flags = 0; value = value }

abbrev each_kind : List AtomField
each_kind =
    entry 1 0 0 (held.Int (negsuc 0)) ∷ entry 2 1 0 (held.Long (pos 3)) ∷ entry 3 0 0 (held.Bool true)
    ∷ entry 4 0 0 (held.Str (97 ∷ [])) ∷ entry 5 0 0 (held.Raw (9 ∷ [])) ∷ entry 6 0 0 (held.Bits32 7) ∷ []

abbrev two_indexes : List AtomField
two_indexes =
    entry 1 1 1 (held.Int (pos 7)) ∷ entry 1 1 2 (held.Str (97 ∷ [])) ∷ entry 1 2 0 (held.Int (pos 4))
    ∷ entry 1 2 1 (held.Int (pos 9)) ∷ entry 2 2 1 (held.Bool true) ∷ []

-- a leaf without a value at place 0 has no field at all
no_value_first : leaf_message (leaf 0 None) ≡ []
unfolding leaf_message varint
no_value_first = refl

-- a leaf without a value at another place has its place alone
no_value : leaf_message (leaf 2 None) ≡ 200 ∷ 62 ∷ 2 ∷ []
unfolding leaf_message varint
no_value = refl

-- the place 0 is left out
int : leaf_message (leaf 0 (Some (held.Int (pos 5)))) ≡ 24 ∷ 5 ∷ []
unfolding leaf_message varint
int = refl

-- a number below 0 takes ten bytes
int_below_0 : leaf_message (leaf 1 (Some (held.Int (negsuc 0)))) ≡
    24 ∷ 255 ∷ 255 ∷ 255 ∷ 255 ∷ 255 ∷ 255 ∷ 255 ∷ 255 ∷ 255 ∷ 1 ∷ 200 ∷ 62 ∷ 1 ∷ []
unfolding leaf_message varint
int_below_0 = refl

-- a number of eight bytes
long : leaf_message (leaf 0 (Some (held.Long (negsuc 1)))) ≡
    32 ∷ 254 ∷ 255 ∷ 255 ∷ 255 ∷ 255 ∷ 255 ∷ 255 ∷ 255 ∷ 255 ∷ 1 ∷ []
unfolding leaf_message varint
long = refl

-- a truth
truth : leaf_message (leaf 0 (Some (held.Bool true))) ≡ 40 ∷ 1 ∷ []
unfolding leaf_message varint
truth = refl

-- false is written too
untruth : leaf_message (leaf 0 (Some (held.Bool false))) ≡ 40 ∷ 0 ∷ []
unfolding leaf_message varint
untruth = refl

-- a text
text : leaf_message (leaf 0 (Some (held.Str (97 ∷ 98 ∷ [])))) ≡ 18 ∷ 2 ∷ 97 ∷ 98 ∷ []
unfolding leaf_message varint
text = refl

-- a text without a byte is written too
no_text : leaf_message (leaf 0 (Some (held.Str []))) ≡ 18 ∷ 0 ∷ []
unfolding leaf_message varint
no_text = refl

-- four bytes, the low one first
float : leaf_message (leaf 3 (Some (held.Bits32 67305985))) ≡ 53 ∷ 1 ∷ 2 ∷ 3 ∷ 4 ∷ 200 ∷ 62 ∷ 3 ∷ []
unfolding leaf_message varint
float = refl

-- raw bytes stand after the place
raw : leaf_message (leaf 1 (Some (held.Raw (255 ∷ [])))) ≡ 200 ∷ 62 ∷ 1 ∷ 210 ∷ 62 ∷ 1 ∷ 255 ∷ []
unfolding leaf_message varint
raw = refl

-- a state's value
plain : slice_message (Plain 27 (pos 2)) ≡ 8 ∷ 27 ∷ 24 ∷ 2 ∷ []
unfolding slice_message varint
plain = refl

-- a group
group : slice_message (Group 27 (negsuc 0)) ≡
    8 ∷ 27 ∷ 16 ∷ 255 ∷ 255 ∷ 255 ∷ 255 ∷ 255 ∷ 255 ∷ 255 ∷ 255 ∷ 255 ∷ 1 ∷ []
unfolding slice_message varint
group = refl

-- a bucket whose number is below 0
below_0 : bucket_message (bucket 0 5 (negsuc 0)) ≡
    8 ∷ 0 ∷ 16 ∷ 5 ∷ 24 ∷ 255 ∷ 255 ∷ 255 ∷ 255 ∷ 255 ∷ 255 ∷ 255 ∷ 255 ∷ 255 ∷ 1 ∷ []
unfolding bucket_message varint
below_0 = refl

-- a row of what found no room says so last
overflow : row_message (record { leaves = []; slices = []; overflow = true; buckets = bucket 0 5 (pos 2) ∷ [] }) ≡
    26 ∷ 6 ∷ 8 ∷ 0 ∷ 16 ∷ 5 ∷ 24 ∷ 2 ∷ 200 ∷ 62 ∷ 1 ∷ []
unfolding row_message bucket_message varint
overflow = refl

-- a row of the empty key has the same buckets, and doesn't say it
no_overflow : row_message (record { leaves = []; slices = []; overflow = false; buckets = bucket 0 5 (pos 2) ∷ [] }) ≡
    26 ∷ 6 ∷ 8 ∷ 0 ∷ 16 ∷ 5 ∷ 24 ∷ 2 ∷ []
unfolding row_message bucket_message varint
no_overflow = refl

-- leaves and slices, if there were some, would stand between
overflow_after_a_key : row_message (record {
  leaves = leaf 0 (Some (held.Int (pos 5))) ∷ [];
  slices = Plain 27 (pos 2) ∷ [];
  overflow = true;
  buckets = bucket 0 5 (pos 2) ∷ [];
})
    ≡ 26 ∷ 6 ∷ 8 ∷ 0 ∷ 16 ∷ 5 ∷ 24 ∷ 2 ∷ 34 ∷ 2 ∷ 24 ∷ 5 ∷ 50 ∷ 4 ∷ 8 ∷ 27 ∷ 24 ∷ 2 ∷ 200 ∷ 62 ∷ 1 ∷ []
unfolding row_message bucket_message leaf_message slice_message varint
overflow_after_a_key = refl

-- what a full table dropped
drop : drop_message (record { id = negsuc 0; number = 3 }) ≡
    8 ∷ 255 ∷ 255 ∷ 255 ∷ 255 ∷ 255 ∷ 255 ∷ 255 ∷ 255 ∷ 255 ∷ 1 ∷ 16 ∷ 3 ∷ []
unfolding drop_message varint
drop = refl

-- an alarm, whose leaves stand before its slices
alarm_of_key : alarm_message (alarm (leaf 0 (Some (held.Int (pos 7))) ∷ []) (Plain 27 (pos 2) ∷ [])) ≡
    8 ∷ 200 ∷ 1 ∷ 16 ∷ 129 ∷ 148 ∷ 235 ∷ 220 ∷ 3 ∷ 24 ∷ 3 ∷ 34 ∷ 2 ∷ 24 ∷ 7 ∷ 50 ∷ 4 ∷ 8 ∷ 27 ∷ 24 ∷ 2 ∷ []
unfolding alarm_message leaf_message slice_message varint
alarm_of_key = refl

-- an alarm of the empty key
alarm_of_no_key : alarm_message (alarm [] []) ≡
    8 ∷ 200 ∷ 1 ∷ 16 ∷ 129 ∷ 148 ∷ 235 ∷ 220 ∷ 3 ∷ 24 ∷ 3 ∷ []
unfolding alarm_message varint
alarm_of_no_key = refl

-- an event metric has no size of a bucket
events_report : report_message (events_tree 5) ≡
    10 ∷ 4 ∷ 8 ∷ 10 ∷ 16 ∷ 7 ∷ 18 ∷ 22 ∷ 10 ∷ 16 ∷ 8 ∷ 100 ∷ 34 ∷ 10 ∷ 10 ∷ 8 ∷ 8 ∷ 4 ∷ 18 ∷ 4 ∷ 42 ∷ 2 ∷ 8 ∷ 7 ∷
    72 ∷ 0 ∷ 24 ∷ 0 ∷ 32 ∷ 4 ∷ []
unfolding report_message key_message config_message metric_message varint event_message atom_message
events_report = refl

-- the greatest field number
great_id_report : report_message (events_tree 536870911) ≡
    10 ∷ 4 ∷ 8 ∷ 10 ∷ 16 ∷ 7 ∷ 18 ∷ 26 ∷ 10 ∷ 20 ∷ 8 ∷ 100 ∷ 34 ∷ 14 ∷ 10 ∷ 12 ∷ 8 ∷ 4 ∷ 18 ∷ 8 ∷ 250 ∷ 255 ∷ 255 ∷
    255 ∷ 15 ∷ 2 ∷ 8 ∷ 7 ∷ 72 ∷ 0 ∷ 24 ∷ 0 ∷ 32 ∷ 4 ∷ []
unfolding report_message key_message config_message metric_message varint event_message atom_message
great_id_report = refl

-- two samples in a bucket
gauges_report : report_message gauges_tree ≡
    10 ∷ 4 ∷ 8 ∷ 10 ∷ 16 ∷ 7 ∷ 18 ∷ 46 ∷ 10 ∷ 36 ∷ 8 ∷ 100 ∷ 66 ∷ 24 ∷ 10 ∷ 22 ∷ 26 ∷ 20 ∷ 8 ∷ 0 ∷ 16 ∷ 128 ∷ 148 ∷
    235 ∷ 220 ∷ 3 ∷ 26 ∷ 4 ∷ 42 ∷ 2 ∷ 8 ∷ 7 ∷ 26 ∷ 4 ∷ 42 ∷ 2 ∷ 8 ∷ 8 ∷ 72 ∷ 0 ∷ 80 ∷ 128 ∷ 148 ∷ 235 ∷ 220 ∷ 3 ∷
    24 ∷ 0 ∷ 32 ∷ 128 ∷ 148 ∷ 235 ∷ 220 ∷ 3 ∷ []
unfolding report_message key_message config_message metric_message varint gauge_message samples_message atom_message
gauges_report = refl

-- a drop of a predicate
counts_report : report_message counts_tree ≡
    10 ∷ 4 ∷ 8 ∷ 10 ∷ 16 ∷ 7 ∷ 18 ∷ 36 ∷ 10 ∷ 23 ∷ 8 ∷ 100 ∷ 42 ∷ 10 ∷ 10 ∷ 8 ∷ 26 ∷ 6 ∷ 8 ∷ 0 ∷ 16 ∷ 5 ∷ 24 ∷ 1 ∷
    72 ∷ 0 ∷ 80 ∷ 128 ∷ 192 ∷ 226 ∷ 133 ∷ 227 ∷ 104 ∷ 24 ∷ 0 ∷ 32 ∷ 5 ∷ 202 ∷ 62 ∷ 4 ∷ 8 ∷ 11 ∷ 16 ∷ 1 ∷ []
unfolding report_message key_message config_message metric_message varint drop_message row_message bucket_message
counts_report = refl

-- two keys, and what found no room beside them
overflow_report : report_message overflow_tree ≡
    10 ∷ 4 ∷ 8 ∷ 10 ∷ 16 ∷ 7 ∷ 18 ∷ 80 ∷ 10 ∷ 70 ∷ 8 ∷ 100 ∷ 42 ∷ 55 ∷ 10 ∷ 17 ∷ 26 ∷ 10 ∷ 8 ∷ 0 ∷ 16 ∷ 128 ∷ 148 ∷
    235 ∷ 220 ∷ 3 ∷ 24 ∷ 2 ∷ 34 ∷ 3 ∷ 18 ∷ 1 ∷ 65 ∷ 10 ∷ 17 ∷ 26 ∷ 10 ∷ 8 ∷ 0 ∷ 16 ∷ 128 ∷ 148 ∷ 235 ∷ 220 ∷ 3 ∷ 24 ∷
    1 ∷ 34 ∷ 3 ∷ 18 ∷ 1 ∷ 66 ∷ 10 ∷ 15 ∷ 26 ∷ 10 ∷ 8 ∷ 0 ∷ 16 ∷ 128 ∷ 148 ∷ 235 ∷ 220 ∷ 3 ∷ 24 ∷ 2 ∷ 200 ∷ 62 ∷ 1 ∷
    72 ∷ 0 ∷ 80 ∷ 128 ∷ 148 ∷ 235 ∷ 220 ∷ 3 ∷ 200 ∷ 62 ∷ 2 ∷ 24 ∷ 0 ∷ 32 ∷ 128 ∷ 148 ∷ 235 ∷ 220 ∷ 3 ∷ []
unfolding report_message key_message config_message metric_message varint row_message leaf_message bucket_message
overflow_report = refl

-- two rows by their slices
durations_report : report_message durations_tree ≡
    10 ∷ 4 ∷ 8 ∷ 10 ∷ 16 ∷ 7 ∷ 18 ∷ 91 ∷ 10 ∷ 78 ∷ 8 ∷ 100 ∷ 50 ∷ 63 ∷ 10 ∷ 25 ∷ 26 ∷ 17 ∷ 8 ∷ 128 ∷ 194 ∷ 215 ∷ 47 ∷
    16 ∷ 128 ∷ 210 ∷ 147 ∷ 173 ∷ 3 ∷ 24 ∷ 128 ∷ 198 ∷ 134 ∷ 143 ∷ 1 ∷ 50 ∷ 4 ∷ 8 ∷ 27 ∷ 16 ∷ 1 ∷ 10 ∷ 34 ∷ 26 ∷ 17 ∷
    8 ∷ 128 ∷ 194 ∷ 215 ∷ 47 ∷ 16 ∷ 128 ∷ 210 ∷ 147 ∷ 173 ∷ 3 ∷ 24 ∷ 128 ∷ 136 ∷ 222 ∷ 190 ∷ 1 ∷ 50 ∷ 13 ∷ 8 ∷ 27 ∷
    24 ∷ 255 ∷ 255 ∷ 255 ∷ 255 ∷ 255 ∷ 255 ∷ 255 ∷ 255 ∷ 255 ∷ 1 ∷ 72 ∷ 128 ∷ 194 ∷ 215 ∷ 47 ∷ 80 ∷ 128 ∷ 148 ∷ 235 ∷
    220 ∷ 3 ∷ 24 ∷ 128 ∷ 194 ∷ 215 ∷ 47 ∷ 32 ∷ 128 ∷ 210 ∷ 147 ∷ 173 ∷ 3 ∷ []
unfolding report_message key_message config_message metric_message varint row_message slice_message bucket_message
durations_report = refl

-- a metric without a row is written too, and each count only where it is above 0
values_report : report_message values_tree ≡
    10 ∷ 13 ∷ 8 ∷ 255 ∷ 255 ∷ 255 ∷ 255 ∷ 255 ∷ 255 ∷ 255 ∷ 255 ∷ 255 ∷ 1 ∷ 16 ∷ 7 ∷ 18 ∷ 39 ∷ 10 ∷ 23 ∷ 8 ∷ 253 ∷
    255 ∷ 255 ∷ 255 ∷ 255 ∷ 255 ∷ 255 ∷ 255 ∷ 255 ∷ 1 ∷ 58 ∷ 0 ∷ 72 ∷ 0 ∷ 80 ∷ 60 ∷ 200 ∷ 62 ∷ 1 ∷ 216 ∷ 62 ∷ 2 ∷
    24 ∷ 0 ∷ 32 ∷ 9 ∷ 210 ∷ 62 ∷ 4 ∷ 8 ∷ 27 ∷ 16 ∷ 5 ∷ 216 ∷ 62 ∷ 4 ∷ []
unfolding report_message key_message config_message metric_message varint drop_message
values_report = refl

-- alarms stand in their order, and then how many aren't listed
alarms_report : report_message alarms_tree ≡
    10 ∷ 4 ∷ 8 ∷ 10 ∷ 16 ∷ 7 ∷ 18 ∷ 67 ∷ 24 ∷ 0 ∷ 32 ∷ 129 ∷ 168 ∷ 214 ∷ 185 ∷ 7 ∷ 226 ∷ 62 ∷ 15 ∷ 8 ∷ 200 ∷ 1 ∷ 16 ∷
    129 ∷ 148 ∷ 235 ∷ 220 ∷ 3 ∷ 24 ∷ 3 ∷ 34 ∷ 2 ∷ 24 ∷ 7 ∷ 226 ∷ 62 ∷ 30 ∷ 8 ∷ 255 ∷ 255 ∷ 255 ∷ 255 ∷ 255 ∷ 255 ∷
    255 ∷ 255 ∷ 255 ∷ 1 ∷ 16 ∷ 0 ∷ 24 ∷ 255 ∷ 255 ∷ 255 ∷ 255 ∷ 255 ∷ 255 ∷ 255 ∷ 255 ∷ 255 ∷ 1 ∷ 50 ∷ 4 ∷ 8 ∷ 27 ∷
    16 ∷ 1 ∷ 234 ∷ 62 ∷ 5 ∷ 8 ∷ 200 ∷ 1 ∷ 16 ∷ 5 ∷ []
unfolding report_message key_message config_message varint alarm_message drop_message leaf_message slice_message
alarms_report = refl

-- an id above every field number is shown as the greatest
great_id : message_of (record { id = 600000000; fields = [] }) ≡
    record { id = 536870911; parts = [] }
unfolding message_of
great_id = refl

-- a field of each kind
kinds : message_of (record { id = 5; fields = each_kind }) ≡
    record {
      id = 5;
      parts =
          part 1 (Num 18446744073709551615) ∷ part 2 (Num 3) ∷ part 3 (Num 1) ∷ part 4 (Chunk (97 ∷ []))
          ∷ part 5 (Chunk (9 ∷ [])) ∷ part 6 (Bits 7) ∷ [];
    }
unfolding message_of
kinds = refl

-- entries of one field and index are one message; those of the next index are another
neighbours : message_of (record { id = 5; fields = two_indexes }) ≡
    record {
      id = 5;
      parts =
          part 1 (Chunk (8 ∷ 7 ∷ 18 ∷ 1 ∷ 97 ∷ [])) ∷ part 1 (Num 4) ∷ part 1 (Chunk (8 ∷ 9 ∷ []))
          ∷ part 2 (Chunk (8 ∷ 1 ∷ [])) ∷ [];
    }
unfolding message_of varint
neighbours = refl
