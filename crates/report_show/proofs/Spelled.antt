-- Each message of a report as the fields that a writer is given.
use Rattle.std.proofs.Common.{◌≡◌, ℕ, ℤ, Bool, true, false, List, [], ◌∷◌, ◌++◌, map, Option, Some, None, refl, sym, ap, ◌∙◌, append_assoc, append-nil}
use Rattle.std.specs.Prelude.{nat_lt, if◌then◌else◌}
use Rattle.std.specs.List.{flat_map}
use Rattle.std.specs.Int.{w64, cast_unsigned}
use Rattle.std.proofs.lemmas.List.Concat.{flat_map-append, flat_map-cons}
use Rattle.atom_record.specs.declared.value.Value.{Value}
use Rattle.atom_record.specs.declared.value.Value.TheVariants as held
use Rattle.atom_record.specs.declared.value.Slice.{Slice}
use Rattle.atom_record.specs.declared.value.Slice.TheVariants.{Plain, Group}
use Rattle.proto_wire.specs.Spelling.{varint_field, bytes_field}
use Rattle.proto_wire.specs.Grammar.{Written, AsVarint, AsBytes, AsFixed32, spelling}
use Rattle.report_writer.specs.ReportNumbers as field
use Rattle.report_writer.specs.ReportSpelling.{field_if_above, truth_number, repeated_field, leaf_value_field, leaf_raw_field, leaf_message, slice_message, bucket_message, row_message, part_with, part_field, atom_message, samples_message, gauge_message, event_message, rows_field, size_field, unshown_fields, drops_fields, alarms_fields, metric_message, drop_message, alarm_message, key_message, config_message, report_message}
use Rattle.report_writer.specs.declared.tree.LeafTree.{LeafTree}
use Rattle.report_writer.specs.declared.tree.NumBucket.{NumBucket}
use Rattle.report_writer.specs.declared.tree.NumTree.{NumTree}
use Rattle.report_writer.specs.declared.tree.Part.{Part}
use Rattle.report_writer.specs.declared.tree.PartBody.{PartBody}
use Rattle.report_writer.specs.declared.tree.PartBody.TheVariants.{Num, Chunk, Bits}
use Rattle.report_writer.specs.declared.tree.AtomMsg.{AtomMsg}
use Rattle.report_writer.specs.declared.tree.AtomBucket.{AtomBucket}
use Rattle.report_writer.specs.declared.tree.GaugeTree.{GaugeTree}
use Rattle.report_writer.specs.declared.tree.EventTree.{EventTree}
use Rattle.report_writer.specs.declared.tree.MetricBody.{MetricBody}
use Rattle.report_writer.specs.declared.tree.MetricBody.TheVariants.{Events, Counts, Durations, Values, Gauges}
use Rattle.report_writer.specs.declared.tree.MetricTree.{MetricTree}
use Rattle.report_writer.specs.declared.tree.Drop64.{Drop64}
use Rattle.report_writer.specs.declared.tree.AlarmTree.{AlarmTree}
use Rattle.report_writer.specs.declared.tree.ReportTree.{ReportTree}
use Rattle.report_show.proofs.FieldLemmas.{repeated, if_above}

-- the bytes of these fields
abbrev pub spelled : List Written → List ℕ
spelled fields = flat_map spelling fields

pub spelled-cons : (field : Written) (fields : List Written)
    → spelled (field ∷ fields) ≡ spelling field ++ spelled fields
spelled-cons field fields = flat_map-cons spelling field fields

pub spelled-append : (fields others : List Written) → spelled (fields ++ others) ≡ spelled fields ++ spelled others
spelled-append fields others = flat_map-append spelling fields others

pub spelled-one : (field : Written) → spelled (field ∷ []) ≡ spelling field
spelled-one field = spelled-cons field [] ∙ append-nil (spelling field)

pub spelled-if : (number value : ℕ) → spelled (if_above number value) ≡ field_if_above number value
spelled-if number value = by (nat_lt 0 value)
  where
    by : (b : Bool) → spelled (if b then AsVarint number value ∷ [] else [])
        ≡ (if b then varint_field number value else [])
    by true = spelled-one (AsVarint number value)
    by false = refl

pub spelled-repeated : {X : Type 0} (number : ℕ) (message : X → List ℕ) (items : List X)
    → spelled (repeated number message items) ≡ repeated_field number message items
spelled-repeated number message [] = refl
spelled-repeated number message (item ∷ items) =
    spelled-cons (AsBytes number (message item)) (repeated number message items)
    ∙ ap (λ (l : List ℕ). bytes_field number (message item) ++ l) (spelled-repeated number message items)
    ∙ sym (flat_map-cons (λ it. bytes_field number (message it)) item items)

-- a number that may be below 0
abbrev pub AsSigned : ℕ → ℤ → Written
AsSigned number value = AsVarint number (cast_unsigned w64 value)

abbrev pub value_written : Option Value → List Written
value_written None = []
value_written (Some (held.Int value)) = AsSigned field.dimension_int value ∷ []
value_written (Some (held.Long value)) = AsSigned field.dimension_long value ∷ []
value_written (Some (held.Bool value)) = AsVarint field.dimension_bool (truth_number value) ∷ []
value_written (Some (held.Str text)) = AsBytes field.dimension_str text ∷ []
value_written (Some (held.Raw bytes)) = []
value_written (Some (held.Bits32 bits)) = AsFixed32 field.dimension_float bits ∷ []

abbrev pub raw_written : Option Value → List Written
raw_written None = []
raw_written (Some (held.Int value)) = []
raw_written (Some (held.Long value)) = []
raw_written (Some (held.Bool value)) = []
raw_written (Some (held.Str text)) = []
raw_written (Some (held.Raw bytes)) = AsBytes field.dimension_raw bytes ∷ []
raw_written (Some (held.Bits32 bits)) = []

value-spelled : (value : Option Value) → spelled (value_written value) ≡ leaf_value_field value
value-spelled None = refl
value-spelled (Some (held.Int value)) = spelled-one (AsSigned field.dimension_int value)
value-spelled (Some (held.Long value)) = spelled-one (AsSigned field.dimension_long value)
value-spelled (Some (held.Bool value)) = spelled-one (AsVarint field.dimension_bool (truth_number value))
value-spelled (Some (held.Str text)) = spelled-one (AsBytes field.dimension_str text)
value-spelled (Some (held.Raw bytes)) = refl
value-spelled (Some (held.Bits32 bits)) = spelled-one (AsFixed32 field.dimension_float bits)

raw-spelled : (value : Option Value) → spelled (raw_written value) ≡ leaf_raw_field value
raw-spelled None = refl
raw-spelled (Some (held.Int value)) = refl
raw-spelled (Some (held.Long value)) = refl
raw-spelled (Some (held.Bool value)) = refl
raw-spelled (Some (held.Str text)) = refl
raw-spelled (Some (held.Raw bytes)) = spelled-one (AsBytes field.dimension_raw bytes)
raw-spelled (Some (held.Bits32 bits)) = refl

abbrev pub leaf_written : LeafTree → List Written
leaf_written leaf =
    value_written leaf.value ++ (if_above field.dimension_place leaf.place ++ raw_written leaf.value)

-- two lists of fields, one after the other
pub both : (xs ys : List Written) (one two : List ℕ) → spelled xs ≡ one → spelled ys ≡ two
    → spelled (xs ++ ys) ≡ one ++ two
both xs ys one two first second =
    spelled-append xs ys ∙ ap (λ (l : List ℕ). l ++ spelled ys) first ∙ ap (λ (l : List ℕ). one ++ l) second

-- a field, and others
pub after : (field : Written) {one two : List ℕ} → one ≡ two → spelling field ++ one ≡ spelling field ++ two
after field others = ap (λ (l : List ℕ). spelling field ++ l) others

pub leaf-spelled : (leaf : LeafTree) → leaf_message leaf ≡ spelled (leaf_written leaf)
unfolding leaf_message
leaf-spelled leaf =
    sym (both (value_written leaf.value) _ _ _ (value-spelled leaf.value)
    (both (if_above field.dimension_place leaf.place) _ _ _ (spelled-if field.dimension_place leaf.place)
    (raw-spelled leaf.value)))

abbrev pub slice_written : Slice → List Written
slice_written (Plain atom_id value) =
    AsVarint field.slice_atom_id atom_id ∷ AsSigned field.slice_value value ∷ []
slice_written (Group atom_id group) =
    AsVarint field.slice_atom_id atom_id ∷ AsSigned field.slice_group_id group ∷ []

pub slice-spelled : (slice : Slice) → slice_message slice ≡ spelled (slice_written slice)
unfolding slice_message
slice-spelled (Plain atom_id value) =
    sym (after (AsVarint field.slice_atom_id atom_id) (spelled-one (AsSigned field.slice_value value)))
slice-spelled (Group atom_id group) =
    sym (after (AsVarint field.slice_atom_id atom_id) (spelled-one (AsSigned field.slice_group_id group)))

abbrev pub bucket_written : NumBucket → List Written
bucket_written bucket =
    AsVarint field.bucket_start bucket.start ∷ AsVarint field.bucket_end bucket.end
    ∷ AsSigned field.bucket_number bucket.value ∷ []

pub bucket-spelled : (bucket : NumBucket) → bucket_message bucket ≡ spelled (bucket_written bucket)
unfolding bucket_message
bucket-spelled bucket =
    sym (after (AsVarint field.bucket_start bucket.start) (after (AsVarint field.bucket_end bucket.end)
    (spelled-one (AsSigned field.bucket_number bucket.value))))

abbrev pub row_written : NumTree → List Written
row_written row =
    repeated field.data_bucket bucket_message row.buckets
    ++ (repeated field.data_leaf leaf_message row.leaves
    ++ (repeated field.data_slice slice_message row.slices
    ++ if_above field.data_overflow (truth_number row.overflow)))

pub row-spelled : (row : NumTree) → row_message row ≡ spelled (row_written row)
unfolding row_message
row-spelled row =
    sym (both (repeated field.data_bucket bucket_message row.buckets) _ _ _ (spelled-repeated _ _ row.buckets)
    (both (repeated field.data_leaf leaf_message row.leaves) _ _ _ (spelled-repeated _ _ row.leaves)
    (both (repeated field.data_slice slice_message row.slices) _ _ _ (spelled-repeated _ _ row.slices)
    (spelled-if field.data_overflow (truth_number row.overflow)))
    ∙ sym (append_assoc (repeated_field field.data_leaf leaf_message row.leaves) _ _)))

abbrev pub part_written : Part → Written
part_written part = by part.body
  where
    by : PartBody → Written
    by (Num value) = AsVarint part.number value
    by (Chunk bytes) = AsBytes part.number bytes
    by (Bits bits) = AsFixed32 part.number bits

part-spelled : (part : Part) → spelling (part_written part) ≡ part_field part
part-spelled part = by part.body
  where
    by : (body : PartBody) → spelling (part_written (record { number = part.number; body = body }))
        ≡ part_with part.number body
    by (Num value) = refl
    by (Chunk bytes) = refl
    by (Bits bits) = refl

pub parts-spelled : (parts : List Part) → flat_map part_field parts ≡ spelled (map part_written parts)
parts-spelled [] = refl
parts-spelled (part ∷ parts) =
    flat_map-cons part_field part parts
    ∙ ap (λ (l : List ℕ). part_field part ++ l) (parts-spelled parts)
    ∙ ap (λ (l : List ℕ). l ++ spelled (map part_written parts)) (sym (part-spelled part))
    ∙ sym (spelled-cons (part_written part) (map part_written parts))

abbrev pub atom_written : AtomMsg → List Written
atom_written atom = AsBytes atom.id (flat_map part_field atom.parts) ∷ []

pub atom-spelled : (atom : AtomMsg) → atom_message atom ≡ spelled (atom_written atom)
unfolding atom_message
atom-spelled atom = sym (spelled-one (AsBytes atom.id (flat_map part_field atom.parts)))

abbrev pub samples_written : AtomBucket → List Written
samples_written bucket =
    AsVarint field.bucket_start bucket.start ∷ AsVarint field.bucket_end bucket.end
    ∷ repeated field.bucket_atom atom_message bucket.atoms

pub samples-spelled : (bucket : AtomBucket) → samples_message bucket ≡ spelled (samples_written bucket)
unfolding samples_message
samples-spelled bucket =
    sym (after (AsVarint field.bucket_start bucket.start) (after (AsVarint field.bucket_end bucket.end)
    (spelled-repeated field.bucket_atom atom_message bucket.atoms)))

abbrev pub gauge_written : GaugeTree → List Written
gauge_written row =
    repeated field.data_bucket samples_message row.buckets
    ++ (repeated field.data_leaf leaf_message row.leaves ++ repeated field.data_slice slice_message row.slices)

pub gauge-spelled : (row : GaugeTree) → gauge_message row ≡ spelled (gauge_written row)
unfolding gauge_message
gauge-spelled row =
    sym (both (repeated field.data_bucket samples_message row.buckets) _ _ _ (spelled-repeated _ _ row.buckets)
    (both (repeated field.data_leaf leaf_message row.leaves) _ _ _ (spelled-repeated _ _ row.leaves)
    (spelled-repeated field.data_slice slice_message row.slices)))

abbrev pub event_written : EventTree → List Written
event_written event =
    AsVarint field.event_time event.at ∷ AsBytes field.event_atom (atom_message event.atom) ∷ []

pub event-spelled : (event : EventTree) → event_message event ≡ spelled (event_written event)
unfolding event_message
event-spelled event =
    sym (after (AsVarint field.event_time event.at) (spelled-one (AsBytes field.event_atom (atom_message event.atom))))

-- the rows of a metric, in their field
abbrev pub wrapper : {X : Type 0} → (X → List ℕ) → List X → List ℕ
wrapper message rows = repeated_field field.wrapper_data message rows

abbrev pub rows_written : MetricBody → Written
rows_written (Events rows) = AsBytes field.shown_events (wrapper event_message rows)
rows_written (Counts rows) = AsBytes field.shown_counts (wrapper row_message rows)
rows_written (Durations rows) = AsBytes field.shown_durations (wrapper row_message rows)
rows_written (Values rows) = AsBytes field.shown_values (wrapper row_message rows)
rows_written (Gauges rows) = AsBytes field.shown_gauges (wrapper gauge_message rows)

rows-spelled : (body : MetricBody) → spelling (rows_written body) ≡ rows_field body
rows-spelled (Events rows) = refl
rows-spelled (Counts rows) = refl
rows-spelled (Durations rows) = refl
rows-spelled (Values rows) = refl
rows-spelled (Gauges rows) = refl

abbrev pub size_written : MetricBody → ℕ → List Written
size_written (Events rows) size = []
size_written (Counts rows) size = AsVarint field.shown_size size ∷ []
size_written (Durations rows) size = AsVarint field.shown_size size ∷ []
size_written (Values rows) size = AsVarint field.shown_size size ∷ []
size_written (Gauges rows) size = AsVarint field.shown_size size ∷ []

size-spelled : (body : MetricBody) (size : ℕ) → spelled (size_written body size) ≡ size_field body size
size-spelled (Events rows) size = refl
size-spelled (Counts rows) size = spelled-one (AsVarint field.shown_size size)
size-spelled (Durations rows) size = spelled-one (AsVarint field.shown_size size)
size-spelled (Values rows) size = spelled-one (AsVarint field.shown_size size)
size-spelled (Gauges rows) size = spelled-one (AsVarint field.shown_size size)

abbrev pub unshown_written : MetricTree → List Written
unshown_written metric =
    if_above field.shown_dropped metric.dropped
    ++ (if_above field.shown_not_kept metric.not_kept ++ if_above field.shown_missing metric.missing)

abbrev pub metric_written : MetricTree → List Written
metric_written metric =
    AsSigned field.shown_id metric.id ∷ rows_written metric.body ∷ AsVarint field.shown_base metric.base
    ∷ (size_written metric.body metric.size ++ unshown_written metric)

pub metric-spelled : (metric : MetricTree) → metric_message metric ≡ spelled (metric_written metric)
unfolding metric_message
metric-spelled metric =
    let others : List ℕ =
    varint_field field.shown_base metric.base ++ (size_field metric.body metric.size ++ unshown_fields metric) in
    sym (after (AsSigned field.shown_id metric.id)
    (after (rows_written metric.body) (after (AsVarint field.shown_base metric.base)
    (both (size_written metric.body metric.size) _ _ _ (size-spelled metric.body metric.size)
    (both (if_above field.shown_dropped metric.dropped) _ _ _ (spelled-if _ metric.dropped)
    (both (if_above field.shown_not_kept metric.not_kept) _ _ _ (spelled-if _ metric.not_kept)
    (spelled-if field.shown_missing metric.missing)))))
    ∙ ap (λ (l : List ℕ). l ++ others) (rows-spelled metric.body)))

abbrev pub drop_written : Drop64 → List Written
drop_written drop = AsSigned field.drops_id drop.id ∷ AsVarint field.drops_number drop.number ∷ []

pub drop-spelled : (drop : Drop64) → drop_message drop ≡ spelled (drop_written drop)
unfolding drop_message
drop-spelled drop =
    sym (after (AsSigned field.drops_id drop.id) (spelled-one (AsVarint field.drops_number drop.number)))

abbrev pub alarm_written : AlarmTree → List Written
alarm_written alarm =
    AsSigned field.alarm_alert alarm.id ∷ AsVarint field.alarm_time alarm.at ∷ AsVarint field.alarm_sum alarm.sum
    ∷ (repeated field.data_leaf leaf_message alarm.leaves ++ repeated field.data_slice slice_message alarm.slices)

pub alarm-spelled : (alarm : AlarmTree) → alarm_message alarm ≡ spelled (alarm_written alarm)
unfolding alarm_message
alarm-spelled alarm =
    sym (after (AsSigned field.alarm_alert alarm.id) (after (AsVarint field.alarm_time alarm.at)
    (after (AsVarint field.alarm_sum alarm.sum)
    (both (repeated field.data_leaf leaf_message alarm.leaves) _ _ _ (spelled-repeated _ _ alarm.leaves)
    (spelled-repeated field.data_slice slice_message alarm.slices)))))

abbrev pub key_written : ReportTree → List Written
key_written tree = AsSigned field.key_uid tree.uid ∷ AsSigned field.key_id tree.id ∷ []

pub key-spelled : (tree : ReportTree) → key_message tree ≡ spelled (key_written tree)
unfolding key_message
key-spelled tree = sym (after (AsSigned field.key_uid tree.uid) (spelled-one (AsSigned field.key_id tree.id)))

abbrev pub alarms_written : ReportTree → List Written
alarms_written tree =
    repeated field.report_alarms alarm_message tree.alarms
    ++ repeated field.report_alarms_not_kept drop_message tree.alarms_not_kept

-- what full tables dropped, and then the alarms
abbrev pub drops_written : ReportTree → List Written
drops_written tree =
    repeated field.report_predicate_drops drop_message tree.predicate_drops
    ++ (repeated field.report_state_drops drop_message tree.state_drops
    ++ (if_above field.report_dropped_state_atoms tree.state_atoms_dropped ++ alarms_written tree))

drops-spelled : (tree : ReportTree) → spelled (drops_written tree) ≡ drops_fields tree ++ alarms_fields tree
drops-spelled tree =
    let predicates : List ℕ = repeated_field field.report_predicate_drops drop_message tree.predicate_drops in
    let states : List ℕ = repeated_field field.report_state_drops drop_message tree.state_drops in
    let atoms : List ℕ = field_if_above field.report_dropped_state_atoms tree.state_atoms_dropped in
    both (repeated field.report_predicate_drops drop_message tree.predicate_drops) _ _ _
    (spelled-repeated _ _ tree.predicate_drops)
    (both (repeated field.report_state_drops drop_message tree.state_drops) _ _ _
    (spelled-repeated _ _ tree.state_drops)
    (both (if_above field.report_dropped_state_atoms tree.state_atoms_dropped) _ _ _
    (spelled-if field.report_dropped_state_atoms tree.state_atoms_dropped)
    (both (repeated field.report_alarms alarm_message tree.alarms) _ _ _ (spelled-repeated _ _ tree.alarms)
    (spelled-repeated field.report_alarms_not_kept drop_message tree.alarms_not_kept))))
    ∙ sym (append_assoc predicates (states ++ atoms) (alarms_fields tree)
    ∙ ap (λ (l : List ℕ). predicates ++ l) (append_assoc states atoms (alarms_fields tree)))

abbrev pub config_written : ReportTree → List Written
config_written tree =
    repeated field.report_metric metric_message tree.metrics
    ++ (AsVarint field.report_last tree.last ∷ AsVarint field.report_now tree.now ∷ drops_written tree)

pub config-spelled : (tree : ReportTree) → config_message tree ≡ spelled (config_written tree)
unfolding config_message
config-spelled tree =
    sym (both (repeated field.report_metric metric_message tree.metrics) _ _ _ (spelled-repeated _ _ tree.metrics)
    (after (AsVarint field.report_last tree.last) (after (AsVarint field.report_now tree.now)
    (drops-spelled tree))))

abbrev pub report_written : ReportTree → List Written
report_written tree =
    AsBytes field.list_key (key_message tree) ∷ AsBytes field.list_report (config_message tree) ∷ []

pub report-spelled : (tree : ReportTree) → report_message tree ≡ spelled (report_written tree)
unfolding report_message
report-spelled tree =
    sym (after (AsBytes field.list_key (key_message tree))
    (spelled-one (AsBytes field.list_report (config_message tree))))
