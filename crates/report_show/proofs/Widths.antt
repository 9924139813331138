-- Every tree that is read has numbers that fit their types.
use Rattle.std.proofs.Common.{ℕ, ◌^◌, ◌<◌, Bool, true, false, List, [], ◌∷◌, map, All, IfSome, Option, None, FitsSigned, arith}
use Rattle.std.specs.Prelude.{◌==◌, if◌then◌else◌, drop}
use Rattle.std.specs.Int.{w32, w64, cast_signed}
use Rattle.std.proofs.lemmas.List.Elements.{All-nil, All-cons}
use mir.ValLaws.{to_z-Fits}
use Rattle.atom_record.specs.declared.value.Value.{Value}
use Rattle.proto_wire.specs.Fields.{BodyOf, Varint, Fixed64, Bytes, Fixed32}
use Rattle.proto_wire.specs.Fields as wire
use Rattle.report_writer.specs.ReportNumbers as field
use Rattle.report_writer.specs.declared.tree.LeafTree.{LeafTree}
use Rattle.report_show.specs.WellFormed as well
use Rattle.report_show.specs.Reading.{Content, contents_in, low32, held_number, held_bits, leading_number, leading_bytes, leading_id, number_under, payloads_under, value_said, leaf_adding, leaf_adding_first, read_leaf, slice_under, read_slice, read_bucket, read_row, part_of, read_atom, read_samples, read_gauge, read_event, body_said, read_metric, read_drop, read_alarm, read_report}

low32-fits : (n : ℕ) → low32 n < 2 ^ 32
low32-fits n = omega arith

number-fits : (body : BodyOf) → held_number body < 2 ^ 64
number-fits (Varint value) = omega arith
number-fits (Fixed64 value) = omega arith
number-fits (Bytes bytes) = omega arith
number-fits (wire.Group bytes) = omega arith
number-fits (Fixed32 value) = omega arith

bits-fit : (body : BodyOf) → held_bits body < 2 ^ 32
bits-fit (Varint value) = omega arith
bits-fit (Fixed64 value) = omega arith
bits-fit (Bytes bytes) = omega arith
bits-fit (wire.Group bytes) = omega arith
bits-fit (Fixed32 value) = omega arith

signed64-fits : (n : ℕ) → n < 2 ^ 64 → FitsSigned w64 (cast_signed w64 n)
signed64-fits n small = to_z-Fits w64 n (record { fits = small })

signed32-fits : (n : ℕ) → FitsSigned w32 (cast_signed w32 (low32 n))
signed32-fits n = to_z-Fits w32 (low32 n) (record { fits = low32-fits n })

first-fits : (fields : List Content) → leading_number fields < 2 ^ 64
first-fits [] = omega arith
first-fits (first ∷ fields) = number-fits first.1

-- one of two
chosen : {X : Type 0} (P : X → Type 0) (b : Bool) (x y : X) → P x → P y → P (if b then x else y)
chosen P true x y one two = one
chosen P false x y one two = two

in-fits : (number : ℕ) (fields : List Content) → number_under number fields < 2 ^ 64
in-fits number [] = omega arith
in-fits number (first ∷ fields) =
    chosen (λ n. n < 2 ^ 64) (first.0 == number) _ _ (number-fits first.1) (in-fits number fields)

-- all that are read of messages fit, if each does
all-read : {X : Type 0} (P : X → Type 0) (read : List ℕ → X) → ((bytes : List ℕ) → P (read bytes))
    → (messages : List (List ℕ)) → All P (map read messages)
all-read P read one [] = All-nil P
all-read P read one (bytes ∷ messages) =
    All-cons P (read bytes) (map read messages) (one bytes) (all-read P read one messages)

value-fits : (told : Content) → IfSome (value_said told) well.FitsValue
value-fits told =
    let P : Option Value → Type 0 = λ value. IfSome value well.FitsValue in
    chosen P (told.0 == field.dimension_str) _ _ tt
    (chosen P (told.0 == field.dimension_int) _ _ (signed32-fits (held_number told.1))
    (chosen P (told.0 == field.dimension_long) _ _ (signed64-fits (held_number told.1) (number-fits told.1))
    (chosen P (told.0 == field.dimension_bool) _ _ tt
    (chosen P (told.0 == field.dimension_float) _ _ (bits-fit told.1)
    (chosen P (told.0 == field.dimension_raw) _ _ tt tt)))))

with-fits : (leaf : LeafTree) (told : Content) → well.FitsLeaf leaf → well.FitsLeaf (leaf_adding leaf told)
with-fits leaf told fits =
    chosen well.FitsLeaf (told.0 == field.dimension_place) _ _
    (record { place = low32-fits (held_number told.1); value = fits.value })
    (record { place = fits.place; value = value-fits told })

with_first-fits : (leaf : LeafTree) (fields : List Content) → well.FitsLeaf leaf
    → well.FitsLeaf (leaf_adding_first leaf fields)
with_first-fits leaf [] fits = fits
with_first-fits leaf (first ∷ fields) fits = with-fits leaf first fits

leaf-fits : (bytes : List ℕ) → well.FitsLeaf (read_leaf bytes)
unfolding read_leaf
leaf-fits bytes =
    let none : LeafTree = record { place = 0; value = None } in
    let fields : List Content = contents_in bytes in
    with_first-fits (leaf_adding_first none fields) (drop 1 fields)
    (with_first-fits none fields (record { place = omega arith; value = tt }))

slice_with-fits : (atom_id : ℕ) (fields : List Content) → atom_id < 2 ^ 32 → well.FitsSlice (slice_under atom_id fields)
slice_with-fits atom_id [] small = (small, signed32-fits 0)
slice_with-fits atom_id (second ∷ fields) small =
    chosen well.FitsSlice (second.0 == field.slice_group_id) _ _
    (small, signed64-fits (held_number second.1) (number-fits second.1)) (small, signed32-fits (held_number second.1))

slice-fits : (bytes : List ℕ) → well.FitsSlice (read_slice bytes)
unfolding read_slice
slice-fits bytes =
    let fields : List Content = contents_in bytes in
    slice_with-fits (low32 (leading_number fields)) (drop 1 fields) (low32-fits (leading_number fields))

bucket-fits : (bytes : List ℕ) → well.FitsBucket (read_bucket bytes)
unfolding read_bucket
bucket-fits bytes =
    let fields : List Content = contents_in bytes in
    record {
      start = first-fits fields;
      end = first-fits (drop 1 fields);
      value = signed64-fits (leading_number (drop 1 (drop 1 fields))) (first-fits (drop 1 (drop 1 fields)));
    }

row-fits : (bytes : List ℕ) → well.FitsRow (read_row bytes)
unfolding read_row
row-fits bytes =
    let fields : List Content = contents_in bytes in
    record {
      leaves = all-read well.FitsLeaf read_leaf leaf-fits (payloads_under field.data_leaf fields);
      slices = all-read well.FitsSlice read_slice slice-fits (payloads_under field.data_slice fields);
      buckets = all-read well.FitsBucket read_bucket bucket-fits (payloads_under field.data_bucket fields);
    }

part_body-fits : (number : ℕ) (body : BodyOf) → well.FitsPart (part_of (number, body))
part_body-fits number (Varint value) = omega arith
part_body-fits number (Fixed64 value) = omega arith
part_body-fits number (Bytes bytes) = tt
part_body-fits number (wire.Group bytes) = omega arith
part_body-fits number (Fixed32 value) = omega arith

parts-fit : (fields : List Content) → All well.FitsPart (map part_of fields)
parts-fit [] = All-nil well.FitsPart
parts-fit (told ∷ fields) =
    All-cons well.FitsPart (part_of told) (map part_of fields) (part_body-fits told.0 told.1) (parts-fit fields)

atom-fits : (bytes : List ℕ) → well.FitsAtom (read_atom bytes)
unfolding read_atom
atom-fits bytes = parts-fit (contents_in (leading_bytes (contents_in bytes)))

samples-fit : (bytes : List ℕ) → well.FitsSamples (read_samples bytes)
unfolding read_samples
samples-fit bytes =
    let fields : List Content = contents_in bytes in
    record {
      start = first-fits fields;
      end = first-fits (drop 1 fields);
      atoms = all-read well.FitsAtom read_atom atom-fits (payloads_under field.bucket_atom fields);
    }

gauge-fits : (bytes : List ℕ) → well.FitsGauge (read_gauge bytes)
unfolding read_gauge
gauge-fits bytes =
    let fields : List Content = contents_in bytes in
    record {
      leaves = all-read well.FitsLeaf read_leaf leaf-fits (payloads_under field.data_leaf fields);
      slices = all-read well.FitsSlice read_slice slice-fits (payloads_under field.data_slice fields);
      buckets = all-read well.FitsSamples read_samples samples-fit (payloads_under field.data_bucket fields);
    }

event-fits : (bytes : List ℕ) → well.FitsEvent (read_event bytes)
unfolding read_event
event-fits bytes =
    let fields : List Content = contents_in bytes in
    record { at = first-fits fields; atom = atom-fits (leading_bytes (drop 1 fields)) }

body-fits : (number : ℕ) (bytes : List ℕ) → well.FitsBody (body_said number bytes)
body-fits number bytes =
    let inside : List (List ℕ) = payloads_under field.wrapper_data (contents_in bytes) in
    chosen well.FitsBody (number == field.shown_events) _ _ (all-read well.FitsEvent read_event event-fits inside)
    (chosen well.FitsBody (number == field.shown_counts) _ _ (all-read well.FitsRow read_row row-fits inside)
    (chosen well.FitsBody (number == field.shown_durations) _ _ (all-read well.FitsRow read_row row-fits inside)
    (chosen well.FitsBody (number == field.shown_values) _ _ (all-read well.FitsRow read_row row-fits inside)
    (all-read well.FitsGauge read_gauge gauge-fits inside))))

metric-fits : (bytes : List ℕ) → well.FitsMetric (read_metric bytes)
unfolding read_metric
metric-fits bytes =
    let fields : List Content = contents_in bytes in
    record {
      id = signed64-fits (leading_number fields) (first-fits fields);
      base = in-fits field.shown_base fields;
      size = in-fits field.shown_size fields;
      dropped = in-fits field.shown_dropped fields;
      not_kept = in-fits field.shown_not_kept fields;
      missing = in-fits field.shown_missing fields;
      body = body-fits (leading_id (drop 1 fields)) (leading_bytes (drop 1 fields));
    }

drop-fits : (bytes : List ℕ) → well.FitsDrop (read_drop bytes)
unfolding read_drop
drop-fits bytes =
    let fields : List Content = contents_in bytes in
    record {
      id = signed64-fits (leading_number fields) (first-fits fields);
      number = first-fits (drop 1 fields);
    }

alarm-fits : (bytes : List ℕ) → well.FitsAlarm (read_alarm bytes)
unfolding read_alarm
alarm-fits bytes =
    let fields : List Content = contents_in bytes in
    record {
      id = signed64-fits (leading_number fields) (first-fits fields);
      at = first-fits (drop 1 fields);
      sum = first-fits (drop 1 (drop 1 fields));
      leaves = all-read well.FitsLeaf read_leaf leaf-fits (payloads_under field.data_leaf fields);
      slices = all-read well.FitsSlice read_slice slice-fits (payloads_under field.data_slice fields);
    }

-- the tree of any bytes
pub tree-fits : (bytes : List ℕ) → well.FitsReport (read_report bytes)
unfolding read_report
tree-fits bytes =
    let both : List Content = contents_in bytes in
    let whose : List Content = contents_in (leading_bytes both) in
    let fields : List Content = contents_in (leading_bytes (drop 1 both)) in
    record {
      uid = signed32-fits (leading_number whose);
      id = signed64-fits (leading_number (drop 1 whose)) (first-fits (drop 1 whose));
      last = in-fits field.report_last fields;
      current = in-fits field.report_now fields;
      metrics = all-read well.FitsMetric read_metric metric-fits (payloads_under field.report_metric fields);
      predicate_drops = all-read well.FitsDrop read_drop drop-fits (payloads_under field.report_predicate_drops fields);
      state_drops = all-read well.FitsDrop read_drop drop-fits (payloads_under field.report_state_drops fields);
      state_atoms_dropped = in-fits field.report_dropped_state_atoms fields;
      alarms = all-read well.FitsAlarm read_alarm alarm-fits (payloads_under field.report_alarms fields);
      alarms_not_kept =
          all-read well.FitsDrop read_drop drop-fits (payloads_under field.report_alarms_not_kept fields);
    }
