-- Buckets, dropped numbers, slices and leaves are read back from their bytes.
use Rattle.std.proofs.Common.{◌≡◌, ℕ, ◌^◌, ◌<◌, Bool, true, false, List, [], ◌∷◌, ◌++◌, IfSome, Option, Some, None, refl, sym, ap, ◌∙◌, arith}
use Rattle.std.specs.Prelude.{nat_lt, if◌then◌else◌, drop}
use Rattle.std.specs.List.{AllByRecursion}
use Rattle.atom_record.specs.declared.value.Value.{Value}
use Rattle.atom_record.specs.declared.value.Value.TheVariants as held
use Rattle.atom_record.specs.declared.value.Slice.{Slice}
use Rattle.atom_record.specs.declared.value.Slice.TheVariants.{Plain, Group}
use Rattle.proto_wire.specs.Grammar.{AsVarint}
use Rattle.report_writer.specs.ReportNumbers as field
use Rattle.report_writer.specs.ReportSpelling.{truth_number, leaf_message, slice_message, bucket_message, drop_message}
use Rattle.report_writer.specs.declared.tree.LeafTree.{LeafTree}
use Rattle.report_writer.specs.declared.tree.NumBucket.{NumBucket}
use Rattle.report_writer.specs.declared.tree.Drop64.{Drop64}
use Rattle.report_show.specs.WellFormed as well
use Rattle.report_show.specs.Reading.{Content, leaf_said, read_leaf, slice_said, read_slice, bucket_said, read_bucket, drop_said, read_drop}
use Rattle.report_show.proofs.FieldLemmas.{IsTold, said, if_above}
use Rattle.report_show.proofs.Spelled.{value_written, raw_written, leaf_written, leaf-spelled, slice_written, slice-spelled, bucket_written, bucket-spelled, drop_written, drop-spelled}
use Rattle.report_show.proofs.NumberLemmas.{low64-same, low32-same, low32-of_low64, signed-small, signed64-same, signed32-small, signed32-same, truth-same, truth-small}
use Rattle.report_show.proofs.ToldLemmas.{Counted, varint-told, signed-told, bytes-told, says, if-told, told-append, zero-if}

-- buckets
pub bucket_back : (bucket : NumBucket) → well.FitsBucket bucket → Counted (bucket_message bucket)
    → read_bucket (bucket_message bucket) ≡ bucket
unfolding read_bucket
bucket_back bucket fits counted =
    let small = signed-small bucket.value fits.value in
    let all : AllByRecursion IsTold (bucket_written bucket) = (
      varint-told field.bucket_start bucket.start (omega arith) (omega arith) fits.start,
      (
        varint-told field.bucket_end bucket.end (omega arith) (omega arith) fits.end,
        (signed-told field.bucket_number bucket.value (omega arith) (omega arith) small, tt),
      ),
    ) in
    let start = low64-same bucket.start fits.start in
    let end = low64-same bucket.end fits.end in
    let value = signed64-same bucket.value fits.value in
    ap bucket_said (says (bucket_message bucket) (bucket_written bucket) (bucket-spelled bucket) all counted)
    ∙ (λ i. record { start = start i; end = end i; value = value i })

-- drops
pub drop_back : (drop : Drop64) → well.FitsDrop drop → Counted (drop_message drop)
    → read_drop (drop_message drop) ≡ drop
unfolding read_drop
drop_back drop fits counted =
    let all : AllByRecursion IsTold (drop_written drop) = (
      signed-told field.drops_id drop.id (omega arith) (omega arith) (signed-small drop.id fits.id),
      (varint-told field.drops_number drop.number (omega arith) (omega arith) fits.number, tt),
    ) in
    let id = signed64-same drop.id fits.id in
    let number = low64-same drop.number fits.number in
    ap drop_said (says (drop_message drop) (drop_written drop) (drop-spelled drop) all counted)
    ∙ (λ i. record { id = id i; number = number i })

-- slices
pub slice_told : (slice : Slice) → well.FitsSlice slice → AllByRecursion IsTold (slice_written slice)
slice_told (Plain atom_id value) fits = (
  varint-told field.slice_atom_id atom_id (omega arith) (omega arith) (omega (arith, fits.0)),
  (signed-told field.slice_value value (omega arith) (omega arith) (signed32-small value fits.1), tt),
)
slice_told (Group atom_id group) fits = (
  varint-told field.slice_atom_id atom_id (omega arith) (omega arith) (omega (arith, fits.0)),
  (signed-told field.slice_group_id group (omega arith) (omega arith) (signed-small group fits.1), tt),
)

pub slice_same : (slice : Slice) → well.FitsSlice slice → slice_said (said (slice_written slice)) ≡ slice
slice_same (Plain atom_id value) fits =
    let id = low32-of_low64 atom_id fits.0 in
    let same = signed32-same value fits.1 in
    (λ i. Plain (id i) (same i))
slice_same (Group atom_id group) fits =
    let id = low32-of_low64 atom_id fits.0 in
    let same = signed64-same group fits.1 in
    (λ i. Group (id i) (same i))

pub slice_back : (slice : Slice) → well.FitsSlice slice → Counted (slice_message slice)
    → read_slice (slice_message slice) ≡ slice
unfolding read_slice
slice_back slice fits counted =
    let all = slice_told slice fits in
    ap slice_said (says (slice_message slice) (slice_written slice) (slice-spelled slice) all counted)
    ∙ slice_same slice fits

-- leaves
pub value_told : (value : Option Value) → IfSome value well.FitsValue → AllByRecursion IsTold (value_written value)
value_told None fits = tt
value_told (Some (held.Int value)) fits =
    (signed-told field.dimension_int value (omega arith) (omega arith) (signed32-small value fits), tt)
value_told (Some (held.Long value)) fits =
    (signed-told field.dimension_long value (omega arith) (omega arith) (signed-small value fits), tt)
value_told (Some (held.Bool value)) fits =
    (varint-told field.dimension_bool (truth_number value) (omega arith) (omega arith) (truth-small value), tt)
value_told (Some (held.Str text)) fits = (bytes-told field.dimension_str text (omega arith) (omega arith), tt)
value_told (Some (held.Raw bytes)) fits = tt
value_told (Some (held.Bits32 bits)) fits =
    (record { named = omega arith; numbered = omega arith; fits = fits }, tt)

pub raw_told : (value : Option Value) → AllByRecursion IsTold (raw_written value)
raw_told None = tt
raw_told (Some (held.Int value)) = tt
raw_told (Some (held.Long value)) = tt
raw_told (Some (held.Bool value)) = tt
raw_told (Some (held.Str text)) = tt
raw_told (Some (held.Raw bytes)) = (bytes-told field.dimension_raw bytes (omega arith) (omega arith), tt)
raw_told (Some (held.Bits32 bits)) = tt

-- what is read of the fields of a leaf, by whether its place is above 0
abbrev pub leaf_fields : ℕ → Option Value → Bool → List Content
leaf_fields place value above =
    said (value_written value
    ++ ((if above then AsVarint field.dimension_place place ∷ [] else []) ++ raw_written value))

pub leaf-same : (place : ℕ) (value : Option Value) → place < 2 ^ 32 → IfSome value well.FitsValue
    → (above : Bool) → (above ≡ false → place ≡ 0)
    → leaf_said (leaf_fields place value above) ≡ record { place = place; value = value }
leaf-same place None small fits true is =
    let p = low32-of_low64 place small in (λ i. record { place = p i; value = None })
leaf-same place None small fits false is =
    let p = sym (is refl) in (λ i. record { place = p i; value = None })
leaf-same place (Some (held.Int value)) small fits true is =
    let p = low32-of_low64 place small in
    let v = signed32-same value fits in
    (λ i. record { place = p i; value = Some (held.Int (v i)) })
leaf-same place (Some (held.Int value)) small fits false is =
    let p = sym (is refl) in
    let v = signed32-same value fits in
    (λ i. record { place = p i; value = Some (held.Int (v i)) })
leaf-same place (Some (held.Long value)) small fits true is =
    let p = low32-of_low64 place small in
    let v = signed64-same value fits in
    (λ i. record { place = p i; value = Some (held.Long (v i)) })
leaf-same place (Some (held.Long value)) small fits false is =
    let p = sym (is refl) in
    let v = signed64-same value fits in
    (λ i. record { place = p i; value = Some (held.Long (v i)) })
leaf-same place (Some (held.Bool value)) small fits true is =
    let p = low32-of_low64 place small in
    let v = truth-same value in
    (λ i. record { place = p i; value = Some (held.Bool (v i)) })
leaf-same place (Some (held.Bool value)) small fits false is =
    let p = sym (is refl) in
    let v = truth-same value in
    (λ i. record { place = p i; value = Some (held.Bool (v i)) })
leaf-same place (Some (held.Str text)) small fits true is =
    let p = low32-of_low64 place small in (λ i. record { place = p i; value = Some (held.Str text) })
leaf-same place (Some (held.Str text)) small fits false is =
    let p = sym (is refl) in (λ i. record { place = p i; value = Some (held.Str text) })
leaf-same place (Some (held.Raw bytes)) small fits true is =
    let p = low32-of_low64 place small in (λ i. record { place = p i; value = Some (held.Raw bytes) })
leaf-same place (Some (held.Raw bytes)) small fits false is =
    let p = sym (is refl) in (λ i. record { place = p i; value = Some (held.Raw bytes) })
leaf-same place (Some (held.Bits32 bits)) small fits true is =
    let p = low32-of_low64 place small in
    let v = low32-same bits fits in
    (λ i. record { place = p i; value = Some (held.Bits32 (v i)) })
leaf-same place (Some (held.Bits32 bits)) small fits false is =
    let p = sym (is refl) in
    let v = low32-same bits fits in
    (λ i. record { place = p i; value = Some (held.Bits32 (v i)) })

pub leaf_back : (leaf : LeafTree) → well.FitsLeaf leaf → Counted (leaf_message leaf)
    → read_leaf (leaf_message leaf) ≡ leaf
unfolding read_leaf
leaf_back leaf fits counted =
    let all = told-append (value_written leaf.value) _ (value_told leaf.value fits.value)
    (told-append (if_above field.dimension_place leaf.place) _
    (if-told field.dimension_place leaf.place (omega arith) (omega arith) (omega (arith, fits.place)))
    (raw_told leaf.value)) in
    ap leaf_said (says (leaf_message leaf) (leaf_written leaf) (leaf-spelled leaf) all counted)
    ∙ (leaf-same leaf.place leaf.value fits.place fits.value (nat_lt 0 leaf.place) (zero-if leaf.place))
