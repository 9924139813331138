-- Rows of numbers, atoms, rows of gauges and events are read back from their bytes.
use Rattle.std.proofs.Common.{◌≡◌, ℕ, List, [], ◌∷◌, ◌++◌, map, All, refl, ap, ◌∙◌, subst, arith}
use Rattle.std.specs.Prelude.{◌==◌, not}
use Rattle.std.specs.List.{flat_map, AllByRecursion}
use Rattle.std.proofs.lemmas.List.Elements.{recursion_from_All}
use Rattle.proto_wire.specs.Spelling.{bytes_field}
use Rattle.proto_wire.specs.Grammar.{Written, AsVarint, AsBytes}
use Rattle.report_writer.specs.ReportNumbers as field
use Rattle.report_writer.specs.ReportSpelling.{truth_number, leaf_message, slice_message, bucket_message, row_message, part_field, atom_message, samples_message, gauge_message, event_message}
use Rattle.report_writer.specs.declared.tree.NumTree.{NumTree}
use Rattle.report_writer.specs.declared.tree.Part.{Part}
use Rattle.report_writer.specs.declared.tree.PartBody.{PartBody}
use Rattle.report_writer.specs.declared.tree.PartBody.TheVariants.{Num, Chunk, Bits}
use Rattle.report_writer.specs.declared.tree.AtomMsg.{AtomMsg}
use Rattle.report_writer.specs.declared.tree.AtomBucket.{AtomBucket}
use Rattle.report_writer.specs.declared.tree.GaugeTree.{GaugeTree}
use Rattle.report_writer.specs.declared.tree.EventTree.{EventTree}
use Rattle.report_show.specs.WellFormed as well
use Rattle.report_show.specs.Reading.{number_under, payloads_under, read_leaf, read_slice, read_bucket, row_said, read_row, part_of, atom_said, read_atom, samples_said, read_samples, gauge_said, read_gauge, event_said, read_event}
use Rattle.report_show.proofs.FieldLemmas.{told, IsTold, said, repeated, if_above, repeated-told, repeated-fit, payloads-other, number-other, bytes-fit}
use Rattle.report_show.proofs.Spelled.{spelled, spelled-one, row_written, row-spelled, part_written, parts-spelled, atom_written, atom-spelled, samples_written, samples-spelled, gauge_written, gauge-spelled, event_written, event-spelled}
use Rattle.report_show.proofs.NumberLemmas.{low64-same, low32-same, truth-small}
use Rattle.report_show.proofs.ToldLemmas.{Counted, all_back, varint-told, bytes-told, says, if-told, told-append, number-last_same, payloads-last, found, found-last, found-none, first-counts, second-counts, both-hold, truth-back}
use Rattle.report_show.proofs.LeavesBack.{bucket_back, slice_back, leaf_back}

-- rows with numbers
pub row_back : (row : NumTree) → well.FitsRow row → Counted (row_message row) → read_row (row_message row) ≡ row
unfolding read_row
row_back row fits counted =
    let slices_on : List Written =
    repeated field.data_slice slice_message row.slices ++ if_above field.data_overflow (truth_number row.overflow) in
    let leaves_on : List Written = repeated field.data_leaf leaf_message row.leaves ++ slices_on in
    let long : Counted (spelled (row_written row)) = subst Counted (row-spelled row) counted in
    let long_on : Counted (spelled leaves_on) =
    second-counts (repeated field.data_bucket bucket_message row.buckets) leaves_on long in
    let long_last : Counted (spelled slices_on) =
    second-counts (repeated field.data_leaf leaf_message row.leaves) slices_on long_on in
    let all : AllByRecursion IsTold (row_written row) =
    told-append (repeated field.data_bucket bucket_message row.buckets) leaves_on
    (repeated-told field.data_bucket bucket_message row.buckets (omega arith) (omega arith))
    (told-append (repeated field.data_leaf leaf_message row.leaves) slices_on
    (repeated-told field.data_leaf leaf_message row.leaves (omega arith) (omega arith))
    (told-append (repeated field.data_slice slice_message row.slices) _
    (repeated-told field.data_slice slice_message row.slices (omega arith) (omega arith))
    (if-told field.data_overflow (truth_number row.overflow) (omega arith) (omega arith)
    (truth-small row.overflow)))) in
    let is = says (row_message row) (row_written row) (row-spelled row) all counted in
    let buckets_read = all_back well.FitsBucket read_bucket bucket_message bucket_back row.buckets
    (recursion_from_All well.FitsBucket row.buckets fits.buckets)
    (repeated-fit field.data_bucket bucket_message row.buckets
    (first-counts (repeated field.data_bucket bucket_message row.buckets) leaves_on long)) in
    let leaves_read = all_back well.FitsLeaf read_leaf leaf_message leaf_back row.leaves
    (recursion_from_All well.FitsLeaf row.leaves fits.leaves)
    (repeated-fit field.data_leaf leaf_message row.leaves
    (first-counts (repeated field.data_leaf leaf_message row.leaves) slices_on long_on)) in
    let slices_read = all_back well.FitsSlice read_slice slice_message slice_back row.slices
    (recursion_from_All well.FitsSlice row.slices fits.slices)
    (repeated-fit field.data_slice slice_message row.slices
    (first-counts (repeated field.data_slice slice_message row.slices) _ long_last)) in
    let buckets : payloads_under field.data_bucket (said (row_written row)) ≡ map bucket_message row.buckets =
    found field.data_bucket bucket_message row.buckets leaves_on
    (payloads-other field.data_leaf leaf_message field.data_bucket refl row.leaves slices_on
    ∙ payloads-other field.data_slice slice_message field.data_bucket refl row.slices _
    ∙ payloads-last field.data_overflow field.data_bucket (truth_number row.overflow)) in
    let leaves : payloads_under field.data_leaf (said (row_written row)) ≡ map leaf_message row.leaves =
    payloads-other field.data_bucket bucket_message field.data_leaf refl row.buckets leaves_on
    ∙ found field.data_leaf leaf_message row.leaves slices_on
    (payloads-other field.data_slice slice_message field.data_leaf refl row.slices _
    ∙ payloads-last field.data_overflow field.data_leaf (truth_number row.overflow)) in
    let slices : payloads_under field.data_slice (said (row_written row)) ≡ map slice_message row.slices =
    payloads-other field.data_bucket bucket_message field.data_slice refl row.buckets leaves_on
    ∙ payloads-other field.data_leaf leaf_message field.data_slice refl row.leaves slices_on
    ∙ found field.data_slice slice_message row.slices _
    (payloads-last field.data_overflow field.data_slice (truth_number row.overflow)) in
    let overflow : number_under field.data_overflow (said (row_written row)) ≡ truth_number row.overflow =
    number-other field.data_bucket bucket_message field.data_overflow refl row.buckets leaves_on
    ∙ number-other field.data_leaf leaf_message field.data_overflow refl row.leaves slices_on
    ∙ number-other field.data_slice slice_message field.data_overflow refl row.slices _
    ∙ number-last_same field.data_overflow (truth_number row.overflow) (truth-small row.overflow) in
    let one = ap (map read_leaf) leaves ∙ leaves_read in
    let two = ap (map read_slice) slices ∙ slices_read in
    let three = ap (λ (n : ℕ). not (n == 0)) overflow ∙ truth-back row.overflow in
    let four = ap (map read_bucket) buckets ∙ buckets_read in
    ap row_said is ∙ (λ i. record { leaves = one i; slices = two i; overflow = three i; buckets = four i })

-- atoms
abbrev pub GoodPart : Part → Type 0
GoodPart part = well.FitsPart part × well.IsShapedPart part

pub part_told : (part : Part) → GoodPart part → IsTold (part_written part)
part_told part good = by part.body good.0
  where
    by : (body : PartBody) → well.FitsPartBody body
        → IsTold (part_written (record { number = part.number; body = body }))
    by (Num value) fits = varint-told part.number value good.1.0 (omega (arith, good.1.1)) fits
    by (Chunk bytes) fits = bytes-told part.number bytes good.1.0 (omega (arith, good.1.1))
    by (Bits bits) fits = record { named = good.1.0; numbered = omega (arith, good.1.1); fits = fits }

pub parts_told : (parts : List Part) → AllByRecursion GoodPart parts → AllByRecursion IsTold (map part_written parts)
parts_told [] all = tt
parts_told (part ∷ parts) all = (part_told part all.0, parts_told parts all.1)

pub part_same : (part : Part) → well.FitsPart part → part_of (told (part_written part)) ≡ part
part_same part fits = by part.body fits
  where
    by : (body : PartBody) → well.FitsPartBody body
        → part_of (told (part_written (record { number = part.number; body = body })))
        ≡ record { number = part.number; body = body }
    by (Num value) small = let v = low64-same value small in (λ i. record { number = part.number; body = Num (v i) })
    by (Chunk bytes) small = refl
    by (Bits bits) small = let v = low32-same bits small in (λ i. record { number = part.number; body = Bits (v i) })

pub parts_same : (parts : List Part) → AllByRecursion GoodPart parts
    → map part_of (said (map part_written parts)) ≡ parts
parts_same [] all = refl
parts_same (part ∷ parts) all =
    let first = part_same part all.0.0 in
    let others = parts_same parts all.1 in
    (λ i. first i ∷ others i)

abbrev pub GoodAtom : AtomMsg → Type 0
GoodAtom atom = well.FitsAtom atom × well.IsShapedAtom atom

pub atom_back : (atom : AtomMsg) → GoodAtom atom → Counted (atom_message atom) → read_atom (atom_message atom) ≡ atom
unfolding read_atom
atom_back atom good counted =
    let inside : List ℕ = flat_map part_field atom.parts in
    let parts : AllByRecursion GoodPart atom.parts =
    both-hold well.FitsPart well.IsShapedPart atom.parts (recursion_from_All well.FitsPart atom.parts good.0)
    (recursion_from_All well.IsShapedPart atom.parts good.1.parts) in
    let long : Counted (bytes_field atom.id inside) =
    subst Counted (atom-spelled atom ∙ spelled-one (AsBytes atom.id inside)) counted in
    let all : AllByRecursion IsTold (atom_written atom) =
    (bytes-told atom.id inside good.1.id.0 good.1.id.1, tt) in
    let is = says (atom_message atom) (atom_written atom) (atom-spelled atom) all counted in
    let is_inside = says inside (map part_written atom.parts) (parts-spelled atom.parts) (parts_told atom.parts parts)
    (bytes-fit atom.id inside long) in
    let parts_read = ap (map part_of) is_inside ∙ parts_same atom.parts parts in
    ap atom_said is ∙ (λ i. record { id = atom.id; parts = parts_read i })

pub good-atoms : (atoms : List AtomMsg) → All well.FitsAtom atoms → All well.IsShapedAtom atoms
    → AllByRecursion GoodAtom atoms
good-atoms atoms fits shaped =
    both-hold well.FitsAtom well.IsShapedAtom atoms (recursion_from_All well.FitsAtom atoms fits)
    (recursion_from_All well.IsShapedAtom atoms shaped)

-- samples
abbrev pub GoodSamples : AtomBucket → Type 0
GoodSamples bucket = well.FitsSamples bucket × well.IsShapedSamples bucket

pub samples_back : (bucket : AtomBucket) → GoodSamples bucket → Counted (samples_message bucket)
    → read_samples (samples_message bucket) ≡ bucket
unfolding read_samples
samples_back bucket good counted =
    let atoms : List Written = repeated field.bucket_atom atom_message bucket.atoms in
    let all : AllByRecursion IsTold (samples_written bucket) = (
      varint-told field.bucket_start bucket.start (omega arith) (omega arith) good.0.start,
      (
        varint-told field.bucket_end bucket.end (omega arith) (omega arith) good.0.end,
        repeated-told field.bucket_atom atom_message bucket.atoms (omega arith) (omega arith),
      ),
    ) in
    let long : Counted (spelled (samples_written bucket)) = subst Counted (samples-spelled bucket) counted in
    let long_atoms : Counted (spelled atoms) =
    second-counts (AsVarint field.bucket_start bucket.start ∷ AsVarint field.bucket_end bucket.end ∷ []) atoms long in
    let is = says (samples_message bucket) (samples_written bucket) (samples-spelled bucket) all counted in
    let start = low64-same bucket.start good.0.start in
    let end = low64-same bucket.end good.0.end in
    let found_atoms : payloads_under field.bucket_atom (said (samples_written bucket)) ≡ map atom_message bucket.atoms =
    found-last field.bucket_atom atom_message bucket.atoms in
    let atoms_read = ap (map read_atom) found_atoms
    ∙ all_back GoodAtom read_atom atom_message atom_back bucket.atoms (good-atoms bucket.atoms good.0.atoms good.1)
    (repeated-fit field.bucket_atom atom_message bucket.atoms long_atoms) in
    ap samples_said is ∙ (λ i. record { start = start i; end = end i; atoms = atoms_read i })

-- rows of gauges
abbrev pub GoodGauge : GaugeTree → Type 0
GoodGauge row = well.FitsGauge row × well.IsShapedGauge row

pub gauge_back : (row : GaugeTree) → GoodGauge row → Counted (gauge_message row) → read_gauge (gauge_message row) ≡ row
unfolding read_gauge
gauge_back row good counted =
    let slices_on : List Written = repeated field.data_slice slice_message row.slices in
    let leaves_on : List Written = repeated field.data_leaf leaf_message row.leaves ++ slices_on in
    let long : Counted (spelled (gauge_written row)) = subst Counted (gauge-spelled row) counted in
    let long_on : Counted (spelled leaves_on) =
    second-counts (repeated field.data_bucket samples_message row.buckets) leaves_on long in
    let long_last : Counted (spelled slices_on) =
    second-counts (repeated field.data_leaf leaf_message row.leaves) slices_on long_on in
    let all : AllByRecursion IsTold (gauge_written row) =
    told-append (repeated field.data_bucket samples_message row.buckets) leaves_on
    (repeated-told field.data_bucket samples_message row.buckets (omega arith) (omega arith))
    (told-append (repeated field.data_leaf leaf_message row.leaves) slices_on
    (repeated-told field.data_leaf leaf_message row.leaves (omega arith) (omega arith))
    (repeated-told field.data_slice slice_message row.slices (omega arith) (omega arith))) in
    let is = says (gauge_message row) (gauge_written row) (gauge-spelled row) all counted in
    let buckets_read = all_back GoodSamples read_samples samples_message samples_back row.buckets
    (both-hold well.FitsSamples well.IsShapedSamples row.buckets
    (recursion_from_All well.FitsSamples row.buckets good.0.buckets)
    (recursion_from_All well.IsShapedSamples row.buckets good.1))
    (repeated-fit field.data_bucket samples_message row.buckets
    (first-counts (repeated field.data_bucket samples_message row.buckets) leaves_on long)) in
    let leaves_read = all_back well.FitsLeaf read_leaf leaf_message leaf_back row.leaves
    (recursion_from_All well.FitsLeaf row.leaves good.0.leaves)
    (repeated-fit field.data_leaf leaf_message row.leaves
    (first-counts (repeated field.data_leaf leaf_message row.leaves) slices_on long_on)) in
    let slices_read = all_back well.FitsSlice read_slice slice_message slice_back row.slices
    (recursion_from_All well.FitsSlice row.slices good.0.slices)
    (repeated-fit field.data_slice slice_message row.slices long_last) in
    let buckets : payloads_under field.data_bucket (said (gauge_written row)) ≡ map samples_message row.buckets =
    found field.data_bucket samples_message row.buckets leaves_on
    (payloads-other field.data_leaf leaf_message field.data_bucket refl row.leaves slices_on
    ∙ found-none field.data_slice slice_message field.data_bucket refl row.slices) in
    let leaves : payloads_under field.data_leaf (said (gauge_written row)) ≡ map leaf_message row.leaves =
    payloads-other field.data_bucket samples_message field.data_leaf refl row.buckets leaves_on
    ∙ found field.data_leaf leaf_message row.leaves slices_on
    (found-none field.data_slice slice_message field.data_leaf refl row.slices) in
    let slices : payloads_under field.data_slice (said (gauge_written row)) ≡ map slice_message row.slices =
    payloads-other field.data_bucket samples_message field.data_slice refl row.buckets leaves_on
    ∙ payloads-other field.data_leaf leaf_message field.data_slice refl row.leaves slices_on
    ∙ found-last field.data_slice slice_message row.slices in
    let one = ap (map read_leaf) leaves ∙ leaves_read in
    let two = ap (map read_slice) slices ∙ slices_read in
    let three = ap (map read_samples) buckets ∙ buckets_read in
    ap gauge_said is ∙ (λ i. record { leaves = one i; slices = two i; buckets = three i })

-- events
abbrev pub GoodEvent : EventTree → Type 0
GoodEvent event = well.FitsEvent event × well.IsShapedEvent event

pub event_back : (event : EventTree) → GoodEvent event → Counted (event_message event)
    → read_event (event_message event) ≡ event
unfolding read_event
event_back event good counted =
    let all : AllByRecursion IsTold (event_written event) = (
      varint-told field.event_time event.at (omega arith) (omega arith) good.0.at,
      (bytes-told field.event_atom (atom_message event.atom) (omega arith) (omega arith), tt),
    ) in
    let long : Counted (spelled (event_written event)) = subst Counted (event-spelled event) counted in
    let long_atom : Counted (bytes_field field.event_atom (atom_message event.atom)) =
    subst Counted (spelled-one (AsBytes field.event_atom (atom_message event.atom)))
    (second-counts (AsVarint field.event_time event.at ∷ [])
    (AsBytes field.event_atom (atom_message event.atom) ∷ []) long) in
    let is = says (event_message event) (event_written event) (event-spelled event) all counted in
    let at = low64-same event.at good.0.at in
    let atom = atom_back event.atom (good.0.atom, good.1)
    (bytes-fit field.event_atom (atom_message event.atom) long_atom) in
    ap event_said is ∙ (λ i. record { at = at i; atom = atom i })
