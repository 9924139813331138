-- A pulled gauge takes no more bytes than its metric weighs.
use Rattle.std.proofs.Common.{◌≡◌, ℕ, ◌+◌, ◌≤◌, List, [], ◌∷◌, map, Option, Some, None, if◌then◌else◌, Bool, true, false, refl, ap, subst, ◌∙◌, arith}
use Rattle.std.specs.Prelude.{◌==◌, filter}
use Rattle.std.specs.List.{flat_map, sum_by, last_or}
use Rattle.std.specs.Option.{option_map, unwrap_or}
use Rattle.std.proofs.lemmas.List.Sums.{sum_by-cons}
use Rattle.atom_record.specs.declared.atom.Atom.{Atom}
use Rattle.atom_record.specs.declared.value.MetricKey.{MetricKey}
use Rattle.bucket_meaning.specs.Marks.{Books}
use Rattle.config_links.specs.declared.linked.LKind.TheVariants.{PulledGauge as PulledGaugeKind}
use Rattle.config_links.specs.declared.linked.LMetric.{LMetric}
use Rattle.config_types.specs.declared.parameters.Sampling.{Sampling}
use Rattle.field_select.specs.LeafValues.{some_leaf_picks}
use Rattle.field_select.specs.declared.leaf.FieldSet.{FieldSet}
use Rattle.flat_form.specs.Flat.{key_items, atom_items, list_items}
use Rattle.flat_form.specs.Weight.{entry_weight}
use Rattle.flat_form.specs.declared.item.Item.{Item}
use Rattle.flat_form.specs.declared.item.Item.TheVariants.{Num}
use Rattle.gauge_metric.specs.PulledItems.{sample_items, mode_number, told_number, snapshot_items, pulled_rest, pulled_items}
use Rattle.gauge_metric.specs.PulledSampling.{PulledGaugeCall, PulledGaugeParams, snapshots_in, last_snapshot, pulled_collecting}
use Rattle.gauge_metric.specs.PulledStands.{HoldsSampled, PulledGaugeStandsFor}
use Rattle.gauge_metric.specs.declared.gauge.KeyedAtom.{KeyedAtom}
use Rattle.gauge_metric.specs.declared.pulled.PulledGauge.{PulledGauge}
use Rattle.gauge_metric.specs.declared.snapshot.SnapAtoms.{SnapAtoms}
use Rattle.gauge_metric.specs.declared.snapshot.SnapAtoms.TheVariants.{Snapshot, Trigger}
use Rattle.metric_calls.proofs.MemoriesLemmas.{remembered-is}
use Rattle.metric_calls.proofs.PulledGaugeCallsLemmas.{pulled_gauges_agree}
use Rattle.metric_calls.proofs.SnapshotCallsLemmas.{truth_and, TakesTold, told_follows}
use Rattle.metric_calls.specs.Askings.{calls_by_steps}
use Rattle.metric_calls.specs.Memories.{Memory, remembered}
use Rattle.metric_calls.specs.PulledGaugeCalls.{sample_spec, pulled_gauge_params, handed_samples, gauge_telling, pulled_gauge_asking}
use Rattle.metric_calls.specs.PushedGaugeCalls.{handed_sample}
use Rattle.metric_calls.specs.SnapshotCalls.{truth_in}
use Rattle.metric_meaning.specs.Histories.{Installation, Step}
use Rattle.metric_meaning.specs.PredicateSteps.{named_truth}
use Rattle.metric_meaning.specs.PulledGaugeSteps.{pulled_samples, pulled_gauge_way}
use Rattle.metric_meaning.specs.Samples.{sample_of}
use Rattle.metric_meaning.specs.Scenes.{scene_after}
use Rattle.metric_meaning.specs.SnapshotSteps.{snapshot_found, pulled_key}
use Rattle.metric_producer.specs.Calls.{Got, Learned, Crossed, CutAt, Took}
use Rattle.predicate_state.specs.declared.truth.Truth.{Truth}
use Rattle.saved_weight.proofs.BooksLaws.{books_are}
use Rattle.saved_weight.proofs.EachLaws.{filter_within}
use Rattle.saved_weight.proofs.GaugeWithin.{sampled_items, sampled_in, sampled_within}
use Rattle.saved_weight.proofs.SizeLaws.{full_size, full-number, full-append, full-list, full-key, full-atom, sum_by-map, each_within}
use Rattle.saved_weight.specs.Entries.{atom_weight}
use Rattle.saved_weight.specs.KindWeights.{pulled_entry, atoms_found, snapshot_weight, sampled_weight}

-- the last snapshot takes the place of the one before, and a trigger leaves it
abbrev takes_samples : Option (List KeyedAtom) → SnapAtoms → Option (List KeyedAtom)
takes_samples was (Snapshot found) = found
takes_samples was Trigger = was

-- what a pulled gauge remembers of calls: the condition that was told last, and the last snapshot
abbrev gauge_memory : Memory (Option Truth × Option (List KeyedAtom)) SnapAtoms Truth
gauge_memory = truth_and takes_samples

-- the snapshot that was told last is the one that is remembered
snapshot_remembered : (truth : Option Truth) (told : Option (Option (List KeyedAtom))) (calls : List PulledGaugeCall)
    → unwrap_or (last_or told (flat_map snapshots_in calls)) None
    ≡ (remembered gauge_memory (truth, unwrap_or told None) calls).1
snapshot_remembered truth told [] = refl
snapshot_remembered truth told (Got at (Snapshot next) ∷ calls) = snapshot_remembered truth (Some next) calls
snapshot_remembered truth told (Got at Trigger ∷ calls) = snapshot_remembered truth told calls
snapshot_remembered truth told (Learned at now ∷ calls) = snapshot_remembered (Some now) told calls
snapshot_remembered truth told (Crossed crossings ∷ calls) = snapshot_remembered truth told calls
snapshot_remembered truth told (CutAt at ∷ calls) = snapshot_remembered truth told calls
snapshot_remembered truth told (Took ∷ calls) = snapshot_remembered truth told calls

-- the samples of a snapshot's atoms, as a gauge has them
abbrev samples_shown : LMetric → Option FieldSet → Option (List Atom) → Option (List KeyedAtom)
samples_shown metric fields found = handed_samples (option_map (pulled_samples metric fields) found)

-- what is told is taken as it is, and a trigger changes nothing of it
gauge_told : (metric : LMetric) (fields : Option FieldSet) (trigger : Option ℕ)
    → TakesTold (gauge_telling metric fields trigger) takes_samples (samples_shown metric fields)
gauge_told metric fields trigger = record {
  snapshot = λ was found. refl;
  atom = λ was at truths truth. by was at truth (named_truth trigger truths);
} where
  by : (was : Option (List KeyedAtom)) (at : ℕ) (truth : Option Truth) (triggers : Bool)
      → remembered gauge_memory (truth, was)
      (map (λ (event : SnapAtoms). Got at event) (if triggers then Trigger ∷ [] else []))
      ≡ (truth, was)
  by was at truth true = refl
  by was at truth false = refl

module _ (installed : Installation) (metric : LMetric) (fields : Option FieldSet) (samples : ℕ) (mode : Sampling)
    (trigger : Option ℕ) where
  -- the last snapshot by calls is that by steps
  snapshot_is : (steps : List Step)
      → last_snapshot (calls_by_steps (pulled_gauge_asking installed metric fields samples mode trigger)
      pulled_collecting steps)
      ≡ samples_shown metric fields (snapshot_found installed metric steps)
  snapshot_is steps =
      let asking = pulled_gauge_asking installed metric fields samples mode trigger in
      let now : List Step → Option Truth × Option (List KeyedAtom) = λ steps. (
        Some (truth_in (scene_after installed steps) metric),
        samples_shown metric fields (snapshot_found installed metric steps),
      ) in
      snapshot_remembered None None (calls_by_steps asking pulled_collecting steps)
      ∙ ap (λ (told : Option Truth × Option (List KeyedAtom)). told.1)
      (remembered-is asking pulled_collecting gauge_memory (None, None) now
      (told_follows (pulled_gauge_way installed metric fields samples mode trigger)
      (pulled_gauge_params installed.base metric (sample_spec samples mode)) (gauge_telling metric fields trigger)
      installed metric takes_samples (samples_shown metric fields) (gauge_told metric fields trigger) None) steps)

  -- an atom's sample holds no more than the atom
  sample_within : (chosen : Option FieldSet) (atom : Atom) → atom_weight (sample_of chosen atom) ≤ atom_weight atom
  sample_within None atom = omega arith
  sample_within (Some set) atom = by (atom.id == set.atom_id) where
    by : (same : Bool)
        → sum_by entry_weight (if same then filter (some_leaf_picks set.leaves atom.fields) atom.fields else [])
        ≤ atom_weight atom
    by true = filter_within entry_weight (some_leaf_picks set.leaves atom.fields) atom.fields
    by false = omega arith

  -- an atom's sample takes no more than the atom's entry
  kept_sample : (atom : Atom)
      → full_size (sample_items (handed_sample (pulled_key metric atom, sample_of fields atom)))
      ≤ pulled_entry metric atom
  kept_sample atom =
      let key = pulled_key metric atom in
      let sample = sample_of fields atom in
      let both = full-append (key_items key) (atom_items sample) in
      let one = full-key key in
      let other = full-atom sample in
      let less = sample_within fields atom in
      omega (arith, both, one, other, less)

  -- the samples of a snapshot take no more than its atoms' entries
  shown_within : (found : Option (List Atom))
      → full_size (snapshot_items (samples_shown metric fields found))
      ≤ 18 + sum_by (pulled_entry metric) (atoms_found found)
  shown_within None = let size = full-list (list_items sample_items) [] in omega (arith, size)
  shown_within (Some atoms) =
      let pair : Atom → MetricKey × Atom = λ atom. (pulled_key metric atom, sample_of fields atom) in
      let size : KeyedAtom → ℕ = λ sample. full_size (sample_items sample) in
      let all = map handed_sample (map pair atoms) in
      let outer = full-list (list_items sample_items) (all ∷ []) in
      let one = sum_by-cons (λ some. full_size (list_items sample_items some)) all [] in
      let inner = full-list sample_items all in
      let first : sum_by size all ≡ sum_by (λ p. size (handed_sample p)) (map pair atoms) =
      sum_by-map size handed_sample (map pair atoms) in
      let second : sum_by (λ p. size (handed_sample p)) (map pair atoms)
      ≡ sum_by (λ atom. size (handed_sample (pair atom))) atoms =
      sum_by-map (λ p. size (handed_sample p)) pair atoms in
      let less = each_within (λ atom. size (handed_sample (pair atom))) (pulled_entry metric) atoms kept_sample in
      omega (arith, outer, one, inner, first, second, less)

  -- a gauge's six numbers
  numbers_size : (it : PulledGauge) → full_size (pulled_items it) ≡ 54 + full_size (pulled_rest it)
  numbers_size it =
      let rest = pulled_rest it in
      let one : List Item = Num it.missing ∷ rest in
      let two : List Item = Num it.dropped ∷ one in
      let three : List Item = Num (told_number it.told) ∷ two in
      let four : List Item = Num (mode_number it.mode) ∷ three in
      let five : List Item = Num it.samples ∷ four in
      let a = full-number it.missing rest in
      let b = full-number it.dropped one in
      let c = full-number (told_number it.told) two in
      let d = full-number (mode_number it.mode) three in
      let e = full-number it.samples four in
      let f = full-number it.start five in
      omega (arith, a, b, c, d, e, f)

  -- what a gauge holds takes six numbers, and what its metric weighs by its books
  books_within : (it : PulledGauge) (params : PulledGaugeParams) (books : Books (MetricKey × Atom))
      → HoldsSampled it params books
      → full_size (sampled_items it.table it.kept) ≤ 54 + sampled_in params.spec.samples params.bound books
  books_within it params books has =
      sampled_within params.spec.samples params.bound 0 it.table it.kept books has.bound has.table has.kept

  -- a gauge after these steps takes fourteen numbers, and what its metric weighs after them
  pub pulled_gauge_within : metric.kind ≡ PulledGaugeKind fields samples mode trigger → (steps : List Step)
      (it : PulledGauge)
      → let asking = pulled_gauge_asking installed metric fields samples mode trigger in
      PulledGaugeStandsFor it asking.params (calls_by_steps asking pulled_collecting steps)
      → full_size (pulled_items it)
      ≤ 126 + (snapshot_weight installed metric steps
      + sampled_weight samples (pulled_gauge_way installed metric fields samples mode trigger) steps)
  pulled_gauge_within kind steps it stands =
      let asking = pulled_gauge_asking installed metric fields samples mode trigger in
      let same = books_are asking pulled_collecting
      (pulled_gauges_agree installed metric fields samples mode trigger kind) steps in
      let books = subst (λ b. full_size (sampled_items it.table it.kept) ≤ 54 + sampled_in samples metric.bound b) same
      (books_within it asking.params _ stands.books) in
      let shown = stands.snapshot ∙ snapshot_is steps in
      let size = ap (λ s. full_size (snapshot_items s)) shown in
      let snapshot = shown_within (snapshot_found installed metric steps) in
      let numbers = numbers_size it in
      let rest = full-append (snapshot_items it.snapshot) (sampled_items it.table it.kept) in
      omega (arith, books, size, snapshot, numbers, rest)
