-- What is kept of inner keys takes no more bytes than they weigh.
use Rattle.std.proofs.Common.{◌≡◌, ℕ, ◌+◌, ◌≤◌, Bool, true, false, if◌then◌else◌, List, [], ◌∷◌, map, Option, Some, None, refl, ap, arith}
use Rattle.std.specs.List.{AllByRecursion, sum_by}
use Rattle.std.proofs.lemmas.List.Sums.{sum_by-cons}
use Rattle.atom_record.specs.declared.value.Leaf.{Leaf}
use Rattle.atom_record.specs.declared.value.MetricKey.{MetricKey}
use Rattle.bucket_meaning.specs.Guard.{is_among}
use Rattle.config_links.specs.declared.linked.LMetric.{LMetric}
use Rattle.config_types.specs.declared.parameters.PredSpec.{PredSpec}
use Rattle.flat_form.specs.Flat.{key_items, dims_items, pair_items, option_items}
use Rattle.flat_form.specs.declared.item.Item.{Item}
use Rattle.flat_form.specs.declared.item.Item.TheVariants.{Num}
use Rattle.duration_metric.specs.InnerItems.{known_truth_number, known_items, inner_items, entry_items}
use Rattle.duration_metric.specs.declared.inner.Inner.{Inner}
use Rattle.duration_metric.specs.declared.inner.Known.{Known}
use Rattle.duration_metric.specs.declared.sparse_keys.SparseEntry.{SparseEntry}
use Rattle.metric_calls.specs.DurationCalls.{known_after, listed_after, told_after}
use Rattle.metric_meaning.specs.DurationSteps.{out_key}
use Rattle.metric_meaning.specs.Histories.{Installation, Step}
use Rattle.predicate_state.specs.PredicateItems.{flag_number}
use Rattle.predicate_state.specs.PredicateTable.{same_leaves}
use Rattle.saved_weight.proofs.SizeLaws.{full_size, full-number, full-append, full-none, full-some, full-dims, full-key}
use Rattle.saved_weight.specs.Entries.{key_weight}
use Rattle.saved_weight.specs.KindWeights.{inner_entry}

-- what was told of an inner key takes a number and its output key
pub known_size : (known : Known) → full_size (known_items known) ≡ 14 + key_weight known.out
known_size known =
    let all = full-number (known_truth_number known.truth) (key_items known.out) in
    let key = full-key known.out in
    omega arith

-- what may have been told takes no more than the key for which the inner key counts, where that was told
pub told_size : (told : Option Known) (out : MetricKey) (listed : Bool) (known : Known) → known.out ≡ out
    → told ≡ (if listed then Some known else None)
    → full_size (option_items known_items told) ≤ 23 + key_weight out
told_size told out true known same is =
    let size = full-some known_items known in
    let one = known_size known in
    let weight = ap key_weight same in
    let all = ap (λ t. full_size (option_items known_items t)) is in
    omega (arith, size, one, weight, all)
told_size told out false known same is =
    let size = full-none known_items in
    let all = ap (λ t. full_size (option_items known_items t)) is in
    omega (arith, size, all)

-- an inner key of a sum is two numbers, and what was told of it
pub inner_size : (inner : Inner) → full_size (inner_items inner) ≡ 18 + full_size (option_items known_items inner.known)
inner_size inner =
    let told = option_items known_items inner.known in
    let flag : List Item = Num (flag_number inner.tallied) ∷ told in
    let one = full-number (flag_number inner.tallied) told in
    let other = full-number inner.count flag in
    omega (arith, one, other)

-- an inner key of a longest duration is three numbers, and what was told of it
pub sparse_size : (entry : SparseEntry)
    → full_size (entry_items entry) ≡ 27 + full_size (option_items known_items entry.known)
sparse_size entry =
    let told = option_items known_items entry.known in
    let since : List Item = Num entry.since ∷ told in
    let time : List Item = Num entry.time ∷ since in
    let one = full-number entry.since told in
    let two = full-number entry.time since in
    let three = full-number entry.count time in
    omega (arith, one, two, three)

module _ (installed : Installation) (metric : LMetric) (spec : PredSpec) (steps : List Step) where
  -- what was told of an inner key takes no more than the key for which it counts
  told_within : (told : Option Known) (key : List Leaf) → told ≡ told_after installed metric spec steps key
      → full_size (option_items known_items told) ≤ 23 + key_weight (out_key installed metric steps key)
  told_within told key is =
      told_size told (out_key installed metric steps key)
      (is_among same_leaves key (listed_after installed metric spec steps)) (known_after installed metric steps key)
      refl is

  -- each of these rows of a table was told what is so of its key
  abbrev pub AreTold : {V : Type 0} → (V → Option Known) → List (List Leaf × V) → Type 0
  AreTold known_of rows =
      AllByRecursion (λ row. known_of row.1 ≡ told_after installed metric spec steps row.0) rows

  -- rows of inner keys, which take so much besides what was told, are within the entries of their keys
  pub inner_rows_within : {V : Type 0} (flat : V → List Item) (known_of : V → Option Known) (count_of : V → ℕ)
      (rows : List (List Leaf × V))
      → ((value : V) → full_size (flat value) ≤ 27 + full_size (option_items known_items (known_of value)))
      → AreTold known_of rows
      → sum_by (λ row. full_size (pair_items dims_items flat row)) rows
      ≤ sum_by (inner_entry installed metric steps)
      (map (λ (row : List Leaf × V). (row.0, count_of row.1)) rows)
  inner_rows_within flat known_of count_of [] each told = omega arith
  inner_rows_within {V = V} flat known_of count_of (row ∷ rows) each told =
      let rest = inner_rows_within flat known_of count_of rows each told.1 in
      let counted : List Leaf × V → List Leaf × ℕ = λ row. (row.0, count_of row.1) in
      let size : List Leaf × V → ℕ = λ row. full_size (pair_items dims_items flat row) in
      let one = sum_by-cons size row rows in
      let other = sum_by-cons (inner_entry installed metric steps) (counted row) (map counted rows) in
      let both = full-append (dims_items row.0) (flat row.1) in
      let dims = full-dims row.0 in
      let value = each row.1 in
      let known = told_within (known_of row.1) row.0 told.0 in
      omega (arith, rest, one, other, both, dims, value, known)
