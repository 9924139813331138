-- Keys are counted once more each, and no count comes to its end.
use Rattle.std.proofs.Common.{◌≡◌, ℕ, zero, suc, ◌+◌, ◌^◌, ◌<◌, ◌≤◌, Bool, true, false, if◌then◌else◌, List, [], ◌∷◌, ◌++◌, length, take, slice_get, Option, Some, None, refl, sym, ap, subst, ◌∙◌, arith, ⊎_elim, append-nil}
use Rattle.std.specs.List.{flat_map}
use Rattle.std.specs.Map.{lookup}
use Rattle.std.proofs.lemmas.Bool.{false≢true}
use Rattle.std.proofs.lemmas.Grind.{flat_map-append}
use Rattle.std.proofs.lemmas.List.{take_all}
use Rattle.std.proofs.lemmas.Option.{none-some}
use Rattle.atom_record.specs.declared.value.MetricKey.{MetricKey}
use Rattle.bucket_meaning.specs.Guard.{is_among}
use Rattle.bucket_meaning.specs.Limits.{most_keys}
use Rattle.metric_kinds.specs.Keys.{is_same_key}
use Rattle.predicate_state.specs.PredicateTable.{LeafKey}
use Rattle.duration_metric.specs.declared.inner.Known.{Known}
use Rattle.duration_metric.specs.declared.inner.Inner.{Inner}
use Rattle.duration_metric.specs.Tallies.{tally_at, how_often, freed_key, row_tallied, Raises, RaisesAll, CountsFew, NewZeros, ZerosAmong}
use Rattle.duration_metric.specs.SumSteps.{found_tallied, CountsRight}
use Rattle.duration_metric.proofs.StepLemmas.{next_got, past_all}
use Rattle.duration_metric.proofs.TallyLemmas.{how_often-append}

-- a key stands among some no more often than there are
how_often-most : (key : MetricKey) (keys : List MetricKey) → how_often key keys ≤ length keys
how_often-most key [] = omega arith
how_often-most key (other ∷ keys) = omega (arith, one_most (is_same_key other key), how_often-most key keys) where
  one_most : (b : Bool) → (if b then 1 else 0) ≤ 1
  one_most true = omega arith
  one_most false = omega arith

-- a row is in a tally for one key at most
row_most : (key : MetricKey) (row : LeafKey × Inner) → how_often key (row_tallied row) ≤ 1
row_most key row = omega (arith, how_often-most key (row_tallied row), by row.1.tallied row.1.known) where
  by : (tallied : Bool) (known : Option Known) → length (freed_key tallied known) ≤ 1
  by true (Some known) = omega arith
  by true None = omega arith
  by false known = omega arith

-- so the first rows are no more often in it than there are rows
taken-most : (key : MetricKey) (n : ℕ) (rows : List (LeafKey × Inner))
    → how_often key (flat_map row_tallied (take n rows)) ≤ length rows
taken-most key zero rows = omega arith
taken-most key (suc n) [] = omega arith
taken-most key (suc n) (row ∷ rows) =
    let more = how_often-append key (row_tallied row) (flat_map row_tallied (take n rows)) in
    omega (arith, more, row_most key row, taken-most key n rows)

rows-most : (key : MetricKey) (rows : List (LeafKey × Inner)) → how_often key (flat_map row_tallied rows) ≤ length rows
rows-most key [] = omega arith
rows-most key (row ∷ rows) =
    let more = how_often-append key (row_tallied row) (flat_map row_tallied rows) in
    omega (arith, more, row_most key row, rows-most key rows)

-- a count of rows, and of fewer keys than fit, has room for one more
pub counts_fit : (tally : MetricKey → ℕ) (rows : List (LeafKey × Inner)) (key : MetricKey) → CountsRight tally rows
    → length rows ≤ most_keys → tally key + 1 < 2 ^ 64
counts_fit tally rows key right few =
    let counts = right.1 key in
    let left = right.2 in
    omega (arith, counts, left, few, rows-most key rows, how_often-most key right.0)

-- a count of some keys after a few has room for one more
pub raised_fit : (old now : List (MetricKey × ℕ)) (some : List MetricKey) (n : ℕ) (key : MetricKey)
    → CountsFew old most_keys → RaisesAll old now (take n some) → length some < 2 ^ 63
    → tally_at now key + 1 < 2 ^ 64
raised_fit old now some n key few raises fits =
    omega (arith, few key, raises key, fits, how_often-most key (take n some), take_most n some) where
      take_most : (n : ℕ) (keys : List MetricKey) → length (take n keys) ≤ length keys
      take_most zero keys = omega arith
      take_most (suc n) [] = omega arith
      take_most (suc n) (key ∷ keys) = omega (arith, take_most n keys)

-- the first rows are few
pub rows_few : (old now : List (MetricKey × ℕ)) (rows : List (LeafKey × Inner)) (n : ℕ) → old ≡ []
    → RaisesAll old now (flat_map row_tallied (take n rows)) → length rows ≤ most_keys → CountsFew now most_keys
rows_few old now rows n empty raises few key =
    omega (arith, ap (λ l. tally_at l key) empty, raises key, taken-most key n rows, few)

-- before any key
pub raises_none : (it : List (MetricKey × ℕ)) → RaisesAll it it []
raises_none it key = omega arith

-- one key
pub raises_one : (old new : List (MetricKey × ℕ)) (key : MetricKey) → Raises old new key → RaisesAll old new (key ∷ [])
raises_one old new key raises other = omega (arith, raises other)

-- and more
pub raises_more : (first old new : List (MetricKey × ℕ)) (some more : List MetricKey) → RaisesAll first old some
    → RaisesAll old new more → RaisesAll first new (some ++ more)
raises_more first old new some more so_far next key =
    omega (arith, so_far key, next key, how_often-append key some more)

-- the first rows, and one more
pub tallied-next : (rows : List (LeafKey × Inner)) (n : ℕ)
    → flat_map row_tallied (take (n + 1) rows)
    ≡ flat_map row_tallied (take n rows) ++ found_tallied (slice_get rows n)
tallied-next rows n = by (slice_get rows n) refl where
  by : (found : Option (LeafKey × Inner)) → slice_get rows n ≡ found
      → flat_map row_tallied (take (n + 1) rows) ≡ flat_map row_tallied (take n rows) ++ found_tallied found
  by None none =
      let all = past_all rows n none in
      ap (flat_map row_tallied) (take_all (n + 1) rows (omega (arith, all)) ∙ sym (take_all n rows all))
      ∙ sym (append-nil (flat_map row_tallied (take n rows)))
  by (Some row) there =
      ap (flat_map row_tallied) (next_got rows n row there)
      ∙ flat_map-append row_tallied (take n rows) (row ∷ [])
      ∙ ap (λ l. flat_map row_tallied (take n rows) ++ l) (append-nil (row_tallied row))

-- a tally that began empty, and in which keys were counted alone, has none for which it counts none
pub zeros_begun : (old mid new : List (MetricKey × ℕ)) → old ≡ [] → NewZeros old mid [] → NewZeros mid new []
    → ZerosAmong new []
zeros_begun old mid new empty first next key none = ⊎_elim
    (λ (was : lookup (is_same_key key) mid ≡ Some 0). ⊎_elim
    (λ (before : lookup (is_same_key key) old ≡ Some 0).
    absurd (none-some 0 (subst (λ l. lookup (is_same_key key) l ≡ Some 0) empty before)))
    (λ (among : is_among is_same_key key [] ≡ true). absurd (false≢true among))
    (first key was))
    (λ (among : is_among is_same_key key [] ≡ true). absurd (false≢true among))
    (next key none)
