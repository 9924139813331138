-- Where entries stand in rising order of index, the least index is that of the first and the greatest that of the last.
use Rattle.std.proofs.Common.{◌≡◌, ℕ, suc, ◌≤◌, Bool, false, ◌||◌, List, [], ◌∷◌, map, length, min, max, filter, Option, Some, refl, ap, sym, ◌∙◌, arith}
use Rattle.std.specs.Prelude.{◌-◌}
use Rattle.std.specs.Option.{option_to_list}
use Rattle.std.specs.List.{All, fold, list_any, slice_get}
use Rattle.std.specs.List.Sorted.{IsNonDecreasingBy}
use Rattle.std.proofs.lemmas.List.Kept.{IsNonDecreasingBy-filter}
use Rattle.atom_record.specs.declared.atom.AtomField.{AtomField}
use Rattle.matcher_eval.specs.AtomTests.{is_repeated, tested_indexes, least_of, greatest_of}

-- along these entries the index doesn't fall
abbrev Rises : List AtomField → Type 0
Rises entries = IsNonDecreasingBy (λ (entry : AtomField). entry.index) entries

-- the indexes of these entries
abbrev indexes_of : List AtomField → List ℕ
indexes_of entries = map (λ (entry : AtomField). entry.index) entries

-- what holds at the index of an entry, if there is one
abbrev pub holds_at_entry : (ℕ → Bool) → Option AtomField → Bool
holds_at_entry holds found = list_any (λ (entry : AtomField). holds entry.index) (option_to_list found)

others_rise : (entry : AtomField) (entries : List AtomField) → Rises (entry ∷ entries) → Rises entries
others_rise entry entries rising =
    λ i j d before within. rising (suc i) (suc j) d (omega (arith, before)) (omega (arith, within))

no_less : (entry : AtomField) (entries : List AtomField) → Rises (entry ∷ entries)
    → All (λ (later : AtomField). entry.index ≤ later.index) entries
no_less entry entries rising = λ k d within. rising 0 (suc k) d (omega arith) (omega (arith, within))

lesser : (n m : ℕ) → n ≤ m → min n m ≡ n
lesser n m low = grind (arith, low)

greater : (n m : ℕ) → n ≤ m → max n m ≡ m
greater n m low = grind (arith, low)

-- what is no greater than any of these is their least
stays_least : (index : ℕ) (entries : List AtomField) → All (λ (later : AtomField). index ≤ later.index) entries
    → fold min index (indexes_of entries) ≡ index
stays_least index [] all = refl
stays_least index (entry ∷ entries) all =
    ap (λ n. fold min n (indexes_of entries)) (lesser index entry.index (all 0 entry (omega arith)))
    ∙ stays_least index entries (λ k d within. all (suc k) d (omega (arith, within)))

-- the last of these has their greatest
last_one : (entry : AtomField) (entries : List AtomField) → Rises (entry ∷ entries)
    → (last : AtomField) × (slice_get (entry ∷ entries) (length entries) ≡ Some last)
    × (last.index ≡ fold max entry.index (indexes_of entries))
last_one entry [] rising = (entry, refl, refl)
last_one entry (next ∷ entries) rising =
    let rest = last_one next entries (others_rise entry (next ∷ entries) rising) in
    let is : max entry.index next.index ≡ next.index = greater entry.index next.index
    (no_less entry (next ∷ entries) rising 0 next (omega arith)) in
    (rest.0, rest.1, rest.2 ∙ sym (ap (λ n. fold max n (indexes_of entries)) is))

first_of_all : (holds : ℕ → Bool) (entries : List AtomField) → Rises entries
    → holds_at_entry holds (slice_get entries 0) ≡ list_any holds (least_of (indexes_of entries))
first_of_all holds [] rising = refl
first_of_all holds (entry ∷ entries) rising =
    ap (λ n. holds n || false) (sym (stays_least entry.index entries (no_less entry entries rising)))

last_of_all : (holds : ℕ → Bool) (entries : List AtomField) → Rises entries
    → holds_at_entry holds (slice_get entries (length entries - 1)) ≡ list_any holds (greatest_of (indexes_of entries))
last_of_all holds [] rising = refl
last_of_all holds (entry ∷ entries) rising =
    let last = last_one entry entries rising in
    let at : length (entry ∷ entries) - 1 ≡ length entries = omega arith in
    ap (λ n. holds_at_entry holds (slice_get (entry ∷ entries) n)) at
    ∙ ap (holds_at_entry holds) last.1
    ∙ ap (λ n. holds n || false) last.2

module _ (holds : ℕ → Bool) (entries : List AtomField) (rising : Rises entries) where
  abbrev repeats : List AtomField
  repeats = filter is_repeated entries

  repeats_rise : Rises repeats
  repeats_rise = IsNonDecreasingBy-filter (λ (entry : AtomField). entry.index) is_repeated entries rising

  -- what holds at the first entry of a repeated field holds at its least index
  pub least_first : holds_at_entry holds (slice_get (filter is_repeated entries) 0)
      ≡ list_any holds (least_of (tested_indexes entries))
  least_first = first_of_all holds repeats repeats_rise

  -- what holds at the last entry of a repeated field holds at its greatest index
  pub greatest_last : holds_at_entry holds
      (slice_get (filter is_repeated entries) (length (filter is_repeated entries) - 1))
      ≡ list_any holds (greatest_of (tested_indexes entries))
  greatest_last = last_of_all holds repeats repeats_rise
