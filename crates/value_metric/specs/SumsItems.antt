-- The items of sums by key, which sums there are, and what building them answers.
use Rattle.std.specs.Prelude.{◌≡◌, ◌≢◌, ℕ, ℤ, ◌≤◌, Bool, true, false, List, [], ◌∷◌, ◌++◌, length, All, AllPairs, Contains, Option, Some, None}
use Rattle.std.specs.Map.{keys_of}
use Rattle.std.proofs.Common.{arith}
use Rattle.std.proofs.lemmas.List.{length-append}
use Rattle.atom_record.specs.declared.value.MetricKey.{MetricKey}
use Rattle.flat_form.specs.declared.item.Item.{Item}
use Rattle.flat_form.specs.Flat.{Anything, IsValidPair, IsLong, IsMissingOr, key_items, long_items, pair_items, list_items, option_items}
use Rattle.flat_form.specs.Savable.{AreSavable, IsShortKey}
use Rattle.flat_form.specs.SavableLaws.{key_savable, long_savable, pair_savable, list_savable, option_savable}
use Rattle.flat_form.specs.Weight.{most_items, list_entries}
use Rattle.flat_form.specs.Bounded.{elements_bounded, elements_few, list_bounded, list_few}
use Rattle.metric_kinds.specs.Diffs.{KeyedInts}

-- a key with its sum is the key's items, and the sum's
abbrev pub sum_items : MetricKey × ℤ → List Item
sum_items = pair_items key_items long_items

-- sums are the number of their keys, and each key with its sum
abbrev pub sums_items : KeyedInts → List Item
sums_items = list_items sum_items

-- the sum is an integer of 128 bits
abbrev pub IsSum : MetricKey × ℤ → Type 0
IsSum = IsValidPair Anything IsLong

-- no key comes twice
abbrev pub HaveOwnKeys : KeyedInts → Type 0
HaveOwnKeys sums = AllPairs (λ one other. one ≢ other) (keys_of sums)

-- no key comes twice, and each sum is one
pub record AreSums (sums : KeyedInts) : Type 0 where
  pub own_keys : HaveOwnKeys sums
  pub are_long : All IsSum sums

-- the keys fit their counts
abbrev pub AreSavableSums : KeyedInts → Type 0
AreSavableSums sums = All (IsValidPair IsShortKey Anything) sums

-- the entries of sums: one for each key
abbrev pub sums_entries : KeyedInts → ℕ
sums_entries sums = list_entries sum_items sums

-- sums are one item, and eight at most for each entry
pub sums_bounded : (sums : KeyedInts) → AreSums sums → length (sums_items sums) ≤ most_items 1 (sums_entries sums)
sums_bounded sums is = list_bounded sum_items IsSum sums is.are_long

-- an entry is an item at least
pub sums_few : (sums : KeyedInts) → sums_entries sums ≤ length (sums_items sums)
sums_few sums = list_few sum_items sums

-- the items of sums with such keys can be spelled
pub sums_savable : (sums : KeyedInts) → AreSums sums → AreSavableSums sums → AreSavable (sums_items sums)
sums_savable sums is can =
    list_savable sum_items IsSum (IsValidPair IsShortKey Anything)
    (pair_savable key_items long_items Anything IsLong IsShortKey Anything key_savable long_savable) sums is.are_long
    can

-- the items of the sums of a snapshot, if there is one
abbrev pub found_items : Option KeyedInts → List Item
found_items found = option_items sums_items found

-- their entries: one for each key
abbrev pub found_entries : Option KeyedInts → ℕ
found_entries None = 0
found_entries (Some sums) = sums_entries sums

-- they are two items, and eight at most for each entry
pub found_bounded : (found : Option KeyedInts) → IsMissingOr AreSums found
    → length (found_items found) ≤ most_items 2 (found_entries found)
found_bounded None is = omega arith
found_bounded (Some sums) is =
    let part = elements_bounded sum_items sums in
    let size = length-append (sums_items sums) [] in
    omega arith

-- an entry is an item at least
pub found_few : (found : Option KeyedInts) → found_entries found ≤ length (found_items found)
found_few None = omega arith
found_few (Some sums) =
    let part = elements_few sum_items sums in
    let size = length-append (sums_items sums) [] in
    omega arith

-- the items of the sums of a snapshot with such keys can be spelled
pub found_savable : (found : Option KeyedInts) → IsMissingOr AreSums found → IsMissingOr AreSavableSums found
    → AreSavable (found_items found)
found_savable found is can = option_savable sums_items AreSums AreSavableSums sums_savable found is can

-- what comes of one more row, by whether it was added: it stands after the others, or its key had one already
abbrev pub AddsOwnRow : KeyedInts → KeyedInts → MetricKey → ℤ → Bool → Type 0
AddsOwnRow old new key sum true = (¬ Contains (keys_of old) key) × (new ≡ old ++ (key, sum) ∷ [])
AddsOwnRow old new key sum false = Contains (keys_of old) key

-- the sums of these rows, or none where a key comes twice
abbrev pub IsSumsOf : KeyedInts → Option KeyedInts → Type 0
IsSumsOf rows (Some sums) = (sums ≡ rows) × HaveOwnKeys rows
IsSumsOf rows None = ¬ HaveOwnKeys rows
