-- The items that a value flattens to, and what building from items answers.
use Rattle.std.specs.Prelude.{◌≡◌, ℕ, ◌+◌, ◌/◌, ◌%◌, ◌^◌, ℤ, List, [], ◌∷◌, ◌++◌, length, drop, All, Option, Result, Ok, Err, FitsSigned}
use Rattle.std.specs.Option.{option_to_list}
use Rattle.std.specs.Int.{w64, w128, cast_unsigned}
use Rattle.std.specs.List.{flat_map}
use Rattle.atom_record.specs.declared.value.Leaf.{Leaf}
use Rattle.atom_record.specs.declared.value.MetricKey.{MetricKey}
use Rattle.atom_record.specs.declared.atom.Atom.{Atom}
use Rattle.flat_form.specs.declared.item.Item.{Item}
use Rattle.flat_form.specs.declared.item.Item.TheVariants.{Num, Dims, Slices, AtomItem, Chunk}
use Rattle.flat_form.specs.declared.flat_error.FlatError.{FlatError}
use Rattle.flat_form.specs.declared.flat_error.FlatError.TheVariants.{Bad, Memory}

-- the items have this part at this place
pub record StandsAt (items : List Item) (place : ℕ) (part : List Item) : Type 0 where
  pub after : List Item
  pub here : drop place items ≡ part ++ after

-- the old items are the front of the new ones
pub record IsFront (old new : List Item) : Type 0 where
  pub more : List Item
  pub parts : new ≡ old ++ more

-- any value is valid
abbrev pub Anything : {X : Type 0} → X → Type 0
Anything value = Unit {0}

-- both parts are valid
abbrev pub IsValidPair : {X Y : Type 0} → (X → Type 0) → (Y → Type 0) → X × Y → Type 0
IsValidPair first second pair = first pair.0 × second pair.1

-- the value is valid, its items stand at the place, no other valid value's items do, and the next place is the one
-- after them
pub record IsBuilt {X : Type 0} (valid : X → Type 0) (flat : X → List Item) (items : List Item) (place : ℕ)
    (value : X) (next : ℕ) : Type 0 where
  pub is_valid : valid value
  pub stands : StandsAt items place (flat value)
  pub ends : next ≡ place + length (flat value)
  pub only : (other : X) → valid other → StandsAt items place (flat other) → other ≡ value

-- what building at a place answers: the valid value whose items stand there, or that there is none
abbrev pub Builds : {X : Type 0} → (X → Type 0) → (X → List Item) → List Item → ℕ → Result (X × ℕ) FlatError → Type 0
Builds valid flat items place (Ok built) = IsBuilt valid flat items place built.0 built.1
Builds {X} valid flat items place (Err Bad) = (value : X) → valid value → ¬ (StandsAt items place (flat value))
Builds valid flat items place (Err Memory) = Unit {0}

-- the value that one item holds, or that it holds none
abbrev pub Holds : {X : Type 0} → (X → Item) → Item → Result X FlatError → Type 0
Holds wrap item (Ok value) = item ≡ wrap value
Holds {X} wrap item (Err Bad) = (value : X) → ¬ (item ≡ wrap value)
Holds wrap item (Err Memory) = Unit {0}

-- the values are valid and so many, their items stand at the place, one after the other, those of no other so many do,
-- and the next place is the one after them
pub record AreBuilt {X : Type 0} (valid : X → Type 0) (flat : X → List Item) (items : List Item) (place count : ℕ)
    (values : List X) (next : ℕ) : Type 0 where
  pub are_valid : All valid values
  pub counted : length values ≡ count
  pub stand : StandsAt items place (flat_map flat values)
  pub ends : next ≡ place + length (flat_map flat values)
  pub only : (others : List X) → All valid others → length others ≡ count
      → StandsAt items place (flat_map flat others) → others ≡ values

-- what building so many values at a place answers
abbrev pub BuildsAll : {X : Type 0} → (X → Type 0) → (X → List Item) → List Item → ℕ → ℕ
    → Result (List X × ℕ) FlatError → Type 0
BuildsAll valid flat items place count (Ok built) = AreBuilt valid flat items place count built.0 built.1
BuildsAll {X} valid flat items place count (Err Bad) = (values : List X) → All valid values → length values ≡ count
    → ¬ (StandsAt items place (flat_map flat values))
BuildsAll valid flat items place count (Err Memory) = Unit {0}

-- a number is one item
abbrev pub number_items : ℕ → List Item
number_items number = Num number ∷ []

-- a signed integer is one item: its bits as a number
abbrev pub signed_items : ℤ → List Item
signed_items number = number_items (cast_unsigned w64 number)

-- an integer of 64 bits with a sign
abbrev pub IsSigned : ℤ → Type 0
IsSigned number = FitsSigned w64 number

-- the upper and the lower half of 128 bits
abbrev pub halves : ℕ → ℕ × ℕ
halves bits = (bits / 2 ^ 64, bits % 2 ^ 64)

-- a long signed integer is two items: the halves of its bits, each as a number
abbrev pub long_items : ℤ → List Item
long_items number = Num (halves (cast_unsigned w128 number)).0 ∷ Num (halves (cast_unsigned w128 number)).1 ∷ []

-- an integer of 128 bits with a sign
abbrev pub IsLong : ℤ → Type 0
IsLong number = FitsSigned w128 number

-- a key of dimensions is one item
abbrev pub dims_items : List Leaf → List Item
dims_items dims = Dims dims ∷ []

-- a key is its dimensions and its slices
abbrev pub key_items : MetricKey → List Item
key_items key = Dims key.dims ∷ Slices key.slices ∷ []

-- an atom is one item
abbrev pub atom_items : Atom → List Item
atom_items atom = AtomItem atom ∷ []

-- bytes are one item
abbrev pub chunk_items : List ℕ → List Item
chunk_items bytes = Chunk bytes ∷ []

-- a pair is its parts, one after the other
abbrev pub pair_items : {X Y : Type 0} → (X → List Item) → (Y → List Item) → X × Y → List Item
pair_items first second pair = first pair.0 ++ second pair.1

-- a list is the number of its elements, and these
abbrev pub list_items : {X : Type 0} → (X → List Item) → List X → List Item
list_items flat values = Num (length values) ∷ flat_map flat values

-- a value that may be missing is saved as a list of one or none
abbrev pub option_items : {X : Type 0} → (X → List Item) → Option X → List Item
option_items flat value = list_items flat (option_to_list value)

-- it is missing, or such a value
abbrev pub IsMissingOr : {X : Type 0} → (X → Type 0) → Option X → Type 0
IsMissingOr holds value = All holds (option_to_list value)
