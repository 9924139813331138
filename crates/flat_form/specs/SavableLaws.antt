-- A valid value that is savable flattens to items that can be spelled.
use Rattle.std.specs.Prelude.{ℕ, ℤ, List, [], ◌∷◌, length, All, Option}
use Rattle.std.specs.Option.{option_to_list}
use Rattle.std.specs.Int.{w64, w128, cast_unsigned}
use Rattle.std.specs.List.{flat_map}
use Rattle.std.proofs.lemmas.List.Elements.{All-nil, All-cons, All-head, All-tail, All-append}
use Rattle.atom_record.specs.declared.value.Leaf.{Leaf}
use Rattle.atom_record.specs.declared.value.MetricKey.{MetricKey}
use Rattle.atom_record.specs.declared.atom.Atom.{Atom}
use Rattle.atom_record.specs.AtomSound.{HasNoFault}
use Rattle.flat_form.specs.declared.item.Item.{Item}
use Rattle.flat_form.specs.declared.item.Item.TheVariants.{Num, Dims, Slices, AtomItem}
use Rattle.flat_form.specs.Flat.{Anything, IsValidPair, IsSigned, IsLong, IsMissingOr, halves, number_items, signed_items, long_items, option_items, dims_items, key_items, atom_items, pair_items, list_items}
use Rattle.flat_form.specs.Savable.{IsSavable, AreSavable, AreShortLeaves, IsShortKey}

-- one item, and then others
pub items_savable : (item : Item) (items : List Item) → IsSavable item → AreSavable items → AreSavable (item ∷ items)
items_savable item items first others = All-cons IsSavable item items first others

-- no item
pub none_savable : AreSavable []
none_savable = All-nil IsSavable

-- each number can be spelled
pub number_savable : (number : ℕ) → Anything number → Anything number → AreSavable (number_items number)
number_savable number valid savable = items_savable (Num number) [] tt none_savable

-- each signed integer can be spelled
pub signed_savable : (number : ℤ) → IsSigned number → Anything number → AreSavable (signed_items number)
signed_savable number valid savable = number_savable (cast_unsigned w64 number) tt tt

-- each long signed integer can be spelled
pub long_savable : (number : ℤ) → IsLong number → Anything number → AreSavable (long_items number)
long_savable number valid savable =
    items_savable (Num (halves (cast_unsigned w128 number)).0) (number_items (halves (cast_unsigned w128 number)).1) tt
    (number_savable (halves (cast_unsigned w128 number)).1 tt tt)

-- dimensions whose counts and texts fit
pub dims_savable : (dims : List Leaf) → Anything dims → AreShortLeaves dims → AreSavable (dims_items dims)
dims_savable dims valid savable = items_savable (Dims dims) [] savable none_savable

-- an atom that has no fault
pub atom_savable : (atom : Atom) → Anything atom → HasNoFault atom → AreSavable (atom_items atom)
atom_savable atom valid savable = items_savable (AtomItem atom) [] savable none_savable

-- a key whose counts and texts fit
pub key_savable : (key : MetricKey) → Anything key → IsShortKey key → AreSavable (key_items key)
key_savable key valid savable =
    items_savable (Dims key.dims) (Slices key.slices ∷ []) savable.0
    (items_savable (Slices key.slices) [] savable.1 none_savable)

-- a pair of savable parts
pub pair_savable : {X Y : Type 0} (first : X → List Item) (second : Y → List Item) (first_valid : X → Type 0)
    (second_valid : Y → Type 0)
    (first_savable : X → Type 0) (second_savable : Y → Type 0)
    → ((x : X) → first_valid x → first_savable x → AreSavable (first x))
    → ((y : Y) → second_valid y → second_savable y → AreSavable (second y))
    → (pair : X × Y) → IsValidPair first_valid second_valid pair → IsValidPair first_savable second_savable pair
    → AreSavable (pair_items first second pair)
pair_savable first second first_valid second_valid first_savable second_savable one other pair valid savable =
    All-append IsSavable (first pair.0) (second pair.1) (one pair.0 valid.0 savable.0) (other pair.1 valid.1 savable.1)

-- savable elements
pub elements_savable : {X : Type 0} (flat : X → List Item) (valid savable : X → Type 0)
    → ((x : X) → valid x → savable x → AreSavable (flat x))
    → (values : List X) → All valid values → All savable values → AreSavable (flat_map flat values)
elements_savable flat valid savable each [] are can = none_savable
elements_savable flat valid savable each (x ∷ xs) are can =
    All-append IsSavable (flat x) (flat_map flat xs) (each x (All-head valid x xs are) (All-head savable x xs can))
    (elements_savable flat valid savable each xs (All-tail valid x xs are) (All-tail savable x xs can))

-- a list of savable elements
pub list_savable : {X : Type 0} (flat : X → List Item) (valid savable : X → Type 0)
    → ((x : X) → valid x → savable x → AreSavable (flat x))
    → (values : List X) → All valid values → All savable values → AreSavable (list_items flat values)
list_savable flat valid savable each values are can =
    items_savable (Num (length values)) (flat_map flat values) tt
    (elements_savable flat valid savable each values are can)

-- a savable value that may be missing
pub option_savable : {X : Type 0} (flat : X → List Item) (valid savable : X → Type 0)
    → ((x : X) → valid x → savable x → AreSavable (flat x))
    → (value : Option X) → IsMissingOr valid value → IsMissingOr savable value → AreSavable (option_items flat value)
option_savable flat valid savable each value is can = list_savable flat valid savable each (option_to_list value) is can
