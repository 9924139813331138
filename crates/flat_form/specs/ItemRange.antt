-- Numbers in items fit their types, as those of each list that a program holds do.
use Rattle.std.specs.Prelude.{◌≡◌, ℕ, ◌<◌, ◌^◌, List, All, FitsSigned, Result, Ok, Err}
use Rattle.std.specs.Int.{w32, w64}
use Rattle.atom_record.specs.declared.value.Leaf.{Leaf}
use Rattle.atom_record.specs.declared.value.Leaf.TheVariants.{Missing, One, Many}
use Rattle.atom_record.specs.declared.value.Slice.{Slice}
use Rattle.atom_record.specs.declared.value.Slice.TheVariants.{Plain, Group}
use Rattle.flat_form.specs.declared.item.Item.{Item}
use Rattle.flat_form.specs.declared.item.Item.TheVariants.{Num, Dims, Slices, AtomItem, Chunk}
use Rattle.flat_form.specs.declared.flat_error.FlatError.{FlatError}
use Rattle.flat_form.specs.declared.flat_error.FlatError.TheVariants.{Bad, Memory}
use Rattle.atom_record.specs.AtomSound.{IsInRange}
use Rattle.flat_form.specs.Savable.{AreSavable}
use Rattle.flat_form.specs.ItemSpelling.{spelled_items}

-- the values of a leaf fit their bytes
abbrev pub IsLeafInRange : Leaf → Type 0
IsLeafInRange Missing = Unit {0}
IsLeafInRange (One value) = IsInRange value
IsLeafInRange (Many values) = All IsInRange values

-- the numbers of a slice fit their bytes
abbrev pub IsSliceInRange : Slice → Type 0
IsSliceInRange (Plain atom_id value) = (atom_id < 2 ^ 32) × FitsSigned w32 value
IsSliceInRange (Group atom_id group) = (atom_id < 2 ^ 32) × FitsSigned w64 group

-- the numbers of an item fit their bytes
abbrev pub IsItemInRange : Item → Type 0
IsItemInRange (Num number) = number < 2 ^ 64
IsItemInRange (Dims dims) = All IsLeafInRange dims
IsItemInRange (Slices slices) = All IsSliceInRange slices
IsItemInRange (AtomItem atom) = Unit {0}
IsItemInRange (Chunk bytes) = Unit {0}

-- the list can be spelled, and its numbers fit their types
abbrev pub CanBeSpelled : List Item → Type 0
CanBeSpelled items = AreSavable items × All IsItemInRange items

-- the items can be spelled, the bytes are their spelling, and that of no other items
pub record AreRead (bytes : List ℕ) (items : List Item) : Type 0 where
  pub can_be : CanBeSpelled items
  pub spelled : bytes ≡ spelled_items items
  pub only : (others : List Item) → CanBeSpelled others → bytes ≡ spelled_items others → others ≡ items

-- what reading answers: the items whose spelling the bytes are, or that they are the spelling of none
abbrev pub ReadsItems : List ℕ → Result (List Item) FlatError → Type 0
ReadsItems bytes (Ok items) = AreRead bytes items
ReadsItems bytes (Err Bad) = (items : List Item) → CanBeSpelled items → ¬ (bytes ≡ spelled_items items)
ReadsItems bytes (Err Memory) = Unit {0}
