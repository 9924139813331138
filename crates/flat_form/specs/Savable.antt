-- Which items can be spelled: each count and each length fits its width, and each atom has no fault.
use Rattle.std.specs.Prelude.{◌<◌, ◌^◌, List, length, All}
use Rattle.atom_record.specs.declared.value.Leaf.{Leaf}
use Rattle.atom_record.specs.declared.value.Leaf.TheVariants.{Missing, One, Many}
use Rattle.atom_record.specs.declared.value.MetricKey.{MetricKey}
use Rattle.atom_record.specs.declared.atom.AtomField.{AtomField}
use Rattle.flat_form.specs.declared.item.Item.{Item}
use Rattle.flat_form.specs.declared.item.Item.TheVariants.{Num, Dims, Slices, AtomItem, Chunk}
use Rattle.atom_record.specs.AtomSound.{HasNoFault}
use Rattle.atom_record.specs.TypedValue.{HasShortText}

-- the number of a leaf's values fits two bytes, and so do their texts
abbrev pub IsShortLeaf : Leaf → Type 0
IsShortLeaf Missing = Unit {0}
IsShortLeaf (One value) = HasShortText value
IsShortLeaf (Many values) = (length values < 2 ^ 16) × All HasShortText values

-- the number of a key's leaves fits two bytes, and so do their parts
abbrev pub AreShortLeaves : List Leaf → Type 0
AreShortLeaves dims = (length dims < 2 ^ 16) × All IsShortLeaf dims

-- the text of an atom's entry fits two bytes
abbrev pub IsShortEntry : AtomField → Type 0
IsShortEntry entry = HasShortText entry.value

-- the number of a key's slices fits one byte, and its leaves fit
abbrev pub IsShortKey : MetricKey → Type 0
IsShortKey key = AreShortLeaves key.dims × (length key.slices < 2 ^ 8)

-- the item can be spelled
abbrev pub IsSavable : Item → Type 0
IsSavable (Num number) = Unit {0}
IsSavable (Dims dims) = AreShortLeaves dims
IsSavable (Slices slices) = length slices < 2 ^ 8
IsSavable (AtomItem atom) = HasNoFault atom
IsSavable (Chunk bytes) = length bytes < 2 ^ 32

-- each item can be spelled
abbrev pub AreSavable : List Item → Type 0
AreSavable items = All IsSavable items
