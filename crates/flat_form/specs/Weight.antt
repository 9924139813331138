-- What items weigh: no less than the bytes that they take.
use Rattle.std.specs.Prelude.{ℕ, ◌+◌, ◌*◌, ◌/◌, nat_le, if◌then◌else◌, List, length}
use Rattle.std.specs.List.{sum_by}
use Rattle.atom_record.specs.declared.value.Value.{Value}
use Rattle.atom_record.specs.declared.value.Value.TheVariants as values
use Rattle.atom_record.specs.declared.value.Leaf.{Leaf}
use Rattle.atom_record.specs.declared.value.Leaf.TheVariants.{Missing, One, Many}
use Rattle.atom_record.specs.declared.atom.AtomField.{AtomField}
use Rattle.flat_form.specs.declared.item.Item.{Item}
use Rattle.flat_form.specs.declared.item.Item.TheVariants.{Num, Dims, Slices, AtomItem, Chunk}

-- the bytes of a Str or a Raw
abbrev pub text_weight : Value → ℕ
text_weight (values.Int n) = 0
text_weight (values.Long n) = 0
text_weight (values.Bool b) = 0
text_weight (values.Str text) = length text
text_weight (values.Raw bytes) = length bytes
text_weight (values.Bits32 bits) = 0

-- 16 for a value, and its bytes
abbrev pub value_weight : Value → ℕ
value_weight value = 16 + text_weight value

-- 16 for a leaf, and its values
abbrev pub leaf_weight : Leaf → ℕ
leaf_weight Missing = 16
leaf_weight (One value) = 16 + value_weight value
leaf_weight (Many values) = 16 + sum_by value_weight values

-- 16 for an entry of an atom, and the bytes of its value
abbrev pub entry_weight : AtomField → ℕ
entry_weight entry = 16 + text_weight entry.value

-- what an item holds: 16 for each leaf, value, slice and atom entry, and the bytes of the texts
abbrev pub held_weight : Item → ℕ
held_weight (Num number) = 0
held_weight (Dims dims) = sum_by leaf_weight dims
held_weight (Slices slices) = 16 * length slices
held_weight (AtomItem atom) = sum_by entry_weight atom.fields
held_weight (Chunk bytes) = length bytes

-- what all items hold
abbrev pub held : List Item → ℕ
held items = sum_by held_weight items

-- the bytes of an item besides what it holds: its tag, and its number, the count of what it holds, or an atom's length
-- and id
abbrev pub own_size : Item → ℕ
own_size (Num number) = 9
own_size (Dims dims) = 3
own_size (Slices slices) = 2
own_size (AtomItem atom) = 7
own_size (Chunk bytes) = 5

-- those of all items
abbrev pub own_sizes : List Item → ℕ
own_sizes items = sum_by own_size items

-- the most items of a value with such a head and so many entries: each entry takes eight at most
abbrev pub most_items : ℕ → ℕ → ℕ
most_items head entries = head + 8 * entries

-- the most bytes of a value with such a head, so many entries and these items: nine for an item, and what they hold
abbrev pub most_bytes : ℕ → ℕ → List Item → ℕ
most_bytes head entries items = 9 * head + 72 * entries + held items

-- how many entries stand for so many items: one for each eight that are begun
abbrev pub entries_for : ℕ → ℕ
entries_for items = (items + 7) / 8

-- the most items of a head: with nine bytes each they are 252
abbrev pub most_head : ℕ
most_head = 28

-- the head of a value whose parts have so many items in their heads: theirs, or none where that is more than a head has
abbrev pub head_within : ℕ → ℕ
head_within heads = if nat_le heads most_head then heads else 0

-- its entries: those of its parts, or all its items' where their heads are more than a head has
abbrev pub entries_within : ℕ → ℕ → ℕ → ℕ
entries_within heads items entries = if nat_le heads most_head then entries else entries_for items

-- those of both
abbrev pub pair_entries : {X Y : Type 0} → (X → ℕ) → (Y → ℕ) → X × Y → ℕ
pair_entries first second pair = first pair.0 + second pair.1

-- those of a list: one for each eight items of an element that are begun
abbrev pub list_entries : {X : Type 0} → (X → List Item) → List X → ℕ
list_entries flat values = sum_by (λ value. entries_for (length (flat value))) values
