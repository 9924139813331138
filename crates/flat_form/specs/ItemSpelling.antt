-- The one spelling of items as bytes: of each a tag and its content. Numbers stand low byte first.
use Rattle.std.specs.Prelude.{ℕ, List, [], ◌∷◌, ◌++◌, length}
use Rattle.std.specs.Int.{w16, w32, w64, to_le_bytes, cast_unsigned}
use Rattle.std.specs.List.{flat_map}
use Rattle.atom_record.specs.declared.value.Leaf.{Leaf}
use Rattle.atom_record.specs.declared.value.Leaf.TheVariants.{Missing, One, Many}
use Rattle.atom_record.specs.declared.value.Slice.{Slice}
use Rattle.atom_record.specs.declared.value.Slice.TheVariants.{Plain, Group}
use Rattle.flat_form.specs.declared.item.Item.{Item}
use Rattle.flat_form.specs.declared.item.Item.TheVariants.{Num, Dims, Slices, AtomItem, Chunk}
use Rattle.atom_record.specs.AtomSpelling.{sized_bytes, payload_of}
use Rattle.atom_record.specs.TypedValue.{typed_bytes}

-- one leaf
abbrev pub spelled_leaf : Leaf → List ℕ
spelled_leaf Missing = 0 ∷ []
spelled_leaf (One value) = 1 ∷ typed_bytes value
spelled_leaf (Many values) = 2 ∷ (to_le_bytes w16 (length values) ++ flat_map typed_bytes values)

-- one slice
abbrev pub spelled_slice : Slice → List ℕ
spelled_slice (Plain atom_id value) = 1 ∷ (to_le_bytes w32 atom_id ++ to_le_bytes w32 (cast_unsigned w32 value))
spelled_slice (Group atom_id group) = 2 ∷ (to_le_bytes w32 atom_id ++ to_le_bytes w64 (cast_unsigned w64 group))

-- one item
abbrev pub spelled_item : Item → List ℕ
spelled_item (Num number) = 1 ∷ to_le_bytes w64 number
spelled_item (Dims dims) = 2 ∷ (to_le_bytes w16 (length dims) ++ flat_map spelled_leaf dims)
spelled_item (Slices slices) = 3 ∷ length slices ∷ flat_map spelled_slice slices
spelled_item (AtomItem atom) = 4 ∷ sized_bytes (payload_of atom)
spelled_item (Chunk bytes) = 5 ∷ (to_le_bytes w32 (length bytes) ++ bytes)

-- all items, one after the other
abbrev pub spelled_items : List Item → List ℕ
spelled_items items = flat_map spelled_item items
