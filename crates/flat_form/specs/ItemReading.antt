-- The reading of items: the item that bytes begin with and the bytes after it, or that they begin with none.
use Rattle.std.specs.Prelude.{ℕ, List, [], ◌∷◌, Option, Some, None, Result, Ok, Err, ◌==◌, if◌then◌else◌}
use Rattle.std.specs.Int.{Width, w16, w32, w64, cast_signed}
use Rattle.std.specs.Option.{ok_or}
use Rattle.sd_base.specs.Reads.{◌>>=◌, many}
use Rattle.sd_base.specs.Numbers.{front_bytes, front_number}
use Rattle.atom_record.specs.declared.value.Value.{Value}
use Rattle.atom_record.specs.declared.value.Leaf.{Leaf}
use Rattle.atom_record.specs.declared.value.Leaf.TheVariants.{Missing, One, Many}
use Rattle.atom_record.specs.declared.value.Slice.{Slice}
use Rattle.atom_record.specs.declared.value.Slice.TheVariants.{Plain, Group}
use Rattle.atom_record.specs.AtomReading.{atom_at}
use Rattle.atom_record.specs.TypedValue.{typed_at}
use Rattle.flat_form.specs.declared.item.Item.{Item}
use Rattle.flat_form.specs.declared.item.Item.TheVariants.{Num, Dims, Slices, AtomItem, Chunk}
use Rattle.flat_form.specs.declared.flat_error.FlatError.{FlatError}
use Rattle.flat_form.specs.declared.flat_error.FlatError.TheVariants.{Bad, Memory}

-- Why nothing was read: the bytes don't begin as asked.
pub data NoItem : Type 0 where
  Unspelled : NoItem

-- the fault of an error, and none for want of memory
abbrev pub no_item_of : FlatError → Option NoItem
no_item_of Bad = Some Unspelled
no_item_of Memory = None

-- a reading that keeps no reason of its fault
abbrev pub without_reason : {A F : Type 0} → Result A F → Result A NoItem
without_reason (Ok read) = Ok read
without_reason (Err reason) = Err Unspelled

-- a number of so many bytes, low byte first
abbrev pub item_uint_at : Width → List ℕ → Result (ℕ × List ℕ) NoItem
item_uint_at width bytes = ok_or (front_number width bytes) Unspelled

-- a number of so many bytes, and as many bytes as it says
abbrev pub counted_at : Width → List ℕ → Result (List ℕ × List ℕ) NoItem
counted_at width bytes =
    item_uint_at width bytes >>= λ count. ok_or (front_bytes count.0 count.1) Unspelled

-- a value after the byte of its kind
abbrev pub value_in : List ℕ → Result (Value × List ℕ) NoItem
value_in bytes = without_reason (typed_at bytes)

-- values after their number
unfoldable pub values_at : List ℕ → Result (List Value × List ℕ) NoItem
values_at bytes = item_uint_at w16 bytes >>= λ count. many value_in count.0 count.1

-- one leaf
unfoldable pub leaf_at : List ℕ → Result (Leaf × List ℕ) NoItem
leaf_at [] = Err Unspelled
leaf_at (tag ∷ bytes) =
    if tag == 0 then Ok (Missing, bytes)
    else if tag == 1 then (value_in bytes >>= λ value. Ok (One value.0, value.1))
    else if tag == 2 then (values_at bytes >>= λ values. Ok (Many values.0, values.1))
    else Err Unspelled

-- one slice
unfoldable pub slice_at : List ℕ → Result (Slice × List ℕ) NoItem
slice_at [] = Err Unspelled
slice_at (tag ∷ bytes) =
    if tag == 1 then (item_uint_at w32 bytes >>= λ id. item_uint_at w32 id.1 >>= λ value. Ok
    (Plain id.0 (cast_signed w32 value.0), value.1))
    else if tag == 2 then (item_uint_at w32 bytes >>= λ id. item_uint_at w64 id.1 >>= λ group. Ok
    (Group id.0 (cast_signed w64 group.0), group.1))
    else Err Unspelled

-- slices after their number
abbrev pub slices_at : List ℕ → Result (List Slice × List ℕ) NoItem
slices_at [] = Err Unspelled
slices_at (count ∷ bytes) = many slice_at count bytes

-- leaves after their number
abbrev pub dims_at : List ℕ → Result (List Leaf × List ℕ) NoItem
dims_at bytes = item_uint_at w16 bytes >>= λ count. many leaf_at count.0 count.1

-- one item: a tag and its content
unfoldable pub item_at : List ℕ → Result (Item × List ℕ) NoItem
item_at [] = Err Unspelled
item_at (tag ∷ bytes) =
    if tag == 1 then (item_uint_at w64 bytes >>= λ number. Ok (Num number.0, number.1))
    else if tag == 2 then (dims_at bytes >>= λ dims. Ok (Dims dims.0, dims.1))
    else if tag == 3 then (slices_at bytes >>= λ slices. Ok (Slices slices.0, slices.1))
    else if tag == 4 then (counted_at w16 bytes >>= λ payload. without_reason (atom_at payload.0) >>= λ atom. Ok
    (AtomItem atom, payload.1))
    else if tag == 5 then (counted_at w32 bytes >>= λ chunk. Ok (Chunk chunk.0, chunk.1))
    else Err Unspelled
