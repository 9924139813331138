-- The items of rows, and which of them there are.
use Rattle.std.specs.Prelude.{ℕ, ◌+◌, ◌≤◌, List, ◌∷◌, length}
use Rattle.std.proofs.Common.{arith}
use Rattle.flat_form.specs.declared.item.Item.{Item}
use Rattle.flat_form.specs.declared.item.Item.TheVariants.{Num, Dims, Slices}
use Rattle.flat_form.specs.Savable.{AreSavable, IsShortKey}
use Rattle.flat_form.specs.SavableLaws.{items_savable}
use Rattle.flat_form.specs.Weight.{most_items, head_within, entries_within}
use Rattle.flat_form.specs.Bounded.{parts_bounded, parts_few}
use Rattle.metric_producer.specs.declared.row.Row.{Row}

module _ {V : Type 0} where
  -- a row is its key's two items, its start, its end, and its value
  abbrev pub row_items : (V → List Item) → Row V → List Item
  row_items flat row =
      Dims row.key.dims ∷ Slices row.key.slices ∷ Num row.start ∷ Num row.end ∷ flat row.value

  -- a row's value is valid
  abbrev pub IsRow : (V → Type 0) → Row V → Type 0
  IsRow valid row = valid row.value

  -- the key of a row fits its counts, and its value is savable
  abbrev pub IsSavableRow : (V → Type 0) → Row V → Type 0
  IsSavableRow savable row = IsShortKey row.key × savable row.value

  -- a row is a head of four items, and its value
  pub row_bounded : (flat : V → List Item) (valid : V → Type 0) (head : ℕ) (entries : V → ℕ)
      → ((value : V) → valid value → length (flat value) ≤ most_items head (entries value))
      → (row : Row V) → IsRow valid row
      → length (row_items flat row) ≤ most_items (head_within (4 + head))
      (entries_within (4 + head) (length (row_items flat row)) (entries row.value))
  row_bounded flat valid head entries each row is =
      let value = each row.value is in
      parts_bounded (4 + head) (length (row_items flat row)) (entries row.value) (omega arith)

  -- a row has no more entries than items
  pub row_few : (flat : V → List Item) (head : ℕ) (entries : V → ℕ)
      → ((value : V) → entries value ≤ length (flat value))
      → (row : Row V)
      → entries_within (4 + head) (length (row_items flat row)) (entries row.value) ≤ length (row_items flat row)
  row_few flat head entries each row =
      let value = each row.value in
      parts_few (4 + head) (length (row_items flat row)) (entries row.value) (omega arith)

  -- the items of a savable row can be spelled
  pub row_savable : (flat : V → List Item) (valid savable : V → Type 0)
      → ((value : V) → valid value → savable value → AreSavable (flat value))
      → (row : Row V) → IsRow valid row → IsSavableRow savable row → AreSavable (row_items flat row)
  row_savable flat valid savable each row is can =
      let value = each row.value is can.1 in
      let end = items_savable (Num row.end) (flat row.value) tt value in
      let start = items_savable (Num row.start) (Num row.end ∷ flat row.value) tt end in
      let slices = items_savable (Slices row.key.slices) (Num row.start ∷ Num row.end ∷ flat row.value) can.0.1 start in
      items_savable (Dims row.key.dims) (Slices row.key.slices ∷ Num row.start ∷ Num row.end ∷ flat row.value) can.0.0
      slices
