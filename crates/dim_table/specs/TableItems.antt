-- The items of a table, which tables there are, and what building the rows answers.
use Rattle.std.specs.Prelude.{◌≡◌, ◌≢◌, ℕ, ◌≤◌, List, ◌∷◌, length, All, AllPairs, Result, Ok, Err}
use Rattle.std.specs.List.{flat_map}
use Rattle.std.proofs.Common.{arith}
use Rattle.flat_form.specs.declared.item.Item.{Item}
use Rattle.flat_form.specs.declared.item.Item.TheVariants.{Num}
use Rattle.flat_form.specs.declared.flat_error.FlatError.{FlatError}
use Rattle.flat_form.specs.declared.flat_error.FlatError.TheVariants.{Bad, Memory}
use Rattle.flat_form.specs.Flat.{StandsAt, AreBuilt, IsValidPair, pair_items}
use Rattle.flat_form.specs.Savable.{AreSavable}
use Rattle.flat_form.specs.SavableLaws.{items_savable, pair_savable, elements_savable}
use Rattle.flat_form.specs.Weight.{most_items, list_entries}
use Rattle.flat_form.specs.Bounded.{elements_bounded, elements_few}
use Rattle.dim_table.specs.Table.{Table, keys, IsBounded}

module _ {K V : Type 0} where
  -- a table is its bound, its count of drops, the number of its rows, and these
  abbrev pub table_items : (K → List Item) → (V → List Item) → Table K V → List Item
  table_items key_flat value_flat table =
      Num table.bound ∷ Num table.dropped ∷ Num (length table.rows) ∷ flat_map
      (pair_items key_flat value_flat) table.rows

  -- a table holds no key twice, no more rows than it may, and valid parts alone
  pub record IsTable (key_valid : K → Type 0) (value_valid : V → Type 0) (table : Table K V) : Type 0 where
    pub bounded : IsBounded (length table.rows) table.bound
    pub distinct : AllPairs (λ one other. one ≢ other) (keys table)
    pub rows_valid : All (IsValidPair key_valid value_valid) table.rows

  -- the rows are those that stand there, in a table like the empty one
  pub record AreRows (key_valid : K → Type 0) (value_valid : V → Type 0) (key_flat : K → List Item)
      (value_flat : V → List Item)
      (empty : Table K V) (items : List Item) (place count : ℕ) (table : Table K V) (next : ℕ) : Type 0 where
    pub like : table ≡ record empty { rows = table.rows }
    pub distinct : AllPairs (λ one other. one ≢ other) (keys table)
    pub built : AreBuilt (IsValidPair key_valid value_valid)
        (pair_items key_flat value_flat) items place count table.rows next

  -- what building so many rows answers
  abbrev pub BuildsRows : (K → Type 0) → (V → Type 0) → (K → List Item) → (V → List Item) → Table K V → List Item → ℕ
      → ℕ → Result (Table K V × ℕ) FlatError → Type 0
  BuildsRows key_valid value_valid key_flat value_flat empty items place count (Ok built) =
      AreRows key_valid value_valid key_flat value_flat empty items place count built.0 built.1
  BuildsRows key_valid value_valid key_flat value_flat empty items place count (Err Bad) =
      (table : Table K V) → AllPairs (λ one other. one ≢ other) (keys table)
      → All (IsValidPair key_valid value_valid) table.rows
      → length table.rows ≡ count → ¬ (StandsAt items place (flat_map (pair_items key_flat value_flat) table.rows))
  BuildsRows key_valid value_valid key_flat value_flat empty items place count (Err Memory) = Unit {0}

  -- the entries of all rows: one for each eight items of a row that are begun, so one for each row of one to eight
  abbrev pub table_entries : (K → List Item) → (V → List Item) → Table K V → ℕ
  table_entries key_flat value_flat table = list_entries (pair_items key_flat value_flat) table.rows

  -- a table is a head of three items, and eight at most for each entry
  pub table_bounded : (key_flat : K → List Item) (value_flat : V → List Item) (key_valid : K → Type 0)
      (value_valid : V → Type 0) (table : Table K V)
      → IsTable key_valid value_valid table → length (table_items key_flat value_flat table) ≤ most_items 3
      (table_entries key_flat value_flat table)
  table_bounded key_flat value_flat key_valid value_valid table valid =
      let rows = elements_bounded (pair_items key_flat value_flat) table.rows in omega arith

  -- an entry is an item at least
  pub table_few : (key_flat : K → List Item) (value_flat : V → List Item) (table : Table K V)
      → table_entries key_flat value_flat table ≤ length (table_items key_flat value_flat table)
  table_few key_flat value_flat table = let rows = elements_few (pair_items key_flat value_flat) table.rows in
      omega arith

  -- the items of a table can be spelled where those of its rows can
  pub table_savable : (key_flat : K → List Item) (value_flat : V → List Item) (key_valid : K → Type 0)
      (value_valid : V → Type 0)
      (key_savable : K → Type 0) (value_savable : V → Type 0)
      → ((key : K) → key_valid key → key_savable key → AreSavable (key_flat key))
      → ((value : V) → value_valid value → value_savable value → AreSavable (value_flat value))
      → (table : Table K V) → IsTable key_valid value_valid table
      → All (IsValidPair key_savable value_savable) table.rows
      → AreSavable (table_items key_flat value_flat table)
  table_savable key_flat value_flat key_valid value_valid key_savable value_savable one other table valid savable =
      let rows = elements_savable (pair_items key_flat value_flat) (IsValidPair key_valid value_valid)
      (IsValidPair key_savable value_savable)
      (pair_savable key_flat value_flat key_valid value_valid key_savable value_savable one other) table.rows
      valid.rows_valid savable in
      let row_items = flat_map (pair_items key_flat value_flat) table.rows in
      let counted = items_savable (Num (length table.rows)) row_items tt rows in
      let others = items_savable (Num table.dropped) (Num (length table.rows) ∷ row_items) tt counted in
      items_savable (Num table.bound) (Num table.dropped ∷ Num (length table.rows) ∷ row_items) tt others
