-- For callers: how many bytes a table takes, and how many entries it has.
use Rattle.std.proofs.Common.{◌≡◌, ℕ, ◌+◌, ◌*◌, ◌≤◌, List, [], ◌∷◌, length, arith}
use Rattle.std.specs.List.{flat_map, sum_by}
use Rattle.std.proofs.lemmas.List.Sums.{sum_by-cons}
use Rattle.atom_record.specs.declared.value.MetricKey.{MetricKey}
use Rattle.flat_form.specs.declared.item.Item.{Item}
use Rattle.flat_form.specs.declared.item.Item.TheVariants.{Num, Dims, Slices}
use Rattle.flat_form.specs.ItemSpelling.{spelled_items}
use Rattle.flat_form.specs.Flat.{pair_items, key_items, number_items}
use Rattle.flat_form.specs.Weight.{leaf_weight, held_weight, held, own_size, own_sizes}
use Rattle.flat_form.specs.Bounded.{items_bounded, held-append, held-flat_map, own_sizes-append, own_sizes-flat_map}
use Rattle.flat_form.proofs.WeightLaws.{one_each}
use Rattle.dim_table.specs.Table.{Table}
use Rattle.dim_table.specs.TableItems.{table_items, table_entries}

module _ {K V : Type 0} (key_flat : K → List Item) (value_flat : V → List Item) where
  -- a table: its three numbers, and of each row the own bytes of its items, and what these hold
  pub table_size : (table : Table K V)
      → length (spelled_items (table_items key_flat value_flat table))
      ≤ 27 + sum_by (λ row. own_sizes (pair_items key_flat value_flat row)) table.rows
      + sum_by (λ row. held (pair_items key_flat value_flat row)) table.rows
  table_size table =
      let head = Num table.bound ∷ Num table.dropped ∷ Num (length table.rows) ∷ [] in
      let rows = flat_map (pair_items key_flat value_flat) table.rows in
      let all = items_bounded (table_items key_flat value_flat table) in
      let own = own_sizes-append head rows in
      let own_rows = own_sizes-flat_map (pair_items key_flat value_flat) table.rows in
      let parts = held-append head rows in
      let held_rows = held-flat_map (pair_items key_flat value_flat) table.rows in
      omega (arith, all, own, own_rows, parts, held_rows)

-- the entries of a table of numbers by key are its rows
pub entries_are_rows : (table : Table MetricKey ℕ) → table_entries key_items number_items table ≡ length table.rows
entries_are_rows table = one_each (pair_items key_items number_items) table.rows (λ row. omega arith)
    (λ row. omega arith)

-- the own bytes of such rows
fourteens : (rows : List (MetricKey × ℕ))
    → sum_by (λ row. own_sizes (pair_items key_items number_items row)) rows ≡ 14 * length rows
fourteens [] = omega arith
fourteens (row ∷ rows) =
    let rest = fourteens rows in
    let sum = sum_by-cons (λ row. own_sizes (pair_items key_items number_items row)) row rows in
    let one = sum_by-cons own_size (Dims row.0.dims) (Slices row.0.slices ∷ Num row.1 ∷ []) in
    let two = sum_by-cons own_size (Slices row.0.slices) (Num row.1 ∷ []) in
    let three = sum_by-cons own_size (Num row.1) [] in
    omega (arith, rest, sum, one, two, three)

-- a table of numbers by key: 14 for each row, and the leaves, values and slices of its key
pub metric_table_size : (table : Table MetricKey ℕ)
    → length (spelled_items (table_items key_items number_items table))
    ≤ 27 + 14 * length table.rows + sum_by (λ row. held (pair_items key_items number_items row)) table.rows
metric_table_size table =
    let size = table_size key_items number_items table in
    let own = fourteens table.rows in
    omega (arith, size, own)

-- what a row of such a table holds
pub metric_row_holds : (row : MetricKey × ℕ) → held (pair_items key_items number_items row)
    ≡ sum_by leaf_weight row.0.dims + 16 * length row.0.slices
metric_row_holds row =
    let one = sum_by-cons held_weight (Dims row.0.dims) (Slices row.0.slices ∷ Num row.1 ∷ []) in
    let two = sum_by-cons held_weight (Slices row.0.slices) (Num row.1 ∷ []) in
    let three = sum_by-cons held_weight (Num row.1) [] in
    omega (arith, one, two, three)
