-- The items of a predicate's table, and which tables there are.
use Rattle.std.specs.Prelude.{ℕ, ◌<◌, ◌≤◌, ◌^◌, Bool, true, false, List, ◌∷◌, length, All}
use Rattle.std.proofs.Common.{arith}
use Rattle.flat_form.specs.declared.item.Item.{Item}
use Rattle.flat_form.specs.declared.item.Item.TheVariants.{Num}
use Rattle.flat_form.specs.Flat.{Anything, number_items, dims_items}
use Rattle.flat_form.specs.Weight.{most_items}
use Rattle.flat_form.specs.Savable.{AreSavable, AreShortLeaves}
use Rattle.flat_form.specs.SavableLaws.{items_savable, number_savable, dims_savable}
use Rattle.dim_table.specs.Table.{Table}
use Rattle.dim_table.specs.TableItems.{table_items, IsTable, table_entries, table_bounded, table_few, table_savable}
use Rattle.predicate_state.specs.PredicateTable.{PredicateTable, LeafKey, HaveLeaves}

-- a truth as a number
abbrev pub flag_number : Bool → ℕ
flag_number true = 1
flag_number false = 0

-- the listed keys as a bounded table
abbrev pub key_table : PredicateTable → Table LeafKey ℕ
key_table table = record { rows = table.state.counts; bound = table.spec.bound; dropped = table.state.dropped }

-- a table is four numbers (whether starts are counted, whether keys were unknown at first, how many leaves a key has,
-- whether keys are unknown now), and its bounded table
abbrev pub predicate_items : PredicateTable → List Item
predicate_items table =
    Num (flag_number table.spec.nesting) ∷ Num (flag_number table.spec.unknown) ∷ Num table.spec.leaves
    ∷ Num (flag_number table.state.unknown) ∷ table_items dims_items number_items (key_table table)

-- a table has a bounded table of keys with so many leaves
pub record IsPredicateTable (table : PredicateTable) : Type 0 where
  pub leaves : table.spec.leaves < 2 ^ 32
  pub keys_fit : IsTable Anything Anything (key_table table)
  pub have_leaves : HaveLeaves table.spec.leaves table.state.counts

-- each key can be spelled
abbrev pub AreShortKeys : PredicateTable → Type 0
AreShortKeys table = All (λ (entry : LeafKey × ℕ). AreShortLeaves entry.0 × Anything entry.1) table.state.counts

-- an entry for each key
abbrev pub predicate_entries : PredicateTable → ℕ
predicate_entries table = table_entries dims_items number_items (key_table table)

-- a table is a head of seven items, and eight at most for each entry
pub predicate_bounded : (table : PredicateTable) → IsPredicateTable table
    → length (predicate_items table) ≤ most_items 7 (predicate_entries table)
predicate_bounded table valid =
    let keys = table_bounded dims_items number_items Anything Anything (key_table table) valid.keys_fit in omega arith

-- an entry is an item at least
pub predicate_few : (table : PredicateTable) → predicate_entries table ≤ length (predicate_items table)
predicate_few table = let keys = table_few dims_items number_items (key_table table) in omega arith

-- the items of a table can be spelled where its keys can
pub predicate_savable : (table : PredicateTable) → IsPredicateTable table → AreShortKeys table
    → AreSavable (predicate_items table)
predicate_savable table valid savable =
    let keys = table_items dims_items number_items (key_table table) in
    let spelled = table_savable dims_items number_items Anything Anything AreShortLeaves Anything dims_savable
    number_savable (key_table table) valid.keys_fit savable in
    let now = items_savable (Num (flag_number table.state.unknown)) keys tt spelled in
    let leaves = items_savable (Num table.spec.leaves) (Num (flag_number table.state.unknown) ∷ keys) tt now in
    let first = items_savable (Num (flag_number table.spec.unknown))
    (Num table.spec.leaves ∷ Num (flag_number table.state.unknown) ∷ keys) tt leaves in
    items_savable (Num (flag_number table.spec.nesting))
    (Num (flag_number table.spec.unknown) ∷ Num table.spec.leaves ∷ Num (flag_number table.state.unknown) ∷ keys)
    tt first
