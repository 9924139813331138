-- The items of a producer of longest durations, and which of them there are.
use Rattle.std.specs.Prelude.{ℕ, ◌+◌, ◌<◌, ◌≤◌, ◌^◌, List, ◌∷◌, ◌++◌, length, All}
use Rattle.std.proofs.Common.{arith}
use Rattle.std.proofs.lemmas.List.{length-append}
use Rattle.std.proofs.lemmas.List.Elements.{All-append}
use Rattle.flat_form.specs.declared.item.Item.{Item}
use Rattle.flat_form.specs.declared.item.Item.TheVariants.{Num}
use Rattle.flat_form.specs.Flat.{Anything, IsValidPair, number_items, dims_items, key_items}
use Rattle.flat_form.specs.Savable.{IsSavable, AreSavable, IsShortKey, AreShortLeaves}
use Rattle.flat_form.specs.SavableLaws.{items_savable, number_savable, dims_savable, key_savable}
use Rattle.flat_form.specs.Weight.{most_items}
use Rattle.dim_table.specs.TableItems.{table_items, IsTable, table_entries, table_bounded, table_few, table_savable}
use Rattle.kept_rows.specs.KeptItems.{kept_items, kept_entries, IsKeeping, AreSavableRows, kept_bounded, kept_few, kept_savable}
use Rattle.metric_producer.specs.RowItems.{IsRow, IsSavableRow}
use Rattle.metric_kinds.specs.Counts.{row_weight}
use Rattle.predicate_state.specs.PredicateItems.{flag_number}
use Rattle.duration_metric.specs.declared.sparse.MaxProducer.{MaxProducer}
use Rattle.duration_metric.specs.InnerItems.{entry_items, IsSavableEntry, entry_savable}
use Rattle.duration_metric.specs.SumItems.{time_row_items, time_row_savable}

-- its table of longest times, and its kept rows
abbrev pub longest_books_items : MaxProducer → List Item
longest_books_items it =
    table_items key_items number_items it.books.table ++ kept_items time_row_items it.books.kept

-- its inner keys, and its books
abbrev pub longest_rest_items : MaxProducer → List Item
longest_rest_items it = table_items dims_items entry_items it.keys.table ++ longest_books_items it

-- where its open part began, how many inner keys found no room since the last report, and the rest
abbrev pub longest_part_items : MaxProducer → List Item
longest_part_items it = Num it.books.start ∷ Num it.books.lost ∷ longest_rest_items it

-- A longest duration is how its inner keys are kept (whether starts are counted, whether keys were unknown at
-- first, for how many there is room, how many leaves each has), whether keys that aren't listed are unknown now,
-- where its open part began, how many inner keys found no room since the last report, its inner keys, its table and
-- its kept rows.
abbrev pub longest_items : MaxProducer → List Item
longest_items it =
    Num (flag_number it.keys.spec.nesting) ∷ Num (flag_number it.keys.spec.unknown) ∷ Num it.keys.spec.bound
    ∷ Num it.keys.spec.leaves ∷ Num (flag_number it.keys.unknown) ∷ longest_part_items it

-- its numbers fit, its tables are some, and its kept rows are within their bound
pub record IsLongest (it : MaxProducer) : Type 0 where
  pub bound_fits : it.keys.spec.bound < 2 ^ 32
  pub leaves_fit : it.keys.spec.leaves < 2 ^ 32
  pub keys : IsTable Anything Anything it.keys.table
  pub table : IsTable Anything Anything it.books.table
  pub kept : IsKeeping row_weight (IsRow Anything) it.books.kept

-- its keys fit their counts
pub record IsSavableLongest (it : MaxProducer) : Type 0 where
  pub keys : All (IsValidPair AreShortLeaves IsSavableEntry) it.keys.table.rows
  pub table : All (IsValidPair IsShortKey Anything) it.books.table.rows
  pub kept : AreSavableRows (IsSavableRow Anything) it.books.kept

-- its entries: those of its inner keys, of the admitted keys, and of its kept rows
abbrev pub longest_entries : MaxProducer → ℕ
longest_entries it =
    table_entries dims_items entry_items it.keys.table
    + (table_entries key_items number_items it.books.table + kept_entries time_row_items it.books.kept)

-- a head of sixteen items, and eight at most for each entry
pub longest_bounded : (it : MaxProducer) → IsLongest it
    → length (longest_items it) ≤ most_items 16 (longest_entries it)
longest_bounded it is =
    let keys = table_bounded dims_items entry_items Anything Anything it.keys.table is.keys in
    let table = table_bounded key_items number_items Anything Anything it.books.table is.table in
    let kept = kept_bounded time_row_items row_weight (IsRow Anything) it.books.kept is.kept in
    let books =
    length-append (table_items key_items number_items it.books.table) (kept_items time_row_items it.books.kept) in
    let all = length-append (table_items dims_items entry_items it.keys.table) (longest_books_items it) in
    omega arith

-- an entry is an item at least
pub longest_few : (it : MaxProducer) → longest_entries it ≤ length (longest_items it)
longest_few it =
    let keys = table_few dims_items entry_items it.keys.table in
    let table = table_few key_items number_items it.books.table in
    let kept = kept_few time_row_items it.books.kept in
    let books =
    length-append (table_items key_items number_items it.books.table) (kept_items time_row_items it.books.kept) in
    let all = length-append (table_items dims_items entry_items it.keys.table) (longest_books_items it) in
    omega arith

-- the items of such a producer can be spelled
pub longest_savable : (it : MaxProducer) → IsLongest it → IsSavableLongest it → AreSavable (longest_items it)
longest_savable it is can =
    let keys = table_savable dims_items entry_items Anything Anything AreShortLeaves IsSavableEntry dims_savable
    entry_savable it.keys.table is.keys can.keys in
    let table = table_savable key_items number_items Anything Anything IsShortKey Anything key_savable number_savable
    it.books.table is.table can.table in
    let kept = kept_savable time_row_items row_weight (IsRow Anything) (IsSavableRow Anything) time_row_savable
    it.books.kept is.kept can.kept in
    let books = All-append IsSavable (table_items key_items number_items it.books.table)
    (kept_items time_row_items it.books.kept) table kept in
    let rest = All-append IsSavable (table_items dims_items entry_items it.keys.table) (longest_books_items it) keys
    books in
    let lost = items_savable (Num it.books.lost) (longest_rest_items it) tt rest in
    let start = items_savable (Num it.books.start) (Num it.books.lost ∷ longest_rest_items it) tt lost in
    let now = items_savable (Num (flag_number it.keys.unknown)) (longest_part_items it) tt start in
    let leaves = items_savable (Num it.keys.spec.leaves)
    (Num (flag_number it.keys.unknown) ∷ longest_part_items it) tt now in
    let bound = items_savable (Num it.keys.spec.bound)
    (Num it.keys.spec.leaves ∷ Num (flag_number it.keys.unknown) ∷ longest_part_items it) tt leaves in
    let first = items_savable (Num (flag_number it.keys.spec.unknown))
    (Num it.keys.spec.bound ∷ Num it.keys.spec.leaves ∷ Num (flag_number it.keys.unknown) ∷ longest_part_items it) tt
    bound in
    items_savable (Num (flag_number it.keys.spec.nesting)) (Num (flag_number it.keys.spec.unknown)
    ∷ Num it.keys.spec.bound ∷ Num it.keys.spec.leaves ∷ Num (flag_number it.keys.unknown) ∷ longest_part_items it) tt
    first
