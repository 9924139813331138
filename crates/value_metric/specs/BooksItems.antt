-- The items of books and of a producer of pushed values, and which of them there are.
use Rattle.std.specs.Prelude.{ℕ, ℤ, ◌+◌, ◌≤◌, List, ◌∷◌, ◌++◌, length, All, Option}
use Rattle.std.specs.Option.{option_map, option_and_then}
use Rattle.std.specs.Global.{Global}
use Rattle.std.proofs.Common.{arith}
use Rattle.std.proofs.lemmas.List.{length-append}
use Rattle.std.proofs.lemmas.List.Elements.{All-append}
use Rattle.atom_record.specs.declared.value.MetricKey.{MetricKey}
use Rattle.flat_form.specs.declared.item.Item.{Item}
use Rattle.flat_form.specs.declared.item.Item.TheVariants.{Num}
use Rattle.flat_form.specs.Flat.{Anything, IsValidPair, IsSigned, IsLong, IsMissingOr, key_items, signed_items, long_items, option_items}
use Rattle.flat_form.specs.Savable.{IsSavable, AreSavable, IsShortKey}
use Rattle.flat_form.specs.SavableLaws.{items_savable, key_savable, signed_savable, long_savable, option_savable}
use Rattle.flat_form.specs.Weight.{most_items}
use Rattle.dim_table.specs.Table.{Table}
use Rattle.dim_table.specs.TableItems.{table_items, IsTable, table_entries, table_bounded, table_few, table_savable}
use Rattle.kept_rows.specs.KeptRows.{Keeping}
use Rattle.kept_rows.specs.KeptItems.{kept_items, kept_entries, IsKeeping, AreSavableRows, kept_bounded, kept_few, kept_savable}
use Rattle.metric_producer.specs.declared.row.Row.{Row}
use Rattle.metric_producer.specs.RowItems.{row_items, IsRow, IsSavableRow, row_savable}
use Rattle.value_metric.specs.declared.value_books.ValueBooks.{ValueBooks}
use Rattle.value_metric.specs.declared.pushed_value.PushedValue.{PushedValue}
use Rattle.value_metric.specs.Totals.{row_weighs}
use Rattle.value_metric.specs.ChoiceNumbers.{aggregation_number, aggregation_by, asked_number, asked_of_number}

-- the items of what the integers of a key give, if any came
abbrev pub total_items : Option ℤ → List Item
total_items = option_items long_items

-- an integer of 128 bits, or none
abbrev pub IsTotal : Option ℤ → Type 0
IsTotal = IsMissingOr IsLong

-- the items of a row of an integer
abbrev pub value_row_items : Row ℤ → List Item
value_row_items = row_items signed_items

-- a row of an integer of 64 bits
abbrev pub IsValueRow : Row ℤ → Type 0
IsValueRow = IsRow IsSigned

-- a table and the kept rows
abbrev pub table_and_rows : ValueBooks → List Item
table_and_rows it = table_items key_items total_items it.table ++ kept_items value_row_items it.kept

-- Books are where the open part began, the aggregation, whether zeros are hidden, the count of what was missed, the
-- table, and the kept rows.
abbrev pub books_items : ValueBooks → List Item
books_items it =
    Num it.start ∷ Num (aggregation_number it.aggregation) ∷ Num (asked_number it.hides_zeros) ∷ Num it.missing
    ∷ table_and_rows it

-- the table is one, and the kept rows are within their bound
pub record AreValueBooks (it : ValueBooks) : Type 0 where
  pub table : IsTable Anything IsTotal it.table
  pub kept : IsKeeping row_weighs IsValueRow it.kept

-- the keys fit their counts
pub record AreSavableBooks (it : ValueBooks) : Type 0 where
  pub table : All (IsValidPair IsShortKey (IsMissingOr Anything)) it.table.rows
  pub kept : AreSavableRows (IsSavableRow Anything) it.kept

-- the entries of books: one for each admitted key, and one for each kept row
abbrev pub books_entries : ValueBooks → ℕ
books_entries it = table_entries key_items total_items it.table + kept_entries value_row_items it.kept

-- a head of ten items, and eight at most for each entry
pub books_bounded : (it : ValueBooks) → AreValueBooks it → length (books_items it) ≤ most_items 10 (books_entries it)
books_bounded it is =
    let table = table_bounded key_items total_items Anything IsTotal it.table is.table in
    let kept = kept_bounded value_row_items row_weighs IsValueRow it.kept is.kept in
    let size = length-append (table_items key_items total_items it.table) (kept_items value_row_items it.kept) in
    omega arith

-- an entry is an item at least
pub books_few : (it : ValueBooks) → books_entries it ≤ length (books_items it)
books_few it =
    let table = table_few key_items total_items it.table in
    let kept = kept_few value_row_items it.kept in
    let size = length-append (table_items key_items total_items it.table) (kept_items value_row_items it.kept) in
    omega arith

-- the items of books with such keys can be spelled
pub books_savable : (it : ValueBooks) → AreValueBooks it → AreSavableBooks it → AreSavable (books_items it)
books_savable it is can =
    let table = table_savable key_items total_items Anything IsTotal IsShortKey (IsMissingOr Anything) key_savable
    (option_savable long_items IsLong Anything long_savable) it.table is.table can.table in
    let kept = kept_savable value_row_items row_weighs IsValueRow (IsSavableRow Anything)
    (row_savable signed_items IsSigned Anything signed_savable) it.kept is.kept can.kept in
    let rest = All-append IsSavable (table_items key_items total_items it.table) (kept_items value_row_items it.kept)
    table kept in
    let missing = items_savable (Num it.missing) (table_and_rows it) tt rest in
    let hides = items_savable (Num (asked_number it.hides_zeros)) (Num it.missing ∷ table_and_rows it) tt missing in
    let aggregation = items_savable (Num (aggregation_number it.aggregation))
    (Num (asked_number it.hides_zeros) ∷ Num it.missing ∷ table_and_rows it) tt hides in
    items_savable (Num it.start) (Num (aggregation_number it.aggregation) ∷ Num (asked_number it.hides_zeros)
    ∷ Num it.missing ∷ table_and_rows it) tt aggregation

-- books by their parts, as they are saved
abbrev pub BooksForm : Type 0
BooksForm = ℕ × (ℕ × (ℕ × (ℕ × (Table MetricKey (Option ℤ) × Keeping (Row ℤ)))))

-- the books of some parts, if there are any
abbrev pub books_of_form : Global → BooksForm → Option ValueBooks
books_of_form alloc form =
    option_and_then (λ aggregation. option_map (λ hides_zeros. record {
      start = form.0;
      aggregation = aggregation;
      hides_zeros = hides_zeros;
      table = form.1.1.1.1.0;
      kept = form.1.1.1.1.1;
      missing = form.1.1.1.0;
      alloc = alloc;
    }) (asked_of_number form.1.1.0)) (aggregation_by form.1.0)

-- a producer of pushed values is its books
abbrev pub pushed_value_items : PushedValue → List Item
pushed_value_items it = books_items it.books

-- its books are some
abbrev pub IsPushedValue : PushedValue → Type 0
IsPushedValue it = AreValueBooks it.books

-- its keys fit their counts
abbrev pub IsSavablePushedValue : PushedValue → Type 0
IsSavablePushedValue it = AreSavableBooks it.books

-- its entries: one for each admitted key, and one for each kept row
abbrev pub pushed_value_entries : PushedValue → ℕ
pushed_value_entries it = books_entries it.books

-- a head of ten items, and eight at most for each entry
pub pushed_value_bounded : (it : PushedValue) → IsPushedValue it
    → length (pushed_value_items it) ≤ most_items 10 (pushed_value_entries it)
pushed_value_bounded it is = books_bounded it.books is

-- an entry is an item at least
pub pushed_value_few : (it : PushedValue) → pushed_value_entries it ≤ length (pushed_value_items it)
pushed_value_few it = books_few it.books

-- the items of such a producer can be spelled
pub pushed_value_savable : (it : PushedValue) → IsPushedValue it → IsSavablePushedValue it
    → AreSavable (pushed_value_items it)
pushed_value_savable it is can = books_savable it.books is can
