-- The items of a producer of sums, and which of them there are.
use Rattle.std.specs.Prelude.{ℕ, ◌+◌, ◌≤◌, List, [], ◌∷◌, ◌++◌, length, All}
use Rattle.std.proofs.Common.{arith}
use Rattle.std.proofs.lemmas.List.{length-append}
use Rattle.std.proofs.lemmas.List.Elements.{All-nil, All-cons, All-append}
use Rattle.flat_form.specs.declared.item.Item.{Item}
use Rattle.flat_form.specs.declared.item.Item.TheVariants.{Num}
use Rattle.flat_form.specs.Flat.{Anything, IsValidPair, number_items, dims_items, key_items, list_items}
use Rattle.flat_form.specs.Savable.{IsSavable, AreSavable, IsShortKey, AreShortLeaves}
use Rattle.flat_form.specs.SavableLaws.{items_savable, number_savable, dims_savable, key_savable, list_savable}
use Rattle.flat_form.specs.Weight.{most_items, list_entries}
use Rattle.flat_form.specs.Bounded.{elements_bounded, list_few}
use Rattle.dim_table.specs.TableItems.{table_items, IsTable, table_entries, table_bounded, table_few, table_savable}
use Rattle.kept_rows.specs.KeptItems.{kept_items, kept_entries, IsKeeping, AreSavableRows, kept_bounded, kept_few, kept_savable}
use Rattle.metric_producer.specs.declared.row.Row.{Row}
use Rattle.metric_producer.specs.RowItems.{row_items, IsRow, IsSavableRow, row_savable}
use Rattle.metric_kinds.specs.Counts.{row_weight}
use Rattle.predicate_state.specs.PredicateItems.{flag_number}
use Rattle.duration_metric.specs.SumParts.{Summing}
use Rattle.duration_metric.specs.InnerItems.{inner_items, IsSavableInner, inner_savable, span_items, span_savable}

-- the items of a row with a time
abbrev pub time_row_items : Row ℕ → List Item
time_row_items = row_items number_items

-- the items of such a row can be spelled
pub time_row_savable : (row : Row ℕ) → IsRow Anything row → IsSavableRow Anything row → AreSavable (time_row_items row)
time_row_savable row is can = row_savable number_items Anything Anything number_savable row is can

-- a sum's table of spans, and its kept rows
abbrev pub sum_books_items : Summing → List Item
sum_books_items it = table_items key_items span_items it.table ++ kept_items time_row_items it.kept

-- its inner keys, which of them were touched, the keys that left, and its books
abbrev pub sum_rest_items : Summing → List Item
sum_rest_items it =
    table_items dims_items inner_items it.inner.keys ++ (list_items number_items it.inner.touched
    ++ (list_items key_items it.inner.gone ++ sum_books_items it))

-- A sum is where its open part began, how many inner keys had found no room at the last report, whether starts are
-- counted, whether keys that aren't listed are unknown, its inner keys, which of them an event touched, the output keys
-- of those that it took away, its table and its kept rows. Its tally isn't among them: it is counted again from the
-- inner keys and the output keys of those that left.
abbrev pub sum_producer_items : Summing → List Item
sum_producer_items it =
    Num it.start ∷ Num it.reported ∷ Num (flag_number it.inner.nesting) ∷ Num (flag_number it.inner.unknown)
    ∷ sum_rest_items it

-- its tables are some, and its kept rows are within their bound
pub record IsSumProducer (it : Summing) : Type 0 where
  pub inner : IsTable Anything Anything it.inner.keys
  pub table : IsTable Anything Anything it.table
  pub kept : IsKeeping row_weight (IsRow Anything) it.kept

-- its keys fit their counts
pub record IsSavableSum (it : Summing) : Type 0 where
  pub inner : All (IsValidPair AreShortLeaves IsSavableInner) it.inner.keys.rows
  pub gone : All IsShortKey it.inner.gone
  pub table : All (IsValidPair IsShortKey Anything) it.table.rows
  pub kept : AreSavableRows (IsSavableRow Anything) it.kept

-- its entries: those of its inner keys, of what an event made of them, of the admitted keys, and of its kept rows
abbrev pub sum_entries : Summing → ℕ
sum_entries it =
    table_entries dims_items inner_items it.inner.keys
    + (list_entries number_items it.inner.touched + (list_entries key_items it.inner.gone
    + (table_entries key_items span_items it.table + kept_entries time_row_items it.kept)))

-- a head of fifteen items, and eight at most for each entry
pub sum_bounded : (it : Summing) → IsSumProducer it
    → length (sum_producer_items it) ≤ most_items 15 (sum_entries it)
sum_bounded it is =
    let inner = table_bounded dims_items inner_items Anything Anything it.inner.keys is.inner in
    let touched = elements_bounded number_items it.inner.touched in
    let gone = elements_bounded key_items it.inner.gone in
    let table = table_bounded key_items span_items Anything Anything it.table is.table in
    let kept = kept_bounded time_row_items row_weight (IsRow Anything) it.kept is.kept in
    let books = length-append (table_items key_items span_items it.table) (kept_items time_row_items it.kept) in
    let left = length-append (list_items key_items it.inner.gone) (sum_books_items it) in
    let places = length-append (list_items number_items it.inner.touched)
    (list_items key_items it.inner.gone ++ sum_books_items it) in
    let all = length-append (table_items dims_items inner_items it.inner.keys)
    (list_items number_items it.inner.touched ++ (list_items key_items it.inner.gone ++ sum_books_items it)) in
    omega arith

-- an entry is an item at least
pub sum_few : (it : Summing) → sum_entries it ≤ length (sum_producer_items it)
sum_few it =
    let inner = table_few dims_items inner_items it.inner.keys in
    let touched = list_few number_items it.inner.touched in
    let gone = list_few key_items it.inner.gone in
    let table = table_few key_items span_items it.table in
    let kept = kept_few time_row_items it.kept in
    let books = length-append (table_items key_items span_items it.table) (kept_items time_row_items it.kept) in
    let left = length-append (list_items key_items it.inner.gone) (sum_books_items it) in
    let places = length-append (list_items number_items it.inner.touched)
    (list_items key_items it.inner.gone ++ sum_books_items it) in
    let all = length-append (table_items dims_items inner_items it.inner.keys)
    (list_items number_items it.inner.touched ++ (list_items key_items it.inner.gone ++ sum_books_items it)) in
    omega arith

-- any list has elements that are valid where any value is
pub any_keys : {X : Type 0} (xs : List X) → All Anything xs
any_keys [] = All-nil Anything
any_keys (x ∷ xs) = All-cons Anything x xs tt (any_keys xs)

-- the items of such a sum can be spelled
pub sum_savable : (it : Summing) → IsSumProducer it → IsSavableSum it → AreSavable (sum_producer_items it)
sum_savable it is can =
    let inner = table_savable dims_items inner_items Anything Anything AreShortLeaves IsSavableInner dims_savable
    inner_savable it.inner.keys is.inner can.inner in
    let touched = list_savable number_items Anything Anything number_savable it.inner.touched
    (any_keys it.inner.touched) (any_keys it.inner.touched) in
    let gone = list_savable key_items Anything IsShortKey key_savable it.inner.gone (any_keys it.inner.gone) can.gone in
    let table = table_savable key_items span_items Anything Anything IsShortKey Anything key_savable span_savable
    it.table is.table can.table in
    let kept = kept_savable time_row_items row_weight (IsRow Anything) (IsSavableRow Anything) time_row_savable it.kept
    is.kept can.kept in
    let books = All-append IsSavable (table_items key_items span_items it.table) (kept_items time_row_items it.kept)
    table kept in
    let left = All-append IsSavable (list_items key_items it.inner.gone) (sum_books_items it) gone books in
    let places = All-append IsSavable (list_items number_items it.inner.touched)
    (list_items key_items it.inner.gone ++ sum_books_items it) touched left in
    let rest = All-append IsSavable (table_items dims_items inner_items it.inner.keys)
    (list_items number_items it.inner.touched ++ (list_items key_items it.inner.gone ++ sum_books_items it)) inner
    places in
    let unknown = items_savable (Num (flag_number it.inner.unknown)) (sum_rest_items it) tt rest in
    let nesting = items_savable (Num (flag_number it.inner.nesting))
    (Num (flag_number it.inner.unknown) ∷ sum_rest_items it) tt unknown in
    let reported = items_savable (Num it.reported)
    (Num (flag_number it.inner.nesting) ∷ Num (flag_number it.inner.unknown) ∷ sum_rest_items it) tt nesting in
    items_savable (Num it.start) (Num it.reported ∷ Num (flag_number it.inner.nesting)
    ∷ Num (flag_number it.inner.unknown) ∷ sum_rest_items it) tt reported
