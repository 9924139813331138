-- The items of a producer of counts, and which of them there are.
use Rattle.std.specs.Prelude.{ℕ, ◌+◌, ◌≤◌, List, ◌∷◌, ◌++◌, length, All}
use Rattle.std.proofs.Common.{arith}
use Rattle.std.proofs.lemmas.List.{length-append}
use Rattle.std.proofs.lemmas.List.Elements.{All-append}
use Rattle.flat_form.specs.declared.item.Item.{Item}
use Rattle.flat_form.specs.declared.item.Item.TheVariants.{Num}
use Rattle.flat_form.specs.Flat.{Anything, IsValidPair, number_items, key_items}
use Rattle.flat_form.specs.Savable.{IsSavable, AreSavable, IsShortKey}
use Rattle.flat_form.specs.SavableLaws.{items_savable, number_savable, key_savable}
use Rattle.flat_form.specs.Weight.{most_items}
use Rattle.dim_table.specs.TableItems.{table_items, IsTable, table_entries, table_bounded, table_few, table_savable}
use Rattle.kept_rows.specs.KeptItems.{kept_items, kept_entries, IsKeeping, AreSavableRows, kept_bounded, kept_few, kept_savable}
use Rattle.metric_producer.specs.declared.row.CountCell.{CountCell}
use Rattle.metric_producer.specs.declared.row.Row.{Row}
use Rattle.metric_producer.specs.CellItems.{cell_items, cell_savable}
use Rattle.metric_producer.specs.RowItems.{row_items, IsRow, IsSavableRow, row_savable}
use Rattle.metric_kinds.specs.Counts.{row_weight}
use Rattle.count_metric.specs.declared.count.CountProducer.{CountProducer}

-- the items of the rows that a producer of counts keeps
abbrev pub count_row_items : Row CountCell → List Item
count_row_items = row_items cell_items

-- how many arrivals of the open part were spilled, and whether they are gathered
abbrev pub spilled_cell : CountProducer → CountCell
spilled_cell it = record { number = it.spilled; overflow = it.overflow }

-- its table and its kept rows
abbrev pub count_rest : CountProducer → List Item
count_rest it = table_items key_items number_items it.table ++ kept_items count_row_items it.kept

-- a producer of counts is where its open part began, what was spilled, its table, and its kept rows
abbrev pub count_items : CountProducer → List Item
count_items it = Num it.start ∷ (cell_items (spilled_cell it) ++ count_rest it)

-- its table is one, and its kept rows are within their bound
pub record HasBounds (it : CountProducer) : Type 0 where
  pub table : IsTable Anything Anything it.table
  pub kept : IsKeeping row_weight (IsRow Anything) it.kept

-- its keys fit their counts
abbrev pub IsSavableCount : CountProducer → Type 0
IsSavableCount it = All (IsValidPair IsShortKey Anything) it.table.rows × AreSavableRows (IsSavableRow Anything) it.kept

-- its entries: those of its table and of its kept rows
abbrev pub count_entries : CountProducer → ℕ
count_entries it = table_entries key_items number_items it.table + kept_entries count_row_items it.kept

-- a head of nine items, and eight at most for each entry
pub count_bounded : (it : CountProducer) → HasBounds it → length (count_items it) ≤ most_items 9 (count_entries it)
count_bounded it is =
    let table = table_bounded key_items number_items Anything Anything it.table is.table in
    let kept = kept_bounded count_row_items row_weight (IsRow Anything) it.kept is.kept in
    let size = length-append (table_items key_items number_items it.table) (kept_items count_row_items it.kept) in
    omega arith

-- an entry is an item at least
pub count_few : (it : CountProducer) → count_entries it ≤ length (count_items it)
count_few it =
    let table = table_few key_items number_items it.table in
    let kept = kept_few count_row_items it.kept in
    let size = length-append (table_items key_items number_items it.table) (kept_items count_row_items it.kept) in
    omega arith

-- the items of a producer with such keys can be spelled
pub count_savable : (it : CountProducer) → HasBounds it → IsSavableCount it → AreSavable (count_items it)
count_savable it is can =
    let table = table_savable key_items number_items Anything Anything IsShortKey Anything key_savable number_savable
    it.table is.table can.0 in
    let kept = kept_savable count_row_items row_weight (IsRow Anything) (IsSavableRow Anything)
    (row_savable cell_items Anything Anything cell_savable) it.kept is.kept can.1 in
    let rest = All-append IsSavable (table_items key_items number_items it.table) (kept_items count_row_items it.kept)
    table kept in
    let spilled = cell_savable (spilled_cell it) tt tt in
    items_savable (Num it.start) (cell_items (spilled_cell it) ++ count_rest it) tt
    (All-append IsSavable (cell_items (spilled_cell it)) (count_rest it) spilled rest)
