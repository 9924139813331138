-- The items of a pushed gauge, and which of them there are.
use Rattle.std.specs.Prelude.{ℕ, ◌+◌, ◌≤◌, List, ◌∷◌, ◌++◌, length, All}
use Rattle.std.proofs.Common.{arith}
use Rattle.std.proofs.lemmas.List.{length-append}
use Rattle.std.proofs.lemmas.List.Elements.{All-append}
use Rattle.atom_record.specs.AtomSound.{HasNoFault}
use Rattle.flat_form.specs.declared.item.Item.{Item}
use Rattle.flat_form.specs.declared.item.Item.TheVariants.{Num}
use Rattle.flat_form.specs.Flat.{Anything, IsValidPair, key_items, atom_items, list_items}
use Rattle.flat_form.specs.Savable.{IsSavable, AreSavable, IsShortKey}
use Rattle.flat_form.specs.SavableLaws.{items_savable, key_savable, atom_savable, list_savable}
use Rattle.flat_form.specs.Weight.{most_items}
use Rattle.dim_table.specs.TableItems.{table_items, IsTable, table_entries, table_bounded, table_few, table_savable}
use Rattle.kept_rows.specs.KeptItems.{kept_items, kept_entries, IsKeeping, AreSavableRows, kept_bounded, kept_few, kept_savable}
use Rattle.gauge_metric.specs.declared.gauge.PushedGauge.{PushedGauge}
use Rattle.gauge_metric.specs.EventItems.{atom_row_items, atom_row_weight, IsAtomRow, IsSavableAtomRow, atom_row_savable}

-- a gauge's table and its kept rows
abbrev pub gauge_rest : PushedGauge → List Item
gauge_rest it = table_items key_items (list_items atom_items) it.table ++ kept_items atom_row_items it.kept

-- a gauge is where its open part began, how many samples it keeps of a key, its table, and its kept rows
abbrev pub gauge_items : PushedGauge → List Item
gauge_items it = Num it.start ∷ Num it.samples ∷ gauge_rest it

-- its table is one, and its kept rows are within their bound
pub record IsGauge (it : PushedGauge) : Type 0 where
  pub table : IsTable Anything (All Anything) it.table
  pub kept : IsKeeping atom_row_weight IsAtomRow it.kept

-- its keys fit their counts, and its atoms have no fault
abbrev pub IsSavableGauge : PushedGauge → Type 0
IsSavableGauge it =
    All (IsValidPair IsShortKey (All HasNoFault)) it.table.rows × AreSavableRows IsSavableAtomRow it.kept

-- its entries: those of its table, whose rows have their samples, and of its kept rows
abbrev pub gauge_entries : PushedGauge → ℕ
gauge_entries it = table_entries key_items (list_items atom_items) it.table + kept_entries atom_row_items it.kept

-- a head of eight items, and eight at most for each entry
pub gauge_bounded : (it : PushedGauge) → IsGauge it → length (gauge_items it) ≤ most_items 8 (gauge_entries it)
gauge_bounded it is =
    let table = table_bounded key_items (list_items atom_items) Anything (All Anything) it.table is.table in
    let kept = kept_bounded atom_row_items atom_row_weight IsAtomRow it.kept is.kept in
    let size =
    length-append (table_items key_items (list_items atom_items) it.table) (kept_items atom_row_items it.kept) in
    omega arith

-- an entry is an item at least
pub gauge_few : (it : PushedGauge) → gauge_entries it ≤ length (gauge_items it)
gauge_few it =
    let table = table_few key_items (list_items atom_items) it.table in
    let kept = kept_few atom_row_items it.kept in
    let size =
    length-append (table_items key_items (list_items atom_items) it.table) (kept_items atom_row_items it.kept) in
    omega arith

-- the items of such a gauge can be spelled
pub gauge_savable : (it : PushedGauge) → IsGauge it → IsSavableGauge it → AreSavable (gauge_items it)
gauge_savable it is can =
    let table = table_savable key_items (list_items atom_items) Anything (All Anything) IsShortKey (All HasNoFault)
    key_savable (list_savable atom_items Anything HasNoFault atom_savable) it.table is.table can.0 in
    let kept = kept_savable atom_row_items atom_row_weight IsAtomRow IsSavableAtomRow atom_row_savable it.kept
    is.kept can.1 in
    let body = All-append IsSavable (table_items key_items (list_items atom_items) it.table)
    (kept_items atom_row_items it.kept) table kept in
    items_savable (Num it.start) (Num it.samples ∷ gauge_rest it) tt
    (items_savable (Num it.samples) (gauge_rest it) tt body)
