-- The items of a producer of events, and which of them there are.
use Rattle.std.specs.Prelude.{ℕ, ◌≤◌, List, length, All}
use Rattle.atom_record.specs.declared.atom.Atom.{Atom}
use Rattle.atom_record.specs.AtomSound.{HasNoFault}
use Rattle.flat_form.specs.declared.item.Item.{Item}
use Rattle.flat_form.specs.Flat.{Anything, atom_items, list_items}
use Rattle.flat_form.specs.Savable.{AreSavable}
use Rattle.flat_form.specs.SavableLaws.{atom_savable, list_savable}
use Rattle.flat_form.specs.Weight.{most_items}
use Rattle.kept_rows.specs.KeptRows.{list_weight}
use Rattle.kept_rows.specs.KeptItems.{kept_items, kept_entries, IsKeeping, AreSavableRows, kept_bounded, kept_few, kept_savable}
use Rattle.metric_producer.specs.declared.row.Row.{Row}
use Rattle.metric_producer.specs.RowItems.{row_items, IsRow, IsSavableRow, row_savable}
use Rattle.gauge_metric.specs.declared.events.EventProducer.{EventProducer}

-- the items of a row of atoms
abbrev pub atom_row_items : Row (List Atom) → List Item
atom_row_items = row_items (list_items atom_items)

-- any row of atoms
abbrev pub IsAtomRow : Row (List Atom) → Type 0
IsAtomRow = IsRow (All Anything)

-- a row of atoms weighs as many as it has, and one at least
abbrev pub atom_row_weight : Row (List Atom) → ℕ
atom_row_weight row = list_weight row.value

-- the key of the row fits its counts, and its atoms have no fault
abbrev pub IsSavableAtomRow : Row (List Atom) → Type 0
IsSavableAtomRow = IsSavableRow (All HasNoFault)

-- the items of such a row can be spelled
pub atom_row_savable : (row : Row (List Atom)) → IsAtomRow row → IsSavableAtomRow row → AreSavable (atom_row_items row)
atom_row_savable row is can =
    row_savable (list_items atom_items) (All Anything) (All HasNoFault)
    (list_savable atom_items Anything HasNoFault atom_savable) row is can

-- a producer of events is its kept rows
abbrev pub events_items : EventProducer → List Item
events_items it = kept_items atom_row_items it.kept

-- its kept rows are within their bound
abbrev pub IsEvents : EventProducer → Type 0
IsEvents it = IsKeeping atom_row_weight IsAtomRow it.kept

-- its atoms have no fault
abbrev pub AreSavableEvents : EventProducer → Type 0
AreSavableEvents it = AreSavableRows IsSavableAtomRow it.kept

-- its entries: those of its kept rows
abbrev pub events_entries : EventProducer → ℕ
events_entries it = kept_entries atom_row_items it.kept

-- a head of three items, and eight at most for each entry
pub events_bounded : (it : EventProducer) → IsEvents it → length (events_items it) ≤ most_items 3 (events_entries it)
events_bounded it is = kept_bounded atom_row_items atom_row_weight IsAtomRow it.kept is

-- an entry is an item at least
pub events_few : (it : EventProducer) → events_entries it ≤ length (events_items it)
events_few it = kept_few atom_row_items it.kept

-- the items of such events can be spelled
pub events_savable : (it : EventProducer) → IsEvents it → AreSavableEvents it → AreSavable (events_items it)
events_savable it is can =
    kept_savable atom_row_items atom_row_weight IsAtomRow IsSavableAtomRow atom_row_savable it.kept is can
