-- The items of what a row of counts holds.
use Rattle.std.specs.Prelude.{ℕ, ◌≤◌, Bool, true, false, List, [], ◌∷◌, length}
use Rattle.std.proofs.Common.{arith}
use Rattle.flat_form.specs.declared.item.Item.{Item}
use Rattle.flat_form.specs.declared.item.Item.TheVariants.{Num}
use Rattle.flat_form.specs.Flat.{Anything, number_items}
use Rattle.flat_form.specs.Savable.{AreSavable}
use Rattle.flat_form.specs.SavableLaws.{items_savable, number_savable}
use Rattle.flat_form.specs.Weight.{most_items}
use Rattle.metric_producer.specs.declared.row.CountCell.{CountCell}

-- the number that says whether a row is an overflow row
abbrev pub overflow_number : Bool → ℕ
overflow_number true = 1
overflow_number false = 0

-- what a row of counts holds is its number, and whether it is an overflow row
abbrev pub cell_items : CountCell → List Item
cell_items cell = Num cell.number ∷ Num (overflow_number cell.overflow) ∷ []

-- a head of two items
pub cell_bounded : (cell : CountCell) → Anything cell → length (cell_items cell) ≤ most_items 2 0
cell_bounded cell valid = omega arith

-- it can be spelled
pub cell_savable : (cell : CountCell) → Anything cell → Anything cell → AreSavable (cell_items cell)
cell_savable cell valid savable =
    items_savable (Num cell.number) (number_items (overflow_number cell.overflow)) tt
    (number_savable (overflow_number cell.overflow) tt tt)
