-- The items of kept rows, and which kept rows there are.
use Rattle.std.specs.Prelude.{ℕ, ◌≤◌, List, ◌∷◌, length, All}
use Rattle.std.proofs.Common.{arith}
use Rattle.flat_form.specs.declared.item.Item.{Item}
use Rattle.flat_form.specs.declared.item.Item.TheVariants.{Num}
use Rattle.flat_form.specs.Flat.{list_items}
use Rattle.flat_form.specs.Savable.{AreSavable}
use Rattle.flat_form.specs.SavableLaws.{items_savable, list_savable}
use Rattle.flat_form.specs.Weight.{most_items, list_entries}
use Rattle.flat_form.specs.Bounded.{elements_bounded, elements_few}
use Rattle.kept_rows.specs.KeptRows.{Keeping, IsWithinWeight}

module _ {R : Type 0} (flat : R → List Item) where
  -- kept rows are their weight, the number of the others, and the rows
  abbrev pub kept_items : Keeping R → List Item
  kept_items it = Num it.used ∷ Num it.others ∷ list_items flat it.rows

  -- the entries of all kept rows: one for each eight items of a row that are begun
  abbrev pub kept_entries : Keeping R → ℕ
  kept_entries it = list_entries flat it.rows

module _ {R : Type 0} where
  -- kept rows weigh what is used, within their bound, and each is valid
  pub record IsKeeping (weigh : R → ℕ) (valid : R → Type 0) (it : Keeping R) : Type 0 where
    pub within : IsWithinWeight weigh it.rows it.used
    pub rows_valid : All valid it.rows

  -- each kept row is savable
  abbrev pub AreSavableRows : (R → Type 0) → Keeping R → Type 0
  AreSavableRows savable it = All savable it.rows

  -- a head of three items, and eight at most for each entry
  pub kept_bounded : (flat : R → List Item) (weigh : R → ℕ) (valid : R → Type 0) (it : Keeping R)
      → IsKeeping weigh valid it → length (kept_items flat it) ≤ most_items 3 (kept_entries flat it)
  kept_bounded flat weigh valid it is = let rows = elements_bounded flat it.rows in omega arith

  -- an entry is an item at least
  pub kept_few : (flat : R → List Item) (it : Keeping R) → kept_entries flat it ≤ length (kept_items flat it)
  kept_few flat it = let rows = elements_few flat it.rows in omega arith

  -- their items can be spelled where those of the rows can
  pub kept_savable : (flat : R → List Item) (weigh : R → ℕ) (valid savable : R → Type 0)
      → ((row : R) → valid row → savable row → AreSavable (flat row))
      → (it : Keeping R) → IsKeeping weigh valid it → AreSavableRows savable it → AreSavable (kept_items flat it)
  kept_savable flat weigh valid savable each it is can =
      let rows = list_savable flat valid savable each it.rows is.rows_valid can in
      let others = items_savable (Num it.others) (list_items flat it.rows) tt rows in
      items_savable (Num it.used) (Num it.others ∷ list_items flat it.rows) tt others
