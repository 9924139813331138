-- Items as they are held: the bytes of their spelling, and where in these each item begins.
use Rattle.std.specs.Prelude.{◌≡◌, ℕ, ◌+◌, List, [], ◌∷◌, Result, Ok, Err, drop, map, length}
use Rattle.flat_form.specs.declared.item.Item.{Item}
use Rattle.flat_form.specs.declared.item.Item.TheVariants.{Num}
use Rattle.flat_form.specs.ItemReading.{NoItem, item_at}
use Rattle.flat_form.specs.ItemSpelling.{spelled_item, spelled_items}
use Rattle.flat_form.specs.ItemRange.{CanBeSpelled, AreRead, ReadsItems}
use Rattle.flat_form.specs.declared.flat_error.FlatError.{FlatError}

-- the item that was read, or a number where none was
abbrev pub read_item : Result (Item × List ℕ) NoItem → Item
read_item (Ok read) = read.0
read_item (Err none) = Num 0

-- the items that begin at these places of the bytes
abbrev pub items_from : List ℕ → List ℕ → List Item
items_from bytes starts = map (λ start. read_item (item_at (drop start bytes))) starts

-- where each of the items begins, if the first begins at this place
unfoldable pub starts_of : ℕ → List Item → List ℕ
starts_of place [] = []
starts_of place (item ∷ items) = place ∷ starts_of (place + length (spelled_item item)) items

-- the bytes are the spelling of the items that begin at these places, and nothing else
pub record AreSpelled (bytes starts : List ℕ) : Type 0 where
  pub can_be : CanBeSpelled (items_from bytes starts)
  pub spelled : bytes ≡ spelled_items (items_from bytes starts)
  pub begin : starts ≡ starts_of 0 (items_from bytes starts)

-- what finding where items begin answers: the places of the items whose spelling the bytes are, or that they are the
-- spelling of none
abbrev pub FindsStarts : List ℕ → Result (List ℕ) FlatError → Type 0
FindsStarts bytes (Ok starts) = AreSpelled bytes starts × AreRead bytes (items_from bytes starts)
FindsStarts bytes (Err fault) = ReadsItems bytes (Err fault)
