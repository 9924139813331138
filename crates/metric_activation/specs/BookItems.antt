-- The items of a book, and which books there are.
use Rattle.std.specs.Prelude.{ℕ, List, [], ◌∷◌, length, ◌≤◌, All}
use Rattle.std.proofs.Common.{arith}
use Rattle.std.proofs.lemmas.List.Elements.{All-nil, All-cons}
use Rattle.flat_form.specs.declared.item.Item.{Item}
use Rattle.flat_form.specs.declared.item.Item.TheVariants.{Num}
use Rattle.flat_form.specs.Flat.{Anything, list_items}
use Rattle.flat_form.specs.Weight.{most_items, list_entries}
use Rattle.flat_form.specs.Bounded.{elements_bounded, list_few}
use Rattle.flat_form.specs.Savable.{AreSavable}
use Rattle.flat_form.specs.SavableLaws.{items_savable, none_savable, list_savable}
use Rattle.metric_activation.specs.declared.timer.Timer.{Timer}
use Rattle.metric_activation.specs.Timers.{AreTimers}

-- a timer is two numbers
abbrev pub timer_items : Timer → List Item
timer_items timer = Num timer.ttl ∷ Num timer.end ∷ []

-- a timer is a head of two items and has no entry
pub timer_bounded : (timer : Timer) → Anything timer → length (timer_items timer) ≤ most_items 2 0
timer_bounded timer valid = omega arith

-- two numbers can be spelled
pub timer_savable : (timer : Timer) → Anything timer → Anything timer → AreSavable (timer_items timer)
timer_savable timer valid savable =
    items_savable (Num timer.ttl) (Num timer.end ∷ []) tt (items_savable (Num timer.end) [] tt none_savable)

-- a book is the number of its timers, and these
abbrev pub act_book_items : List Timer → List Item
act_book_items = list_items timer_items

-- each activation is one entry
abbrev pub act_book_entries : List Timer → ℕ
act_book_entries = list_entries timer_items

-- a book is one item, and eight at most for each entry
pub act_book_bounded : (timers : List Timer) → AreTimers timers
    → length (act_book_items timers) ≤ most_items 1 (act_book_entries timers)
act_book_bounded timers valid = let part = elements_bounded timer_items timers in omega arith

-- a book has no more entries than items
pub act_book_few : (timers : List Timer) → act_book_entries timers ≤ length (act_book_items timers)
act_book_few = list_few timer_items

-- nothing is asked of any of these
pub each_anything : {X : Type 0} (xs : List X) → All Anything xs
each_anything [] = All-nil Anything
each_anything (x ∷ xs) = All-cons Anything x xs tt (each_anything xs)

-- its numbers can be spelled
pub act_book_savable : (timers : List Timer) → AreTimers timers → Anything timers → AreSavable (act_book_items timers)
act_book_savable timers valid savable =
    list_savable timer_items Anything Anything timer_savable timers (each_anything timers) (each_anything timers)
