-- The items of a clock, and which clocks there are.
use Rattle.std.specs.Prelude.{◌≤◌, List, [], ◌∷◌, length}
use Rattle.std.proofs.Common.{arith}
use Rattle.flat_form.specs.declared.item.Item.{Item}
use Rattle.flat_form.specs.declared.item.Item.TheVariants.{Num}
use Rattle.flat_form.specs.Flat.{Anything}
use Rattle.flat_form.specs.Weight.{most_items}
use Rattle.flat_form.specs.Savable.{AreSavable}
use Rattle.flat_form.specs.SavableLaws.{items_savable, none_savable}
use Rattle.bucket_clock.specs.Sound.{Times, IsSound}

-- a clock is its four numbers
abbrev pub clock_items : Times → List Item
clock_items clock = Num clock.base ∷ Num clock.size ∷ Num clock.start ∷ Num clock.next_end ∷ []

-- these times are a clock's
abbrev pub IsClock : Times → Type 0
IsClock clock = IsSound clock.base clock.size clock.start clock.next_end

-- a clock is a head of four items and has no entry
pub clock_bounded : (clock : Times) → IsClock clock → length (clock_items clock) ≤ most_items 4 0
clock_bounded clock valid = omega arith

-- four numbers can be spelled
pub clock_savable : (clock : Times) → IsClock clock → Anything clock → AreSavable (clock_items clock)
clock_savable clock valid savable =
    let last = items_savable (Num clock.next_end) [] tt none_savable in
    let part = items_savable (Num clock.start) (Num clock.next_end ∷ []) tt last in
    let sized = items_savable (Num clock.size) (Num clock.start ∷ Num clock.next_end ∷ []) tt part in
    items_savable (Num clock.base) (Num clock.size ∷ Num clock.start ∷ Num clock.next_end ∷ []) tt sized
