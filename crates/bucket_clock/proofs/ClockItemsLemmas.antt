-- For the build of clocks: a clock is saved as two pairs of numbers.
use Rattle.std.proofs.Common.{◌≡◌, ℕ, ◌≤◌, List, length, refl, arith, Err}
use Rattle.flat_form.specs.declared.item.Item.{Item}
use Rattle.flat_form.specs.declared.flat_error.FlatError.{FlatError}
use Rattle.flat_form.specs.Flat.{Anything, IsValidPair, Builds, number_items, pair_items}
use Rattle.flat_form.specs.ItemSpelling.{spelled_items}
use Rattle.flat_form.specs.Bounded.{bytes_bounded}
use Rattle.flat_form.proofs.FlatLaws as laws
use Rattle.bucket_clock.specs.Sound.{Times}
use Rattle.bucket_clock.specs.ClockItems.{clock_items, IsClock, clock_bounded}

-- the four numbers, as two pairs
abbrev pub Form : Type 0
Form = (ℕ × ℕ) × (ℕ × ℕ)

-- their items
abbrev pub form_items : Form → List Item
form_items = pair_items (pair_items number_items number_items) (pair_items number_items number_items)

-- any four numbers may stand there
abbrev pub IsForm : Form → Type 0
IsForm = IsValidPair (IsValidPair Anything Anything) (IsValidPair Anything Anything)

-- the numbers of a clock
abbrev form : Times → Form
form clock = ((clock.base, clock.size), (clock.start, clock.next_end))

-- a clock has the items of its four numbers
as_form : (clock : Times) → clock_items clock ≡ form_items (form clock)
as_form clock = refl

-- the numbers of a clock may stand there
form_valid : (clock : Times) → IsClock clock → IsForm (form clock)
form_valid clock valid = ((tt, tt), (tt, tt))

-- what stands there is no four numbers, so it is no clock
pub clock_fails : (items : List Item) (place : ℕ) (e : FlatError) → Builds IsForm form_items items place (Err e)
    → Builds IsClock clock_items items place (Err e)
clock_fails items place e fails = laws.form_fails IsForm form_items IsClock clock_items form as_form form_valid items
    place e fails

-- for callers: a clock has 36 bytes at most
pub clock_size : (clock : Times) → IsClock clock → length (spelled_items (clock_items clock)) ≤ 36
clock_size clock valid =
    let most = bytes_bounded (clock_items clock) 4 0 (clock_bounded clock valid) in omega (arith, most)
