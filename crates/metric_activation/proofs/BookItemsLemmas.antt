-- For the build of books: a timer is saved as a pair of numbers, and a book as a list of timers.
use Rattle.std.proofs.Common.{◌≡◌, ℕ, List, All, Err, refl}
use Rattle.flat_form.specs.declared.item.Item.{Item}
use Rattle.flat_form.specs.declared.flat_error.FlatError.{FlatError}
use Rattle.flat_form.specs.declared.flat_error.FlatError.TheVariants.{Bad}
use Rattle.flat_form.specs.Flat.{Anything, IsValidPair, IsBuilt, Builds, number_items, pair_items}
use Rattle.flat_form.proofs.FlatLaws as laws
use Rattle.metric_activation.specs.declared.timer.Timer.{Timer}
use Rattle.metric_activation.specs.Timers.{AreTimers}
use Rattle.metric_activation.specs.BookItems.{timer_items, act_book_items, each_anything}

-- the two numbers of a timer
abbrev Form : Type 0
Form = ℕ × ℕ

abbrev form_items : Form → List Item
form_items = pair_items number_items number_items

abbrev IsForm : Form → Type 0
IsForm = IsValidPair Anything Anything

abbrev form : Timer → Form
form timer = (timer.ttl, timer.end)

module _ (items : List Item) (place : ℕ) where
  -- no two numbers stand there, so no timer does
  pub timer_fails : (e : FlatError) → Builds IsForm form_items items place (Err e)
      → Builds Anything timer_items items place (Err e)
  timer_fails e fails = laws.form_fails IsForm form_items Anything timer_items form (λ timer. refl)
      (λ timer valid. (tt, tt)) items place e fails

  -- no timers stand there, so no book does
  pub book_fails : (e : FlatError) → Builds (All Anything) act_book_items items place (Err e)
      → Builds AreTimers act_book_items items place (Err e)
  book_fails e fails = laws.form_fails (All Anything) act_book_items AreTimers act_book_items (λ timers. timers)
      (λ timers. refl) (λ timers valid. each_anything timers) items place e fails

  module _ (timers : List Timer) (next : ℕ) (one : IsBuilt (All Anything) act_book_items items place timers next) where
    -- the timers that stand there are those of a book
    pub book_built : (book : List Timer) → book ≡ timers → AreTimers timers
        → IsBuilt AreTimers act_book_items items place book next
    book_built book is valid = rw is (record {
      is_valid = valid;
      stands = one.stands;
      ends = one.ends;
      only = λ other other_valid there. one.only other (each_anything other) there;
    })

    -- the timers that stand there are those of no book
    pub no_book : ¬ (AreTimers timers) → Builds AreTimers act_book_items items place (Err Bad)
    no_book beyond = λ other other_valid there.
        let same : other ≡ timers = one.only other (each_anything other) there in
        beyond (rw (← same) other_valid)
