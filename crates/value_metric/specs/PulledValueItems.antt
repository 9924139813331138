-- The items of a producer of pulled values, and which of them there are.
use Rattle.std.specs.Prelude.{ℕ, ◌+◌, ◌≤◌, ◌≡◌, List, [], ◌∷◌, ◌++◌, length, Option, Some, None}
use Rattle.std.specs.Option.{option_map, option_and_then}
use Rattle.std.proofs.Common.{arith}
use Rattle.std.proofs.lemmas.List.{length-append}
use Rattle.std.proofs.lemmas.List.Elements.{All-head, All-append}
use Rattle.config_types.specs.declared.parameters.DiffSpec.{DiffSpec}
use Rattle.flat_form.specs.declared.item.Item.{Item}
use Rattle.flat_form.specs.declared.item.Item.TheVariants.{Num}
use Rattle.flat_form.specs.Flat.{IsMissingOr, option_items}
use Rattle.flat_form.specs.Savable.{IsSavable, AreSavable}
use Rattle.flat_form.specs.SavableLaws.{items_savable, none_savable, option_savable}
use Rattle.flat_form.specs.Weight.{most_items}
use Rattle.metric_kinds.specs.Diffs.{KeyedInts}
use Rattle.value_metric.specs.declared.pulled_value.Open.{Open}
use Rattle.value_metric.specs.declared.pulled_value.Open.TheVariants.{Nothing, AtLast, Earlier}
use Rattle.value_metric.specs.declared.pulled_value.PulledValue.{PulledValue}
use Rattle.value_metric.specs.declared.value_books.ValueBooks.{ValueBooks}
use Rattle.value_metric.specs.ChoiceNumbers.{aggregation_number, aggregation_by, direction_number, direction_by, asked_number, asked_of_number}
use Rattle.value_metric.specs.SumsItems.{AreSums, AreSavableSums, found_items, found_entries, found_bounded, found_few, found_savable}
use Rattle.value_metric.specs.BooksItems.{books_items, AreValueBooks, AreSavableBooks, books_entries, books_bounded, books_few, books_savable}

-- What an interval is saved as: whether one is open; if so, whether it began before the last snapshot; and if so, with
-- which sums, or with none.
abbrev pub OpenForm : Type 0
OpenForm = Option (Option (Option KeyedInts))

-- the form of an interval
abbrev pub open_form : Open → OpenForm
open_form Nothing = None
open_form AtLast = Some None
open_form (Earlier sums) = Some (Some sums)

-- the interval of a form
abbrev pub open_of_form : OpenForm → Open
open_of_form None = Nothing
open_of_form (Some None) = AtLast
open_of_form (Some (Some sums)) = Earlier sums

-- the items of an interval
abbrev pub open_items : Open → List Item
open_items interval = option_items (option_items found_items) (open_form interval)

-- the sums with which it began are some
abbrev pub IsOpen : Open → Type 0
IsOpen interval = IsMissingOr (IsMissingOr (IsMissingOr AreSums)) (open_form interval)

-- their keys fit their counts
abbrev pub IsSavableOpen : Open → Type 0
IsSavableOpen interval = IsMissingOr (IsMissingOr (IsMissingOr AreSavableSums)) (open_form interval)

-- the entries of an interval: one for each key with which it began
abbrev pub open_entries : Open → ℕ
open_entries Nothing = 0
open_entries AtLast = 0
open_entries (Earlier sums) = found_entries sums

-- the sums of one that began at an earlier snapshot are some
earlier_found : (sums : Option KeyedInts) → IsOpen (Earlier sums) → IsMissingOr AreSums sums
earlier_found sums is =
    All-head (IsMissingOr AreSums) sums [] (All-head (IsMissingOr (IsMissingOr AreSums)) (Some sums) [] is)

-- an interval is four items, and eight at most for each entry
pub open_bounded : (interval : Open) → IsOpen interval
    → length (open_items interval) ≤ most_items 4 (open_entries interval)
open_bounded Nothing is = omega arith
open_bounded AtLast is = omega arith
open_bounded (Earlier sums) is =
    let part = found_bounded sums (earlier_found sums is) in
    let inner = length-append (found_items sums) [] in
    let outer = length-append (option_items found_items (Some sums)) [] in
    omega arith

-- an entry is an item at least
pub open_few : (interval : Open) → open_entries interval ≤ length (open_items interval)
open_few Nothing = omega arith
open_few AtLast = omega arith
open_few (Earlier sums) =
    let part = found_few sums in
    let inner = length-append (found_items sums) [] in
    let outer = length-append (option_items found_items (Some sums)) [] in
    omega arith

-- the items of such an interval can be spelled
pub open_savable : (interval : Open) → IsOpen interval → IsSavableOpen interval → AreSavable (open_items interval)
open_savable interval is can =
    option_savable (option_items found_items) (IsMissingOr (IsMissingOr AreSums))
    (IsMissingOr (IsMissingOr AreSavableSums))
    (option_savable found_items (IsMissingOr AreSums) (IsMissingOr AreSavableSums) found_savable) (open_form interval)
    is can

-- how differences are taken: what the integers of a key give, the way in which values go, and what is asked for
abbrev pub spec_items : DiffSpec → List Item
spec_items spec =
    Num (aggregation_number spec.agg) ∷ Num (direction_number spec.direction) ∷ Num (asked_number spec.abs_reset)
    ∷ Num (asked_number spec.skip_zero) ∷ Num (asked_number spec.zero_base) ∷ []

-- A producer of pulled values is how it takes differences, the sums of the last snapshot, the open interval, and its
-- books.
abbrev pub pulled_value_items : PulledValue → List Item
pulled_value_items it =
    spec_items it.spec ++ (found_items it.last ++ (open_items it.interval ++ books_items it.books))

-- its sums are some, and its books are
pub record IsPulledValue (it : PulledValue) : Type 0 where
  pub last : IsMissingOr AreSums it.last
  pub interval : IsOpen it.interval
  pub books : AreValueBooks it.books

-- its keys fit their counts
pub record IsSavablePulledValue (it : PulledValue) : Type 0 where
  pub last : IsMissingOr AreSavableSums it.last
  pub interval : IsSavableOpen it.interval
  pub books : AreSavableBooks it.books

-- Its entries: one for how differences are taken, one for each key of the last snapshot, one for each key with which
-- the open interval began, and those of its books.
abbrev pub pulled_value_entries : PulledValue → ℕ
pulled_value_entries it = 1 + found_entries it.last + open_entries it.interval + books_entries it.books

-- how many items its parts have
parts_counted : (it : PulledValue) → length (pulled_value_items it)
    ≡ 5 + length (found_items it.last) + length (open_items it.interval) + length (books_items it.books)
parts_counted it =
    let rest = length-append (open_items it.interval) (books_items it.books) in
    let all = length-append (found_items it.last) (open_items it.interval ++ books_items it.books) in
    omega arith

-- a head of sixteen items, and eight at most for each entry
pub pulled_value_bounded : (it : PulledValue) → IsPulledValue it
    → length (pulled_value_items it) ≤ most_items 16 (pulled_value_entries it)
pulled_value_bounded it is =
    let last = found_bounded it.last is.last in
    let interval = open_bounded it.interval is.interval in
    let books = books_bounded it.books is.books in
    let size = parts_counted it in
    omega arith

-- an entry is an item at least
pub pulled_value_few : (it : PulledValue) → pulled_value_entries it ≤ length (pulled_value_items it)
pulled_value_few it =
    let last = found_few it.last in
    let interval = open_few it.interval in
    let books = books_few it.books in
    let size = parts_counted it in
    omega arith

-- five numbers can be spelled
spec_savable : (spec : DiffSpec) → AreSavable (spec_items spec)
spec_savable spec =
    let zero_base = items_savable (Num (asked_number spec.zero_base)) [] tt none_savable in
    let skip_zero = items_savable (Num (asked_number spec.skip_zero)) (Num (asked_number spec.zero_base) ∷ []) tt
    zero_base in
    let abs_reset = items_savable (Num (asked_number spec.abs_reset))
    (Num (asked_number spec.skip_zero) ∷ Num (asked_number spec.zero_base) ∷ []) tt skip_zero in
    let direction = items_savable (Num (direction_number spec.direction)) (Num (asked_number spec.abs_reset)
    ∷ Num (asked_number spec.skip_zero) ∷ Num (asked_number spec.zero_base) ∷ []) tt abs_reset in
    items_savable (Num (aggregation_number spec.agg)) (Num (direction_number spec.direction)
    ∷ Num (asked_number spec.abs_reset) ∷ Num (asked_number spec.skip_zero) ∷ Num (asked_number spec.zero_base) ∷ []) tt
    direction

-- the items of such a producer can be spelled
pub pulled_value_savable : (it : PulledValue) → IsPulledValue it → IsSavablePulledValue it
    → AreSavable (pulled_value_items it)
pulled_value_savable it is can =
    let last = found_savable it.last is.last can.last in
    let interval = open_savable it.interval is.interval can.interval in
    let books = books_savable it.books is.books can.books in
    let rest = All-append IsSavable (open_items it.interval) (books_items it.books) interval books in
    let all = All-append IsSavable (found_items it.last) (open_items it.interval ++ books_items it.books) last rest in
    All-append IsSavable (spec_items it.spec)
    (found_items it.last ++ (open_items it.interval ++ books_items it.books)) (spec_savable it.spec) all

-- a producer by its parts, as they are saved
abbrev pub PulledValueForm : Type 0
PulledValueForm = (ℕ × (ℕ × (ℕ × (ℕ × ℕ)))) × (Option KeyedInts × (Open × ValueBooks))

-- how differences are taken, by these numbers, if they are some
abbrev pub spec_of_numbers : ℕ × (ℕ × (ℕ × (ℕ × ℕ))) → Option DiffSpec
spec_of_numbers numbers =
    option_and_then (λ agg. option_and_then (λ direction. option_and_then (λ abs_reset.
    option_and_then (λ skip_zero. option_map (λ zero_base. record {
      agg = agg;
      direction = direction;
      abs_reset = abs_reset;
      skip_zero = skip_zero;
      zero_base = zero_base;
    }) (asked_of_number numbers.1.1.1.1)) (asked_of_number numbers.1.1.1.0)) (asked_of_number numbers.1.1.0))
    (direction_by numbers.1.0))
    (aggregation_by numbers.0)

-- the producer of some parts, if there is one
abbrev pub pulled_value_of_form : PulledValueForm → Option PulledValue
pulled_value_of_form form =
    option_map (λ spec. record { spec = spec; books = form.1.1.1; last = form.1.0; interval = form.1.1.0 })
    (spec_of_numbers form.0)
