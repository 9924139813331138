-- For the builds of an interval and of a producer of pulled values: each is saved as its parts.
use Rattle.std.proofs.Common.{◌≡◌, ℕ, Bool, List, Some, None, Err, refl, sym, ap, ◌∙◌}
use Rattle.std.specs.Option.{option_map, option_and_then}
use Rattle.std.proofs.lemmas.Option.{same_Some}
use Rattle.config_types.specs.declared.metric.Aggregation.{Aggregation}
use Rattle.config_types.specs.declared.metric.Direction.{Direction}
use Rattle.config_types.specs.declared.parameters.DiffSpec.{DiffSpec}
use Rattle.flat_form.specs.declared.item.Item.{Item}
use Rattle.flat_form.specs.declared.flat_error.FlatError.{FlatError}
use Rattle.flat_form.specs.declared.flat_error.FlatError.TheVariants.{Bad}
use Rattle.flat_form.specs.Flat.{Anything, IsValidPair, IsMissingOr, IsBuilt, Builds, number_items, pair_items, option_items}
use Rattle.flat_form.proofs.FlatLaws as laws
use Rattle.value_metric.specs.declared.pulled_value.Open.{Open}
use Rattle.value_metric.specs.declared.pulled_value.Open.TheVariants.{Nothing, AtLast, Earlier}
use Rattle.value_metric.specs.declared.pulled_value.PulledValue.{PulledValue}
use Rattle.value_metric.specs.ChoiceNumbers.{aggregation_number, aggregation_by, direction_number, direction_by, asked_number, asked_of_number}
use Rattle.value_metric.specs.SumsItems.{AreSums, found_items}
use Rattle.value_metric.specs.BooksItems.{books_items, AreValueBooks}
use Rattle.value_metric.specs.PulledValueItems.{OpenForm, open_form, open_of_form, open_items, IsOpen, pulled_value_items, IsPulledValue, PulledValueForm, spec_of_numbers, pulled_value_of_form}
use Rattle.value_metric.proofs.ChoiceNumbersLemmas.{aggregation_back, aggregation_is, direction_back, direction_is, flag_back, flag_is, and_then_some, map_some}
use Rattle.value_metric.proofs.FormLemmas.{form_found, form_strange}

-- the items of the form of an interval
abbrev pub open_form_items : OpenForm → List Item
open_form_items = option_items (option_items found_items)

-- the sums in it are some
abbrev pub IsOpenForm : OpenForm → Type 0
IsOpenForm = IsMissingOr (IsMissingOr (IsMissingOr AreSums))

-- the form of an interval leads back to it
open_back : (interval : Open) → Some (open_of_form (open_form interval)) ≡ Some interval
open_back Nothing = refl
open_back AtLast = refl
open_back (Earlier sums) = refl

-- the interval of a form has this form
open_is : (form : OpenForm) → open_form (open_of_form form) ≡ form
open_is None = refl
open_is (Some None) = refl
open_is (Some (Some sums)) = refl

-- no form stands there, so no interval does
pub open_fails : (items : List Item) (place : ℕ) (e : FlatError)
    → Builds IsOpenForm open_form_items items place (Err e) → Builds IsOpen open_items items place (Err e)
open_fails items place e fails = laws.form_fails IsOpenForm open_form_items IsOpen open_items open_form
    (λ interval. refl) (λ interval is. is) items place e fails

-- the interval of the form that stands there
pub open_built : (items : List Item) (place : ℕ) (form : OpenForm) (next : ℕ)
    → IsBuilt IsOpenForm open_form_items items place form next
    → (interval : Open) → interval ≡ open_of_form form → IsBuilt IsOpen open_items items place interval next
open_built items place form next one interval is =
    form_found IsOpenForm open_form_items IsOpen open_items open_form (λ f. Some (open_of_form f)) (λ interval. refl)
    (λ interval ok. ok) (λ interval ok. ok) open_back
    (λ f i at. ap open_form (sym (same_Some _ _ at)) ∙ open_is f) items place form next one interval
    (ap (λ i. Some i) (sym is))

-- the five numbers of how differences are taken
abbrev SpecNumbers : Type 0
SpecNumbers = ℕ × (ℕ × (ℕ × (ℕ × ℕ)))

-- their items
abbrev numbers_items : SpecNumbers → List Item
numbers_items = pair_items number_items (pair_items number_items (pair_items number_items
    (pair_items number_items number_items)))

-- they are any
abbrev IsNumbers : SpecNumbers → Type 0
IsNumbers = IsValidPair Anything (IsValidPair Anything (IsValidPair Anything (IsValidPair Anything Anything)))

-- the numbers of how differences are taken
abbrev numbers_of : DiffSpec → SpecNumbers
numbers_of spec = (
  aggregation_number spec.agg,
  (
    direction_number spec.direction,
    (
      asked_number spec.abs_reset,
      (asked_number spec.skip_zero, asked_number spec.zero_base),
    ),
  ),
)

-- they lead back
numbers_back : (spec : DiffSpec) → spec_of_numbers (numbers_of spec) ≡ Some spec
numbers_back spec = rw (
  aggregation_back spec.agg,
  direction_back spec.direction,
  flag_back spec.abs_reset,
  flag_back spec.skip_zero,
  flag_back spec.zero_base,
) refl

-- how differences are taken, by its five parts
abbrev spec_with : Aggregation → Direction → Bool → Bool → Bool → DiffSpec
spec_with agg direction abs_reset skip_zero zero_base = record {
  agg = agg;
  direction = direction;
  abs_reset = abs_reset;
  skip_zero = skip_zero;
  zero_base = zero_base;
}

-- what some numbers lead to has these numbers
numbers_are : (numbers : SpecNumbers) (spec : DiffSpec) → spec_of_numbers numbers ≡ Some spec
    → numbers_of spec ≡ numbers
numbers_are numbers spec is =
    let n2 = numbers.1.0 in
    let n3 = numbers.1.1.0 in
    let n4 = numbers.1.1.1.0 in
    let n5 = numbers.1.1.1.1 in
    let one = and_then_some (λ agg. option_and_then (λ direction. option_and_then (λ abs_reset.
    option_and_then (λ skip_zero. option_map (spec_with agg direction abs_reset skip_zero)
    (asked_of_number n5)) (asked_of_number n4)) (asked_of_number n3)) (direction_by n2)) (aggregation_by numbers.0)
    spec is in
    let two = and_then_some (λ direction. option_and_then (λ abs_reset. option_and_then (λ skip_zero.
    option_map (spec_with one.0 direction abs_reset skip_zero) (asked_of_number n5)) (asked_of_number n4))
    (asked_of_number n3)) (direction_by n2) spec one.2 in
    let three = and_then_some (λ abs_reset. option_and_then (λ skip_zero.
    option_map (spec_with one.0 two.0 abs_reset skip_zero) (asked_of_number n5)) (asked_of_number n4))
    (asked_of_number n3) spec two.2 in
    let four = and_then_some (λ skip_zero. option_map (spec_with one.0 two.0 three.0 skip_zero) (asked_of_number n5))
    (asked_of_number n4) spec three.2 in
    let five = map_some (spec_with one.0 two.0 three.0 four.0) (asked_of_number n5) spec four.2 in
    ap numbers_of (sym five.2)
    ∙ ap (λ n. (n, (direction_number two.0, (asked_number three.0, (asked_number four.0, asked_number five.0)))))
    (aggregation_is numbers.0 one.0 one.1)
    ∙ ap (λ n. (numbers.0, (n, (asked_number three.0, (asked_number four.0, asked_number five.0)))))
    (direction_is n2 two.0 two.1)
    ∙ ap (λ n. (numbers.0, (n2, (n, (asked_number four.0, asked_number five.0))))) (flag_is n3 three.0 three.1)
    ∙ ap (λ n. (numbers.0, (n2, (n3, (n, asked_number five.0))))) (flag_is n4 four.0 four.1)
    ∙ ap (λ n. (numbers.0, (n2, (n3, (n4, n))))) (flag_is n5 five.0 five.1)

-- the items of the parts of a producer
abbrev pub pulled_value_form_items : PulledValueForm → List Item
pulled_value_form_items = pair_items numbers_items (pair_items found_items (pair_items open_items books_items))

-- any numbers, sums, an interval, and books
abbrev pub IsPulledValueForm : PulledValueForm → Type 0
IsPulledValueForm = IsValidPair IsNumbers (IsValidPair (IsMissingOr AreSums) (IsValidPair IsOpen AreValueBooks))

-- the parts of a producer
abbrev form_of : PulledValue → PulledValueForm
form_of it = (numbers_of it.spec, (it.last, (it.interval, it.books)))

-- they are valid where the producer is
form_valid : (it : PulledValue) → IsPulledValue it → IsPulledValueForm (form_of it)
form_valid it is = ((tt, (tt, (tt, (tt, tt)))), (is.last, (is.interval, is.books)))

-- and the other way
valid_back : (it : PulledValue) → IsPulledValueForm (form_of it) → IsPulledValue it
valid_back it is = record { last = is.1.0; interval = is.1.1.0; books = is.1.1.1 }

-- a producer that takes its differences in this way, of some parts
abbrev producer_with : PulledValueForm → DiffSpec → PulledValue
producer_with form spec = record { spec = spec; books = form.1.1.1; last = form.1.0; interval = form.1.1.0 }

-- the parts of a producer lead back to it
leads_back : (it : PulledValue) → pulled_value_of_form (form_of it) ≡ Some it
leads_back it = ap (option_map (producer_with (form_of it))) (numbers_back it.spec)

-- the producer of some parts has these parts
is_form : (form : PulledValueForm) (it : PulledValue) → pulled_value_of_form form ≡ Some it → form_of it ≡ form
is_form form it is =
    let one = map_some (producer_with form) (spec_of_numbers form.0) it is in
    ap form_of (sym one.2) ∙ ap (λ numbers. (numbers, form.1)) (numbers_are form.0 one.0 one.1)

module _ (items : List Item) (place : ℕ) where
  -- no such parts stand there, so no producer does
  pub pulled_value_fails : (e : FlatError) → Builds IsPulledValueForm pulled_value_form_items items place (Err e)
      → Builds IsPulledValue pulled_value_items items place (Err e)
  pulled_value_fails e fails = laws.form_fails IsPulledValueForm pulled_value_form_items IsPulledValue
      pulled_value_items form_of (λ it. refl) form_valid items place e fails

  module _ (form : PulledValueForm) (next : ℕ)
      (one : IsBuilt IsPulledValueForm pulled_value_form_items items place form next) where
    -- the producer of the parts that stand there
    pub pulled_value_built : (it : PulledValue) → pulled_value_of_form form ≡ Some it
        → IsBuilt IsPulledValue pulled_value_items items place it next
    pulled_value_built = form_found IsPulledValueForm pulled_value_form_items IsPulledValue pulled_value_items form_of
        pulled_value_of_form (λ it. refl) form_valid valid_back leads_back is_form items place form next one

    -- the parts that stand there are those of no producer
    pub pulled_value_none : pulled_value_of_form form ≡ None
        → Builds IsPulledValue pulled_value_items items place (Err Bad)
    pulled_value_none = form_strange IsPulledValueForm pulled_value_form_items IsPulledValue pulled_value_items form_of
        pulled_value_of_form (λ it. refl) form_valid valid_back leads_back is_form items place form next one
