-- The number of a choice leads back to it, and a number that leads to a choice is its number.
use Rattle.std.proofs.Common.{◌≡◌, ℕ, ◌==◌, Bool, true, false, if◌then◌else◌, Option, Some, None, ◌⊎◌, inl, inr, ⊎_elim, refl, sym, ap, ◌∙◌, arith}
use Rattle.std.specs.Option.{option_map, option_and_then}
use Rattle.std.proofs.lemmas.Option.{none-some, same_Some}
use Rattle.config_types.specs.declared.metric.Aggregation.{Aggregation}
use Rattle.config_types.specs.declared.metric.Aggregation.TheVariants.{Sum, Min, Max}
use Rattle.config_types.specs.declared.metric.Direction.{Direction}
use Rattle.config_types.specs.declared.metric.Direction.TheVariants.{Increasing, Decreasing, Any}
use Rattle.value_metric.specs.ChoiceNumbers.{aggregation_number, aggregation_by, direction_number, direction_by, asked_number, asked_of_number}

-- an aggregation
pub aggregation_back : (aggregation : Aggregation) → aggregation_by (aggregation_number aggregation) ≡ Some aggregation
aggregation_back Sum = refl
aggregation_back Min = refl
aggregation_back Max = refl

-- a way
pub direction_back : (direction : Direction) → direction_by (direction_number direction) ≡ Some direction
direction_back Increasing = refl
direction_back Decreasing = refl
direction_back Any = refl

-- what is asked for or not
pub flag_back : (flag : Bool) → asked_of_number (asked_number flag) ≡ Some flag
flag_back false = refl
flag_back true = refl

-- where a choice gives something, one of its two sides does
if_some : {A : Type 0} (b : Bool) (x : A) (rest : Option A) (y : A) → (if b then Some x else rest) ≡ Some y
    → ((b ≡ true) × (x ≡ y)) ⊎ ((b ≡ false) × (rest ≡ Some y))
if_some true x rest y is = inl (refl, same_Some _ _ is)
if_some false x rest y is = inr (refl, is)

-- what the numbers 0 and 1 lead to has them as its numbers, where what others lead to has theirs
module _ {A : Type 0} (number_of : A → ℕ) (zero_is one_is : A) (at_zero : number_of zero_is ≡ 0)
    (at_one : number_of one_is ≡ 1) (number : ℕ) (rest : Option A) (y : A)
    (later : rest ≡ Some y → number_of y ≡ number) where
  two_is : (if number == 0 then Some zero_is else (if number == 1 then Some one_is else rest)) ≡ Some y
      → number_of y ≡ number
  two_is is =
      ⊎_elim
      (λ h. let at : 0 ≡ number = grind (arith, h.0) in ap number_of (sym h.1) ∙ at_zero ∙ at)
      (λ h. ⊎_elim
      (λ k. let at : 1 ≡ number = grind (arith, k.0) in ap number_of (sym k.1) ∙ at_one ∙ at)
      (λ k. later k.1)
      (if_some (number == 1) one_is rest y h.1))
      (if_some (number == 0) zero_is (if number == 1 then Some one_is else rest) y is)

-- and so has what the number 2 leads to, the last one
three_is : {A : Type 0} (number_of : A → ℕ) (last : A) → number_of last ≡ 2 → (number : ℕ) (y : A)
    → (if number == 2 then Some last else None) ≡ Some y → number_of y ≡ number
three_is number_of last at_two number y is =
    ⊎_elim
    (λ h. let at : 2 ≡ number = grind (arith, h.0) in ap number_of (sym h.1) ∙ at_two ∙ at)
    (λ h. absurd (none-some _ h.1))
    (if_some (number == 2) last None y is)

-- an aggregation
pub aggregation_is : (number : ℕ) (aggregation : Aggregation) → aggregation_by number ≡ Some aggregation
    → aggregation_number aggregation ≡ number
aggregation_is number aggregation is =
    two_is aggregation_number Sum Min refl refl number (if number == 2 then Some Max else None) aggregation
    (three_is aggregation_number Max refl number aggregation) is

-- a way
pub direction_is : (number : ℕ) (direction : Direction) → direction_by number ≡ Some direction
    → direction_number direction ≡ number
direction_is number direction is =
    two_is direction_number Increasing Decreasing refl refl number (if number == 2 then Some Any else None) direction
    (three_is direction_number Any refl number direction) is

-- what is asked for or not
pub flag_is : (number : ℕ) (flag : Bool) → asked_of_number number ≡ Some flag → asked_number flag ≡ number
flag_is number flag is =
    two_is asked_number false true refl refl number None flag (λ none. absurd (none-some _ none)) is

-- what the first of two steps gave
pub and_then_some : {A B : Type 0} (next : A → Option B) (one : Option A) (y : B)
    → option_and_then next one ≡ Some y → (x : A) × (one ≡ Some x) × (next x ≡ Some y)
and_then_some next None y is = absurd (none-some _ is)
and_then_some next (Some x) y is = (x, refl, is)

-- the same, where the second step always gives something
pub map_some : {A B : Type 0} (next : A → B) (one : Option A) (y : B)
    → option_map next one ≡ Some y → (x : A) × (one ≡ Some x) × (next x ≡ y)
map_some next None y is = absurd (none-some _ is)
map_some next (Some x) y is = (x, refl, same_Some _ _ is)
