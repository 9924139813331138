-- On specs/Commands.antt: a number is read digit by digit.
use Rattle.std.proofs.Common.{if◌then◌else◌, ◌≡◌, ℕ, ◌+◌, ◌-◌, ◌*◌, ◌≤◌, ◌<◌, Bool, true, false, ◌&&◌, List, [], ◌∷◌, Option, Some, None, nat_le, refl, sym, ap, ◌∙◌, arith}
use Rattle.std.specs.List.{list_all}
use Rattle.std.proofs.lemmas.Bool.Decides.{nat_tests}
use Rattle.statsd_cli.specs.Commands.{is_digit, number_from, number_within}

-- a number doesn't fall with more digits
number_grows : (front : ℕ) (digits : List ℕ) → front ≤ number_from front digits
number_grows front [] = omega arith
number_grows front (digit ∷ digits) = omega (arith, number_grows (front * 10 + (digit - 48)) digits)

-- no more digits
pub within-nil : (most front : ℕ) → front ≤ most → number_within most front [] ≡ Some front
unfolding number_within
within-nil most front few = grind (arith, nat_tests, few)

-- one more digit, which leaves the number small enough
pub within-more : (most front digit : ℕ) (digits : List ℕ) → is_digit digit ≡ true
    → number_within most front (digit ∷ digits) ≡ number_within most (front * 10 + (digit - 48)) digits
unfolding number_within
within-more most front digit digits is = rw is refl

-- what is no digit is in no number
pub within-other : (most front digit : ℕ) (digits : List ℕ) → is_digit digit ≡ false
    → number_within most front (digit ∷ digits) ≡ None
unfolding number_within
within-other most front digit digits is = rw is refl

too_large : (all : Bool) (most number : ℕ) → most < number
    → (if all && nat_le number most then Some number else None) ≡ None
too_large true most number more = grind (arith, nat_tests, more)
too_large false most number more = refl

-- a number that is too large stays so
pub within-large : (most front digit : ℕ) (digits : List ℕ) → most < front * 10 + (digit - 48)
    → number_within most front (digit ∷ digits) ≡ None
unfolding number_within
within-large most front digit digits more =
    too_large (list_all is_digit (digit ∷ digits)) most (number_from front (digit ∷ digits))
    (omega (arith, more, number_grows (front * 10 + (digit - 48)) digits))

-- a number with one more digit, where it is small enough
abbrev pub with_one : ℕ → ℕ → ℕ → Option ℕ
with_one most front digit =
    if is_digit digit && nat_le (front * 10 + (digit - 48)) most then Some (front * 10 + (digit - 48)) else None

none_by : (own small : Bool) (most front digit : ℕ) (digits : List ℕ) → own ≡ is_digit digit
    → small ≡ nat_le (front * 10 + (digit - 48)) most
    → None ≡ (if own && small then Some (front * 10 + (digit - 48)) else None)
    → number_within most front (digit ∷ digits) ≡ None
none_by true true most front digit digits is fits none = absurd (cc)
none_by true false most front digit digits is fits none =
    let more : most < front * 10 + (digit - 48) = grind (arith, nat_tests, fits) in
    within-large most front digit digits more
none_by false small most front digit digits is fits none = within-other most front digit digits (sym is)

some_by : (own small : Bool) (most front next digit : ℕ) (digits : List ℕ) → own ≡ is_digit digit
    → small ≡ nat_le (front * 10 + (digit - 48)) most
    → Some next ≡ (if own && small then Some (front * 10 + (digit - 48)) else None)
    → number_within most front (digit ∷ digits) ≡ number_within most next digits
some_by true true most front next digit digits is fits one =
    let same : next ≡ front * 10 + (digit - 48) = cc in
    within-more most front digit digits (sym is) ∙ ap (λ n. number_within most n digits) (sym same)
some_by true false most front next digit digits is fits one = absurd (cc)
some_by false small most front next digit digits is fits one = absurd (cc)

-- a digit that isn't taken ends it
pub within-none : (most front digit : ℕ) (digits : List ℕ) → None ≡ with_one most front digit
    → number_within most front (digit ∷ digits) ≡ None
within-none most front digit digits none = none_by _ _ most front digit digits refl refl none

-- a digit that is taken leaves the others
pub within-some : (most front next digit : ℕ) (digits : List ℕ) → Some next ≡ with_one most front digit
    → number_within most front (digit ∷ digits) ≡ number_within most next digits
within-some most front next digit digits one = some_by _ _ most front next digit digits refl refl one
