-- How many different matchers a list has: no more than another list that holds each of them.
use Rattle.std.proofs.Common.{◌≡◌, ◌≤◌, Bool, true, false, ◌||◌, cond, List, [], ◌∷◌, length, refl, sym, ap, ◌∙◌, true≢false}
use Rattle.std.specs.List.{AllByRecursion, IsDistinct, list_any}
use Rattle.std.specs.Cmp.{IsEquivalence}
use Rattle.std.proofs.lemmas.Map.Made.{length-le_from_is_member}
use Rattle.config_types.specs.declared.matcher.SimpleMatcher.{SimpleMatcher}
use Rattle.config_types.specs.Equal.{simple_matcher_exact}
use Rattle.hub_core.specs.DifferentMatchers.{is_same_matcher, different}

-- a matcher stands in a list
abbrev pub is_in : List SimpleMatcher → SimpleMatcher → Bool
is_in matchers matcher = list_any (is_same_matcher matcher) matchers

-- what holds on the one side holds of both
pub or_right : (one other : Bool) → other ≡ true → (one || other) ≡ true
or_right true other is = refl
or_right false other is = is

-- the same is one matcher
same_is : (x y : SimpleMatcher) → is_same_matcher x y ≡ true → x ≡ y
same_is x y is = (simple_matcher_exact x y).0 is

-- what is among the different ones is in the list
in_list : (ms : List SimpleMatcher) (x : SimpleMatcher) → is_in (different ms) x ≡ true → is_in ms x ≡ true
in_list [] x is = is
in_list (m ∷ ms) x is = by (is_in ms m) is (in_list ms x) where
  by : (again : Bool) → is_in (cond again (different ms) (m ∷ different ms)) x ≡ true
      → (is_in (different ms) x ≡ true → is_in ms x ≡ true) → (is_same_matcher x m || is_in ms x) ≡ true
  by true is rest = or_right (is_same_matcher x m) (is_in ms x) (rest is)
  by false is rest = other (is_same_matcher x m) is where
    other : (same : Bool) → (same || is_in (different ms) x) ≡ true → (same || is_in ms x) ≡ true
    other true is = refl
    other false is = rest is

-- what is in the list is among the different ones
in_different : (ms : List SimpleMatcher) (x : SimpleMatcher) → is_in ms x ≡ true → is_in (different ms) x ≡ true
in_different [] x is = is
in_different (m ∷ ms) x is = by (is_in ms m) refl (is_same_matcher x m) refl is (in_different ms x) where
  by : (again : Bool) → is_in ms m ≡ again → (same : Bool) → is_same_matcher x m ≡ same → (same || is_in ms x) ≡ true
      → (is_in ms x ≡ true → is_in (different ms) x ≡ true)
      → is_in (cond again (different ms) (m ∷ different ms)) x ≡ true
  by true there true same is rest = rest (ap (is_in ms) (same_is x m same) ∙ there)
  by true there false same is rest = rest is
  by false there true same is rest = ap (λ b. b || is_in (different ms) x) same
  by false there false same is rest = or_right (is_same_matcher x m) (is_in (different ms) x) (rest is)

-- a matcher that isn't in a list is none of it
none_same : (x : SimpleMatcher) (ms : List SimpleMatcher) → is_in ms x ≡ false
    → AllByRecursion (λ y. is_same_matcher x y ≡ false) ms
none_same x [] none = tt
none_same x (m ∷ ms) none = by (is_same_matcher x m) refl none (none_same x ms) where
  by : (same : Bool) → is_same_matcher x m ≡ same → (same || is_in ms x) ≡ false
      → (is_in ms x ≡ false → AllByRecursion (λ y. is_same_matcher x y ≡ false) ms)
      → AllByRecursion (λ y. is_same_matcher x y ≡ false) (m ∷ ms)
  by true is none rest = absurd (true≢false none)
  by false is none rest = (is, rest none)

-- the different ones are apart
apart : (ms : List SimpleMatcher) → IsDistinct is_same_matcher (different ms)
unfolding IsDistinct
apart [] = tt
apart (m ∷ ms) = by (is_in ms m) refl (apart ms) where
  none : (there : Bool) → is_in (different ms) m ≡ there → is_in ms m ≡ false → is_in (different ms) m ≡ false
  none true is new = absurd (true≢false (sym (in_list ms m is) ∙ new))
  none false is new = is

  by : (again : Bool) → is_in ms m ≡ again → IsDistinct is_same_matcher (different ms)
      → IsDistinct is_same_matcher (cond again (different ms) (m ∷ different ms))
  by true there rest = rest
  by false there rest = (none_same m (different ms) (none (is_in (different ms) m) refl there), rest)

-- comparing matchers is an equivalence
same_laws : IsEquivalence is_same_matcher
same_laws = record {
  refl = λ x. (simple_matcher_exact x x).1 refl;
  symm = λ x y. turned x y (is_same_matcher x y) refl (is_same_matcher y x) refl;
  congr = λ x y z is. ap (λ (m : SimpleMatcher). is_same_matcher m z) (same_is x y is);
}
  where
    turned : (x y : SimpleMatcher) (one : Bool) → is_same_matcher x y ≡ one
        → (other : Bool) → is_same_matcher y x ≡ other
        → is_same_matcher x y ≡ is_same_matcher y x
    turned x y true one other is = one ∙ sym ((simple_matcher_exact y x).1 (sym (same_is x y one)))
    turned x y false one true is = (simple_matcher_exact x y).1 (sym (same_is y x is)) ∙ sym is
    turned x y false one false is = one ∙ sym is

-- a list whose matchers are all in another has no more different ones
pub fewer_different : (xs ys : List SimpleMatcher) → ((m : SimpleMatcher) → is_in xs m ≡ true → is_in ys m ≡ true)
    → length (different xs) ≤ length (different ys)
fewer_different xs ys each =
    length-le_from_is_member same_laws (different xs) (different ys) (apart xs)
    (λ m is. in_different ys m (each m (in_list xs m is)))
