-- How often a simple matcher stands in a list, and how many different ones there are.
use Rattle.std.proofs.Common.{◌≡◌, ℕ, ◌+◌, ◌<◌, Bool, true, false, cond, List, [], ◌∷◌, ◌++◌, refl, sym, ap, subst, arith, true≢false}
use Rattle.std.specs.Prelude.{◌||◌}
use Rattle.std.specs.List.{All, count_by, list_any}
use Rattle.std.proofs.lemmas.List.Elements.{All-nil, All-cons, All-head, All-tail}
use Rattle.std.proofs.lemmas.List.Sums.{sum_by-cons, sum_by-append}
use Rattle.config_types.specs.declared.matcher.SimpleMatcher.{SimpleMatcher}
use Rattle.config_types.specs.Equal.{simple_matcher_exact}
use Rattle.hub_core.specs.DifferentMatchers.{is_same_matcher, different}

-- how often a matcher stands in a list
abbrev pub copies : SimpleMatcher → List SimpleMatcher → ℕ
copies x ms = count_by (is_same_matcher x) ms

-- one where it is so
abbrev pub one_where : Bool → ℕ
one_where b = cond b 1 0

-- one for the same matcher, and else none
abbrev pub one_same : SimpleMatcher → SimpleMatcher → ℕ
one_same x m = cond (is_same_matcher x m) 1 0

pub copies-cons : (x m : SimpleMatcher) (ms : List SimpleMatcher) → copies x (m ∷ ms) ≡ one_same x m + copies x ms
copies-cons x m ms = sum_by-cons (one_same x) m ms

pub copies-append : (x : SimpleMatcher) (ms ns : List SimpleMatcher) → copies x (ms ++ ns) ≡ copies x ms + copies x ns
copies-append x ms ns = sum_by-append (one_same x) ms ns

pub same_is : (x m : SimpleMatcher) → is_same_matcher x m ≡ true → x ≡ m
same_is x m e = (simple_matcher_exact x m).0 e

pub is_same : (x : SimpleMatcher) → is_same_matcher x x ≡ true
is_same x = (simple_matcher_exact x x).1 refl

pub one_self : (x : SimpleMatcher) → one_same x x ≡ 1
one_self x = ap one_where (is_same x)

pub copies_self : (x : SimpleMatcher) → copies x (x ∷ []) ≡ 1
copies_self x = omega (arith, copies-cons x x [], one_self x)

-- what is tested to stand in a list is counted there, and the other way
any_counted : (x : SimpleMatcher) (ms : List SimpleMatcher) → list_any (is_same_matcher x) ms ≡ true → 0 < copies x ms
any_counted x [] e = absurd (true≢false (sym e))
any_counted x (m ∷ ms) e = by_case (is_same_matcher x m) refl e (any_counted x ms) where
  by_case : (b : Bool) → is_same_matcher x m ≡ b → (b || list_any (is_same_matcher x) ms) ≡ true
      → (list_any (is_same_matcher x) ms ≡ true → 0 < copies x ms) → 0 < copies x (m ∷ ms)
  by_case true is h rest = omega (arith, copies-cons x m ms, ap one_where is)
  by_case false is h rest = omega (arith, copies-cons x m ms, rest h)

none_counted : (x : SimpleMatcher) (ms : List SimpleMatcher) → list_any (is_same_matcher x) ms ≡ false → copies x ms ≡ 0
none_counted x [] e = refl
none_counted x (m ∷ ms) e = by_case (is_same_matcher x m) refl e (none_counted x ms) where
  by_case : (b : Bool) → is_same_matcher x m ≡ b → (b || list_any (is_same_matcher x) ms) ≡ false
      → (list_any (is_same_matcher x) ms ≡ false → copies x ms ≡ 0) → copies x (m ∷ ms) ≡ 0
  by_case true is h rest = absurd (true≢false h)
  by_case false is h rest = omega (arith, copies-cons x m ms, ap one_where is, rest h)

-- what stands nowhere in a list stands nowhere among the different ones
pub different_none : (x : SimpleMatcher) (ms : List SimpleMatcher) → copies x ms ≡ 0 → copies x (different ms) ≡ 0
different_none x [] none = refl
different_none x (m ∷ ms) none =
    by_case (list_any (is_same_matcher m) ms) (different_none x ms (omega (arith, copies-cons x m ms))) where
      by_case : (b : Bool) → copies x (different ms) ≡ 0 → copies x (cond b (different ms) (m ∷ different ms)) ≡ 0
      by_case true rest = rest
      by_case false rest = omega (arith, copies-cons x m (different ms), copies-cons x m ms, rest)

module _ (x m : SimpleMatcher) (ms : List SimpleMatcher) (once : 0 < copies x ms → copies x (different ms) ≡ 1)
    (some : 0 < copies x (m ∷ ms)) where
  again : list_any (is_same_matcher m) ms ≡ true → (b : Bool) → is_same_matcher x m ≡ b → copies x (different ms) ≡ 1
  again there true is =
      once (subst (λ (y : SimpleMatcher). 0 < copies y ms) (sym (same_is x m is)) (any_counted m ms there))
  again there false is = once (omega (arith, copies-cons x m ms, ap one_where is))

  anew : list_any (is_same_matcher m) ms ≡ false → (b : Bool) → is_same_matcher x m ≡ b
      → copies x (m ∷ different ms) ≡ 1
  anew new true is =
      let none : copies x (different ms) ≡ 0 =
      different_none x ms (subst (λ (y : SimpleMatcher). copies y ms ≡ 0) (sym (same_is x m is))
      (none_counted m ms new)) in
      omega (arith, copies-cons x m (different ms), ap one_where is)
  anew new false is =
      omega (
        arith,
        copies-cons x m (different ms),
        ap one_where is,
        once (omega (arith, copies-cons x m ms, ap one_where is)),
      )

  once_more : (b : Bool) → list_any (is_same_matcher m) ms ≡ b
      → copies x (cond b (different ms) (m ∷ different ms)) ≡ 1
  once_more true there = again there (is_same_matcher x m) refl
  once_more false new = anew new (is_same_matcher x m) refl

-- what stands in a list stands among the different ones once
pub different_once : (x : SimpleMatcher) (ms : List SimpleMatcher) → 0 < copies x ms → copies x (different ms) ≡ 1
different_once x [] some = absurd (omega arith)
different_once x (m ∷ ms) some =
    once_more x m ms (different_once x ms) some (list_any (is_same_matcher m) ms) refl

-- what holds of all holds of the different ones
pub different_all : (P : SimpleMatcher → Type 0) (ms : List SimpleMatcher) → All P ms → All P (different ms)
different_all P [] all = All-nil P
different_all P (m ∷ ms) all =
    by_case (list_any (is_same_matcher m) ms) (different_all P ms (All-tail P m ms all)) where
      by_case : (b : Bool) → All P (different ms) → All P (cond b (different ms) (m ∷ different ms))
      by_case true rest = rest
      by_case false rest = All-cons P m (different ms) (All-head P m ms all) rest
