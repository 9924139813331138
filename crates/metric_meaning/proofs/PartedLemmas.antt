-- Arrivals by the keys of some of them: lemmas on sums, for the balance of books.
use Rattle.std.proofs.Common.{◌≡◌, ℕ, ◌+◌, Bool, true, false, not, cond, List, [], ◌∷◌, filter, refl, sym, ap, subst, ◌∙◌, arith, zero-add, if◌then◌else◌, ⊎_elim}
use Rattle.std.specs.Bool.{Decides}
use Rattle.std.specs.List.{flat_map, sum_by, AllByRecursion, IsDistinct}
use Rattle.std.proofs.lemmas.Bool.{cases_Bool}
use Rattle.std.proofs.lemmas.List.Sums.{sum_by-cons, sum_by-append}
use Rattle.bucket_meaning.specs.Guard.{is_among, of_key}

-- sums of the same terms are the same
pub sum_by-same : {X : Type 0} (f g : X → ℕ) → ((x : X) → f x ≡ g x) → (xs : List X) → sum_by f xs ≡ sum_by g xs
sum_by-same f g same [] = refl
sum_by-same f g same (x ∷ xs) =
    sum_by-cons f x xs ∙ ap (λ n. n + sum_by f xs) (same x) ∙ ap (λ n. g x + n) (sum_by-same f g same xs)
    ∙ sym (sum_by-cons g x xs)

-- a sum of sums, term by term
pub sum_by-both : {X : Type 0} (f g : X → ℕ) (xs : List X)
    → sum_by (λ x. f x + g x) xs ≡ sum_by f xs + sum_by g xs
sum_by-both f g [] = refl
sum_by-both f g (x ∷ xs) =
    omega (arith, sum_by-cons (λ x. f x + g x) x xs, sum_by-cons f x xs, sum_by-cons g x xs, sum_by-both f g xs)

-- a sum over lists that a list gives
pub sum_by-flat_map : {X Y : Type 0} (f : Y → ℕ) (gives : X → List Y) (xs : List X)
    → sum_by f (flat_map gives xs) ≡ sum_by (λ x. sum_by f (gives x)) xs
sum_by-flat_map f gives [] = refl
sum_by-flat_map f gives (x ∷ xs) =
    sum_by-append f (gives x) (flat_map gives xs) ∙ ap (λ n. sum_by f (gives x) + n) (sum_by-flat_map f gives xs)
    ∙ sym (sum_by-cons (λ x. sum_by f (gives x)) x xs)

-- terms of which each is 0
pub sum_by-zero : {X : Type 0} (xs : List X) → sum_by (λ (x : X). 0) xs ≡ 0
sum_by-zero [] = refl
sum_by-zero (x ∷ xs) = omega (arith, sum_by-cons (λ y. 0) x xs, sum_by-zero xs)

module _ {K C : Type 0} (same : K → K → Bool) (exact : (one other : K) → Decides (same one other) (one ≡ other))
    (amount : C → ℕ) where
  -- what some arrivals come to
  abbrev amounts : List (K × C) → ℕ
  amounts arrivals = sum_by (λ (arrival : K × C). amount arrival.1) arrivals

  -- what one arrival comes to at a key
  abbrev at_key : K → ℕ → K → ℕ
  at_key key n = λ other. cond (same key other) n 0

  -- a key that is none of these brings nothing to any of them
  nowhere : (key : K) (n : ℕ) (keys : List K) → AllByRecursion (λ other. same key other ≡ false) keys
      → sum_by (at_key key n) keys ≡ 0
  nowhere key n [] none = refl
  nowhere key n (first ∷ keys) none =
      sum_by-cons (at_key key n) first keys ∙ ap (λ b. cond b n 0 + sum_by (at_key key n) keys) none.0
      ∙ zero-add (sum_by (at_key key n) keys) ∙ nowhere key n keys none.1

  -- of distinct keys one has it, or none
  once : (key : K) (n : ℕ) (keys : List K) → IsDistinct same keys
      → sum_by (at_key key n) keys ≡ cond (is_among same key keys) n 0
  unfolding IsDistinct
  once key n [] distinct = refl
  once key n (first ∷ keys) distinct = ⊎_elim
      (λ (here : same first key ≡ true).
      let is : first ≡ key = (exact first key).0 here in
      let there : same key first ≡ true = (exact key first).1 (sym is) in
      let none = subst (λ k. AllByRecursion (λ other. same k other ≡ false) keys) is distinct.0 in
      sum_by-cons (at_key key n) first keys ∙ ap (λ b. cond b n 0 + sum_by (at_key key n) keys) there
      ∙ ap (λ m. n + m) (nowhere key n keys none) ∙ grind (arith, here))
      (λ (other : same first key ≡ false).
      let away : same key first ≡ false = ⊎_elim
      (λ (t : same key first ≡ true). absurd
      (grind (arith, other, (exact first key).1 (sym ((exact key first).0 t)))))
      (λ (f : same key first ≡ false). f) (cases_Bool (same key first)) in
      sum_by-cons (at_key key n) first keys ∙ ap (λ b. cond b n 0 + sum_by (at_key key n) keys) away
      ∙ zero-add (sum_by (at_key key n) keys) ∙ once key n keys distinct.1 ∙ grind (arith, other))
      (cases_Bool (same first key))

  -- what one arrival more brings to a key
  one_more : (key : K) (first : K × C) (arrivals : List (K × C))
      → sum_by amount (of_key same key (first ∷ arrivals))
      ≡ at_key first.0 (amount first.1) key + sum_by amount (of_key same key arrivals)
  one_more key first arrivals = by_case (same first.0 key) where
    by_case : (b : Bool) → sum_by amount (if b then first.1 ∷ of_key same key arrivals else of_key same key arrivals)
        ≡ cond b (amount first.1) 0 + sum_by amount (of_key same key arrivals)
    by_case true = sum_by-cons amount first.1 (of_key same key arrivals)
    by_case false = sym (zero-add (sum_by amount (of_key same key arrivals)))

  -- All arrivals are those of the keys, if these are distinct, and those of no such key.
  pub parted : (keys : List K) → IsDistinct same keys → (arrivals : List (K × C))
      → sum_by (λ key. sum_by amount (of_key same key arrivals)) keys
      + amounts (filter (λ (arrival : K × C). not (is_among same arrival.0 keys)) arrivals) ≡ amounts arrivals
  parted keys distinct [] = ap (λ n. n + 0) (sum_by-zero keys)
  parted keys distinct (first ∷ arrivals) =
      let others : List (K × C) = filter (λ (arrival : K × C). not (is_among same arrival.0 keys)) arrivals in
      let each = sum_by-same (λ key. sum_by amount (of_key same key (first ∷ arrivals)))
      (λ key. at_key first.0 (amount first.1) key + sum_by amount (of_key same key arrivals))
      (λ key. one_more key first arrivals) keys in
      let both = sum_by-both (at_key first.0 (amount first.1)) (λ key. sum_by amount (of_key same key arrivals)) keys in
      let here = once first.0 (amount first.1) keys distinct in
      let rest = parted keys distinct arrivals in
      let all = sum_by-cons (λ (arrival : K × C). amount arrival.1) first arrivals in
      let chosen = by_case first others (is_among same first.0 keys) in
      omega (arith, each, both, here, rest, all, chosen) where
        by_case : (first : K × C) (others : List (K × C)) (b : Bool)
            → amounts (if not b then first ∷ others else others) + cond b (amount first.1) 0
            ≡ amount first.1 + amounts others
        by_case first others true = grind arith
        by_case first others false = grind (arith, sum_by-cons (λ (arrival : K × C). amount arrival.1) first others)
