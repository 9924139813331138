-- What holds of each element: of joined lists, of what elements give, of a front; and sums where it holds.
use Rattle.std.proofs.Common.{ℕ, ◌+◌, ◌-◌, ◌≤◌, Bool, true, false, if◌then◌else◌, List, [], ◌∷◌, ◌++◌, map, arith}
use Rattle.std.specs.Prelude.{nat_le, filter}
use Rattle.std.specs.List.{AllByRecursion, flat_map, sum_by}
use Rattle.std.proofs.lemmas.List.Sums.{sum_by-cons, sum_by-append}
use Rattle.bucket_meaning.specs.Guard.{is_among, with_key, firsts}
use Rattle.bucket_meaning.specs.Kept.{kept}

module _ {X : Type 0} (holds : X → Type 0) where
  -- of joined lists
  pub each-append : (xs ys : List X) → AllByRecursion holds xs → AllByRecursion holds ys
      → AllByRecursion holds (xs ++ ys)
  each-append [] ys one other = other
  each-append (x ∷ xs) ys one other = (one.0, each-append xs ys one.1 other)

  -- of what elements give
  pub each-flat_map : {A : Type 0} (gives : A → List X) (from : List A) → ((a : A) → AllByRecursion holds (gives a))
      → AllByRecursion holds (flat_map gives from)
  each-flat_map gives [] each = tt
  each-flat_map gives (a ∷ from) each =
      each-append (gives a) (flat_map gives from) (each a) (each-flat_map gives from each)

  -- of made elements
  pub each-map : {A : Type 0} (make : A → X) (from : List A) → ((a : A) → holds (make a))
      → AllByRecursion holds (map make from)
  each-map make [] each = tt
  each-map make (a ∷ from) each = (each a, each-map make from each)

  -- of the kept front of a list
  pub each-kept : (weight : X → ℕ) (room : ℕ) (xs : List X) → AllByRecursion holds xs
      → AllByRecursion holds (kept weight room xs)
  each-kept weight room [] all = tt
  each-kept weight room (x ∷ xs) all =
      by (nat_le (weight x) room) (each-kept weight (room - weight x) xs all.1) where
        by : (fits : Bool) → AllByRecursion holds (kept weight (room - weight x) xs)
            → AllByRecursion holds (if fits then x ∷ kept weight (room - weight x) xs else [])
        by true rest = (all.0, rest)
        by false rest = tt

  -- elements of which this holds, and that take no more than they weigh then
  pub each_within_if : (size weight : X → ℕ) (xs : List X) → AllByRecursion holds xs
      → ((x : X) → holds x → size x ≤ weight x) → sum_by size xs ≤ sum_by weight xs
  each_within_if size weight [] all each = omega arith
  each_within_if size weight (x ∷ xs) all each =
      let rest = each_within_if size weight xs all.1 each in
      let here = each x all.0 in
      let one = sum_by-cons size x xs in
      let other = sum_by-cons weight x xs in
      omega arith

module _ {K : Type 0} (same : K → K → Bool) (weight : K → ℕ) where
  -- with one key more, or without it
  key_within : (seen : List K) (key : K)
      → sum_by weight (with_key same seen key) ≤ sum_by weight seen + weight key
  key_within seen key = by (is_among same key seen) where
    by : (among : Bool)
        → sum_by weight (if among then seen else seen ++ key ∷ []) ≤ sum_by weight seen + weight key
    by true = omega arith
    by false =
        let sum = sum_by-append weight seen (key ∷ []) in let one = sum_by-cons weight key [] in omega arith

  -- each key once weighs no more than all
  pub firsts_within : (seen keys : List K)
      → sum_by weight (firsts same seen keys) ≤ sum_by weight seen + sum_by weight keys
  firsts_within seen [] = omega arith
  firsts_within seen (key ∷ keys) =
      let rest = firsts_within (with_key same seen key) keys in
      let one = key_within seen key in
      let sum = sum_by-cons weight key keys in
      omega arith

-- what elements give weighs no more than they do, where it does so for each
pub given_within : {A X : Type 0} (gives : A → List X) (size : X → ℕ) (weight : A → ℕ) (from : List A)
    → ((a : A) → sum_by size (gives a) ≤ weight a) → sum_by size (flat_map gives from) ≤ sum_by weight from
given_within gives size weight [] each = omega arith
given_within gives size weight (a ∷ from) each =
    let rest = given_within gives size weight from each in
    let here = each a in
    let sum = sum_by-append size (gives a) (flat_map gives from) in
    let whole = sum_by-cons weight a from in
    omega arith

-- a part of a list weighs no more than all
pub filter_within : {X : Type 0} (weight : X → ℕ) (passes : X → Bool) (xs : List X)
    → sum_by weight (filter passes xs) ≤ sum_by weight xs
filter_within weight passes [] = omega arith
filter_within weight passes (x ∷ xs) = by (passes x) (filter_within weight passes xs) where
  by : (pass : Bool) → sum_by weight (filter passes xs) ≤ sum_by weight xs
      → sum_by weight (if pass then x ∷ filter passes xs else filter passes xs) ≤ sum_by weight (x ∷ xs)
  by true rest =
      let one = sum_by-cons weight x (filter passes xs) in let all = sum_by-cons weight x xs in omega arith
  by false rest = let all = sum_by-cons weight x xs in omega arith
