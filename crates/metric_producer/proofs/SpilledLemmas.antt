-- The arrivals whose keys found no room are as many as were dropped: for the proofs of producers, and of what
-- reports show.
use Rattle.std.proofs.Common.{◌≡◌, ℕ, ◌+◌, ◌-◌, Bool, true, false, not, cond, if◌then◌else◌, List, [], ◌∷◌, ◌++◌, map, filter, length, count_by, refl, ap, arith}
use Rattle.std.specs.Bool.{Decides}
use Rattle.std.proofs.lemmas.List.{length-append}
use Rattle.std.proofs.lemmas.List.Sums.{sum_by-cons}
use Rattle.bucket_meaning.specs.Guard.{is_among, admitted, dropped, turned_away, arrival_key}
use Rattle.bucket_meaning.proofs.GuardLemmas.{dropped-grows}
use Rattle.metric_producer.proofs.KeysLemmas.{keys_push}

-- by the keys that were admitted
away_count : {K C : Type 0} (same : K → K → Bool) (keys : List K) (arrivals : List (K × C))
    → length (filter (λ (arrival : K × C). not (is_among same arrival.0 keys)) arrivals)
    ≡ count_by (λ key. not (is_among same key keys)) (map arrival_key arrivals)
away_count same keys [] = refl
away_count {K} {C} same keys (first ∷ arrivals) =
    let others : List (K × C) = filter (λ (arrival : K × C). not (is_among same arrival.0 keys)) arrivals in
    let rest = away_count same keys arrivals in
    let all = sum_by-cons (λ key. cond (not (is_among same key keys)) 1 0) first.0 (map arrival_key arrivals) in
    let here = by_case others (not (is_among same first.0 keys)) in
    omega (arith, rest, all, here) where
      by_case : (others : List (K × C)) (b : Bool) → length (if b then first ∷ others else others)
          ≡ cond b 1 0 + length others
      by_case others true = length-append (first ∷ []) others
      by_case others false = omega arith

module _ {K C : Type 0} (same : K → K → Bool) where
  -- each is dropped, and no other is
  pub turned_away-count : (bound : ℕ) (arrivals : List (K × C))
      → length (turned_away same bound arrivals) ≡ dropped same bound (map arrival_key arrivals)
  turned_away-count bound arrivals = away_count same (admitted same bound (map arrival_key arrivals)) arrivals

  -- with one arrival more they are as many more as are dropped with it
  pub turned_away-push : ((x y : K) → Decides (same x y) (x ≡ y)) → (bound : ℕ) (arrivals : List (K × C)) (key : K)
      (share : C)
      → length (turned_away same bound (arrivals ++ (key, share) ∷ [])) ≡ length (turned_away same bound arrivals)
      + (dropped same bound (map arrival_key (arrivals ++ (key, share) ∷ []))
      - dropped same bound (map arrival_key arrivals))
  turned_away-push exact bound arrivals key share =
      let before = turned_away-count bound arrivals in
      let after = turned_away-count bound (arrivals ++ (key, share) ∷ []) in
      let grows = dropped-grows same exact bound (map arrival_key arrivals) key in
      let keys = ap (dropped same bound) (keys_push arrivals key share) in
      omega (arith, before, after, grows, keys)
