-- Keys that arrive, for the proofs of producers: for every test that decides whether two keys are the same.
use Rattle.std.proofs.Common.{◌≡◌, ℕ, zero, suc, Bool, true, false, if◌then◌else◌, List, [], ◌∷◌, ◌++◌, map, slice_get, Some, refl, sym, ap, subst, ◌∙◌, arith, ⊎_elim}
use Rattle.std.specs.Bool.{Decides}
use Rattle.std.specs.List.{AllByRecursion}
use Rattle.std.proofs.lemmas.Bool.{cases_Bool}
use Rattle.std.proofs.lemmas.List.{append-nil, map-append}
use Rattle.bucket_meaning.specs.Guard.{is_among, of_key, arrival_key}
use Rattle.bucket_meaning.proofs.GuardLemmas.{of_key-push}

module _ {K : Type 0} (same : K → K → Bool) (exact : (x y : K) → Decides (same x y) (x ≡ y)) where
  -- a key that differs from another, the other way round
  pub other_way : (one other : K) → same one other ≡ false → same other one ≡ false
  other_way one other differ = ⊎_elim
      (λ (alike : same other one ≡ true).
      let self : same one other ≡ true = (exact one other).1 (sym ((exact other one).0 alike)) in cc)
      (λ (differs : same other one ≡ false). differs)
      (cases_Bool (same other one))

  -- a key that differs from all of these isn't among them
  pub differs_from_all : (key : K) (ks : List K) → AllByRecursion (λ other. same key other ≡ false) ks
      → is_among same key ks ≡ false
  differs_from_all key [] all = refl
  differs_from_all key (first ∷ ks) all =
      let here = other_way key first all.0 in
      let later = differs_from_all key ks all.1 in
      grind (arith, here, later)

  -- the contributions of a key, once it arrives
  pub of_own : {C : Type 0} (arrivals : List (K × C)) (key : K) (share : C)
      → of_key same key (arrivals ++ (key, share) ∷ []) ≡ of_key same key arrivals ++ share ∷ []
  of_own arrivals key share =
      of_key-push same key arrivals (key, share)
      ∙ ap (λ b. of_key same key arrivals ++ (if b then share ∷ [] else [])) ((exact key key).1 refl)

-- the contributions of a key, once another key arrives
pub of_other : {K C : Type 0} (same : K → K → Bool) (arrivals : List (K × C)) (key other : K) (share : C)
    → same key other ≡ false
    → of_key same other (arrivals ++ (key, share) ∷ []) ≡ of_key same other arrivals
of_other same arrivals key other share differ =
    of_key-push same other arrivals (key, share)
    ∙ ap (λ b. of_key same other arrivals ++ (if b then share ∷ [] else [])) differ
    ∙ append-nil (of_key same other arrivals)

-- a key that differs from all of these differs from each
pub differs_from_one : {K : Type 0} (same : K → K → Bool) (key found : K) (ks : List K) (place : ℕ)
    → AllByRecursion (λ other. same key other ≡ false) ks → slice_get ks place ≡ Some found
    → same key found ≡ false
differs_from_one same key found [] place all at = absurd (cc)
differs_from_one same key found (first ∷ ks) zero all at =
    let is : first ≡ found = cc in subst (λ k. same key k ≡ false) is all.0
differs_from_one same key found (first ∷ ks) (suc place) all at = differs_from_one same key found ks place all.1 at

-- the keys of what arrived, with one more arrival
pub keys_push : {K C : Type 0} (arrivals : List (K × C)) (key : K) (share : C)
    → map arrival_key (arrivals ++ (key, share) ∷ []) ≡ map arrival_key arrivals ++ key ∷ []
keys_push arrivals key share = map-append arrival_key arrivals ((key, share) ∷ [])
