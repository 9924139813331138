-- Lemmas for callers: what stands at the first place of an item.
use Rattle.std.proofs.Common.{◌≡◌, ℕ, suc, ◌+◌, ◌≤◌, Bool, true, false, not, cond, List, [], ◌∷◌, map, Some, None, slice_get, refl, sym, ap, ◌∙◌, subst, arith}
use Rattle.std.specs.Option.{option_and_then}
use Rattle.std.specs.List.{find, position_or_len}
use Rattle.std.proofs.lemmas.Option.{slice_get_past}
use Rattle.std.proofs.lemmas.Bool.{ltb-false}
use Rattle.std.proofs.lemmas.List.{length-map}
use Rattle.distinct.specs.Places.{first_place}

module _ {A B : Type 0} (test : B → Bool) (f : A → B) where
  -- one step down the list
  step : (passes : Bool) (x : A) (xs : List A)
      → slice_get xs (position_or_len test (map f xs)) ≡ find (λ x. test (f x)) xs
      → slice_get (x ∷ xs) (cond (not passes) (1 + position_or_len test (map f xs)) 0)
      ≡ cond passes (Some x) (find (λ x. test (f x)) xs)
  step true x xs h = refl
  step false x xs h =
      let next : 1 + position_or_len test (map f xs) ≡ suc (position_or_len test (map f xs)) = omega arith in
      ap (slice_get (x ∷ xs)) next ∙ h

  -- what stands there is the first that passes, and past the end there is none
  -- with no answer for an end of the list
  at_first : (xs : List A) → slice_get xs (position_or_len test (map f xs)) ≡ find (λ x. test (f x)) xs
  at_first [] = refl
  at_first (x ∷ xs) = step (test (f x)) x xs (at_first xs)

  -- a place that isn't within has nothing
  chosen : (within : Bool) (xs : List A) (place : ℕ) → (within ≡ false → slice_get xs place ≡ None)
      → option_and_then (slice_get xs) (cond within (Some place) None) ≡ slice_get xs place
  chosen true xs place past = refl
  chosen false xs place past = sym (past refl)

  -- what stands at the first place that passes is what is found
  pub found_at : (xs : List A)
      → option_and_then (slice_get xs) (first_place test (map f xs)) ≡ find (λ x. test (f x)) xs
  unfolding first_place
  found_at xs =
      chosen _ xs (position_or_len test (map f xs))
      (λ past.
      slice_get_past xs _ (subst (λ n. n ≤ position_or_len test (map f xs)) (length-map xs f) (ltb-false _ _ past)))
      ∙ at_first xs
