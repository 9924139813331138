-- The ends that a step crosses are neighbours, so one call tells them all. Lemmas on `specs/StepMarks.antt`.
use Rattle.std.proofs.Common.{◌≡◌, ℕ, zero, suc, ◌+◌, ◌-◌, ◌/◌, ◌≤◌, ◌==◌, Bool, true, false, not, ◌&&◌, if◌then◌else◌, cond, List, [], ◌∷◌, filter, refl, ap, ◌∙◌, arith}
use Rattle.std.specs.List.{list_any}
use Rattle.bucket_meaning.specs.Ends.{Moment, crosses, ends_from, ends_at}
use Rattle.bucket_meaning.proofs.EndsLemmas.{crosses-later, any_crosses-later}

-- Ends that lie one bucket apart.
pub record AreNeighbours (size : ℕ) (ends : List ℕ) : Type 0 where
  pub first : ℕ
  pub count : ℕ
  pub are : ends ≡ ends_from first size count

-- `reaches` and `passed` hold up to some end, and for none after it
module _ (size : ℕ) (reaches passed : ℕ → Bool)
    (reaches-later : (end later : ℕ) → end ≤ later → reaches end ≡ false → reaches later ≡ false)
    (passed-later : (end later : ℕ) → end ≤ later → passed end ≡ false → passed later ≡ false) where
  -- an end that is reached now and wasn't passed before
  is_new : ℕ → Bool
  is_new end = reaches end && not (passed end)

  -- the new ones of these ends
  new_ends : ℕ → ℕ → List ℕ
  new_ends first n = filter is_new (ends_from first size n)

  -- Of these ends a front is new.
  record AreFront (first n : ℕ) : Type 0 where
    count : ℕ
    are : new_ends first n ≡ ends_from first size count

  -- the first of these ends is new, or not
  first_case : (first n : ℕ) (truth : Bool) → is_new first ≡ truth
      → new_ends first (suc n) ≡ cond truth (first ∷ new_ends (first + size) n) (new_ends (first + size) n)
  unfolding is_new new_ends
  first_case first n truth e =
      ap (λ b. cond b (first ∷ filter is_new (ends_from (first + size) size n))
      (filter is_new (ends_from (first + size) size n))) e

  -- after one that isn't reached, none is new
  none_later : (first n : ℕ) → reaches first ≡ false → new_ends first n ≡ []
  unfolding is_new new_ends
  none_later first zero e = refl
  none_later first (suc n) e =
      first_case first n false (grind (arith, e))
      ∙ none_later (first + size) n (reaches-later first (first + size) (omega arith) e)

  front_case : (first n : ℕ) (reached : Bool) → passed first ≡ false → reaches first ≡ reached
      → AreFront (first + size) n → AreFront first (suc n)
  unfolding is_new new_ends
  front_case first n true e r rest = record {
    count = suc rest.count;
    are = first_case first n true (grind (arith, e, r)) ∙ ap (λ l. first ∷ l) rest.are;
  }
  front_case first n false e r rest = record { count = 0; are = none_later first (suc n) r }

  -- from one that wasn't passed on, a front is new
  front : (first n : ℕ) → passed first ≡ false → AreFront first n
  unfolding is_new new_ends
  front first zero e = record { count = 0; are = refl }
  front first (suc n) e =
      front_case first n (reaches first) e refl
      (front (first + size) n (passed-later first (first + size) (omega arith) e))

  next_case : (first n : ℕ) (was : Bool) → passed first ≡ was → AreNeighbours size (new_ends (first + size) n)
      → AreNeighbours size (new_ends first (suc n))
  unfolding is_new new_ends
  next_case first n true e rest = record {
    first = rest.first;
    count = rest.count;
    are = first_case first n false (grind (arith, e)) ∙ rest.are;
  }
  next_case first n false e rest =
      let here = front first (suc n) e in record { first = first; count = here.count; are = here.are }

  -- the new ends are neighbours
  neighbours : (first n : ℕ) → AreNeighbours size (new_ends first n)
  unfolding is_new new_ends
  neighbours first zero = record { first = first; count = 0; are = refl }
  neighbours first (suc n) = next_case first n (passed first) refl (neighbours (first + size) n)

  -- and so they are where there may be no buckets
  pub if_sized : (no_size : Bool) (first n : ℕ)
      → AreNeighbours size
      (filter (λ end. reaches end && not (passed end)) (if no_size then [] else ends_from first size n))
  unfolding is_new new_ends
  if_sized true first n = record { first = first; count = 0; are = refl }
  if_sized false first n = neighbours first n

-- the ends that a frame crosses after these are neighbours
pub ends_at-neighbours : (base size : ℕ) (before : List Moment) (now : Moment)
    → AreNeighbours size (ends_at base size before now)
ends_at-neighbours base size before now =
    if_sized size (crosses now) (λ end. list_any (λ earlier. crosses earlier end) before) (crosses-later now)
    (any_crosses-later before) (size == 0) (base + size) ((now.at - base) / size)
