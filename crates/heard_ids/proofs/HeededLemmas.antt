-- The truth that is listed for a place.
use Rattle.std.proofs.Common.{◌≡◌, ℕ, zero, suc, ◌<◌, ◌≤◌, Bool, false, List, [], ◌∷◌, length, get_or, refl, sym, ◌∙◌, arith}
use Rattle.std.proofs.lemmas.List.{get_or_default, get_or_past}
use Rattle.heard_ids.specs.Hearing.{truth_listed}

-- the truth that is listed for a place is what stands there
pub listed_there : (place : ℕ) (truths : List Bool) → truth_listed place truths ≡ get_or truths place false
listed_there place [] = sym (get_or_past [] place false (omega arith))
listed_there zero (truth ∷ truths) = refl
listed_there (suc place) (truth ∷ truths) = listed_there place truths

pub listed_within : (truths : List Bool) (place : ℕ) (other : Bool) → place < length truths
    → get_or truths place other ≡ truth_listed place truths
listed_within truths place other within =
    get_or_default truths place other false within ∙ sym (listed_there place truths)

pub listed_past : (truths : List Bool) (place : ℕ) → length truths ≤ place → false ≡ truth_listed place truths
listed_past truths place past = sym (listed_there place truths ∙ get_or_past truths place false past)
