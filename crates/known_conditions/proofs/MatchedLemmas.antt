-- The truth at a place.
use Rattle.std.proofs.Common.{◌≡◌, ℕ, zero, suc, ◌<◌, ◌≤◌, Bool, false, List, [], ◌∷◌, length, get_or, refl, arith}
use Rattle.metric_meaning.specs.Histories.{truth_at}

-- the truth that stands at a place
pub truth_there : (truths : List Bool) (place : ℕ) (other : Bool) → place < length truths
    → get_or truths place other ≡ truth_at place truths
truth_there [] place other within = absurd (omega arith)
truth_there (first ∷ truths) zero other within = refl
truth_there (first ∷ truths) (suc place) other within = truth_there truths place other (omega arith)

-- no truth stands past the end
pub truth_past : (truths : List Bool) (place : ℕ) → length truths ≤ place → false ≡ truth_at place truths
truth_past [] place past = refl
truth_past (first ∷ truths) zero past = absurd (omega arith)
truth_past (first ∷ truths) (suc place) past = truth_past truths place (omega arith)
