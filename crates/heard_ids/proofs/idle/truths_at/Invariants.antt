-- The truths at the places so far.
use Rattle.std.proofs.Common.{◌≡◌, ℕ, map, take}
use Rattle.heard_ids.specs.Hearing.{truth_listed}
use Rattle.heard_ids.proofs.idle.truths_at.Given as goal

abbrev pub invariant-loop-place : goal.invariant-loop-place
invariant-loop-place l =
    l.below.items ≡ map (λ (p : ℕ). truth_listed p l.truths) (take l.place-index l.places)
