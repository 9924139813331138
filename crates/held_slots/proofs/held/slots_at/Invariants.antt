use Rattle.std.proofs.Common.{◌≡◌, ℕ, get_or, map, take}
use Rattle.held_slots.proofs.held.slots_at.Given as goal

abbrev pub invariant-loop-place : goal.invariant-loop-place
invariant-loop-place l =
    l.slots.items ≡ map (λ (p : ℕ). record { number = get_or l.numbers p 0 }) (take l.place-index l.places)
