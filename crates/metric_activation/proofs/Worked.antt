-- Worked cases of the definitions, by computing.
use Rattle.std.proofs.Common.{◌≡◌, ℕ, Bool, true, false, [], ◌∷◌, refl}
use Rattle.metric_activation.specs.Activations.{Heard, is_active_told}

-- an atom that starts, cancels, both or neither of the one activation
abbrev atom : ℕ → Bool → Bool → Heard
atom at starts cancels = record { at = at; started = starts ∷ []; cancelled = cancels ∷ [] }

-- without activations a metric is always active, and with one that nothing started never
always : is_active_told [] [] 5 ≡ true
always = refl

not_yet : is_active_told (10 ∷ []) [] 5 ≡ false
not_yet = refl

-- from the start on, and not at the end
started : is_active_told (10 ∷ []) (atom 3 true false ∷ []) 3 ≡ true
started = refl

last_moment : is_active_told (10 ∷ []) (atom 3 true false ∷ []) 12 ≡ true
last_moment = refl

at_the_end : is_active_told (10 ∷ []) (atom 3 true false ∷ []) 13 ≡ false
at_the_end = refl

-- a second start begins anew, a cancel ends it, and one atom that does both cancels
again : is_active_told (10 ∷ []) (atom 3 true false ∷ atom 8 true false ∷ []) 17 ≡ true
again = refl

cancelled : is_active_told (10 ∷ []) (atom 3 true false ∷ atom 4 false true ∷ []) 4 ≡ false
cancelled = refl

both : is_active_told (10 ∷ []) (atom 3 true true ∷ []) 3 ≡ false
both = refl

-- what says nothing changes nothing
silent : is_active_told (10 ∷ []) (atom 3 true false ∷ atom 4 false false ∷ []) 4 ≡ true
silent = refl

-- one of two is enough
one_of_two : is_active_told (10 ∷ 20 ∷ [])
    (record { at = 3; started = true ∷ true ∷ []; cancelled = false ∷ false ∷ [] }
    ∷ record { at = 4; started = false ∷ false ∷ []; cancelled = true ∷ false ∷ [] } ∷ []) 22 ≡ true
one_of_two = refl
