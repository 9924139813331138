-- Which places something came to already: for private clauses.
use Rattle.std.specs.Prelude.{◌≡◌, ℕ, Bool, true, List, get_or}
use Rattle.known_conditions.specs.Lists.{is_in}

-- a place is marked; one past the end counts as marked
abbrev pub IsMarked : List Bool → ℕ → Type 0
IsMarked marks place = get_or marks place true ≡ true

-- marks stay
abbrev pub KeepsMarks : List Bool → List Bool → Type 0
KeepsMarks old new = (place : ℕ) → IsMarked old place → IsMarked new place

-- all these places are marked
abbrev pub AreAllMarked : List ℕ → List Bool → Type 0
AreAllMarked places marks = (place : ℕ) → is_in place places ≡ true → IsMarked marks place
