-- Where an item stands in a list.
use Rattle.std.specs.Prelude.{ℕ, Bool, List, [], ◌∷◌, ◌++◌, Option, position, if◌then◌else◌}

-- the first place, from 0 on, at which the test holds
unfoldable pub first_place : {A : Type 0} → (A → Bool) → List A → Option ℕ
first_place test xs = position test xs

-- a list, and this item at its end where it is new
abbrev pub with_item : {A : Type 0} → List A → A → Bool → List A
with_item xs x is_new = if is_new then xs ++ x ∷ [] else xs
