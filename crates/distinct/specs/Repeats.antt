-- The first item of a list that stood earlier in it.
use Rattle.std.specs.Prelude.{◌≢◌, Bool, List, [], ◌∷◌, ◌++◌, Option, Some, None, if◌then◌else◌, AllPairs}
use Rattle.std.specs.List.{list_any}

module _ {A : Type 0} (same : A → A → Bool) where
  -- the first of these that stood earlier, where others came before all of them
  abbrev pub repeat_after : List A → List A → Option A
  repeat_after before [] = None
  repeat_after before (x ∷ xs) = if list_any (same x) before then Some x else repeat_after (before ++ x ∷ []) xs

  -- the first that stood earlier
  abbrev pub repeat_in : List A → Option A
  repeat_in xs = repeat_after [] xs

-- any two items of a list differ
abbrev pub AreApart : {A : Type 0} → List A → Type 0
AreApart xs = AllPairs (λ x later. x ≢ later) xs
