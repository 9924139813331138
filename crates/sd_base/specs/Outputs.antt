-- Lists that a list gives: what each element gives, knowing those before it.
use Rattle.std.specs.Prelude.{List, [], ◌∷◌, ◌++◌}

-- what these give, with others before them
abbrev pub outputs_after : {A B : Type 0} → (List A → A → List B) → List A → List A → List B
outputs_after gives before [] = []
outputs_after gives before (x ∷ xs) = gives before x ++ outputs_after gives (before ++ x ∷ []) xs

-- what all give
abbrev pub outputs : {A B : Type 0} → (List A → A → List B) → List A → List B
outputs gives xs = outputs_after gives [] xs
