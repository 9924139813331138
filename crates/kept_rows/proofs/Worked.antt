-- Worked cases of the definitions, by computing. A row is its own weight.
use Rattle.std.proofs.Common.{ℕ, [], ◌∷◌, refl}
use Rattle.kept_rows.specs.KeptRows.{IsKept}

abbrev own : ℕ → ℕ
own row = row

-- rows that fit together to the last are all kept
exactly : IsKept own (8192 ∷ 8192 ∷ []) (record { rows = 8192 ∷ 8192 ∷ []; used = 16384; others = 0 })
exactly = record { rows = refl; used = refl; others = refl }

-- after the first row that doesn't fit none is kept, even a lighter one
no_lighter : IsKept own (1 ∷ 16384 ∷ 1 ∷ 1 ∷ []) (record { rows = 1 ∷ []; used = 1; others = 3 })
no_lighter = record { rows = refl; used = refl; others = refl }

-- a first row that is too heavy leaves none
none_fits : IsKept own (16385 ∷ 1 ∷ []) (record { rows = []; used = 0; others = 2 })
none_fits = record { rows = refl; used = refl; others = refl }
