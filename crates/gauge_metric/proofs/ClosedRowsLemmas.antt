-- The rows of closed parts, for every kind of metric.
use Rattle.std.proofs.Common.{◌≡◌, ℕ, List, [], ◌∷◌, ◌++◌, ap, ◌∙◌, append-nil}
use Rattle.std.specs.List.{flat_map}
use Rattle.std.proofs.lemmas.Grind.{flat_map-append}
use Rattle.bucket_meaning.specs.Marks.{Part}
use Rattle.bucket_meaning.specs.Rows.{Kind, rows_of}

-- the rows of all closed parts, with one part more
pub closed_rows-push : {X K C R : Type 0} (kind : Kind X K C R) (bound : ℕ) (closed : List (Part X)) (part : Part X)
    → flat_map (rows_of kind bound) (closed ++ part ∷ [])
    ≡ flat_map (rows_of kind bound) closed ++ rows_of kind bound part
closed_rows-push kind bound closed part =
    flat_map-append (rows_of kind bound) closed (part ∷ [])
    ∙ ap (λ rows. flat_map (rows_of kind bound) closed ++ rows) (append-nil (rows_of kind bound part))
