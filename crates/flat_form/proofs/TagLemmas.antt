-- Bytes that a tag begins.
use Rattle.std.proofs.Common.{◌≡◌, ℕ, List, ◌∷◌, ◌<◌, ◌-◌, length, get_or, take, drop, ap, ◌∙◌}
use Rattle.std.proofs.lemmas.Slice.{first_rest}

-- the bytes are their tag and the others
pub tag_first : (bytes : List ℕ) (tag : ℕ)
    → 0 < length bytes
    → get_or bytes 0 0 ≡ tag
    → bytes ≡ tag ∷ take (length bytes - 1) (drop 1 bytes)
tag_first bytes tag some is =
    first_rest bytes 0 some ∙ ap (λ t. t ∷ take (length bytes - 1) (drop 1 bytes)) is
