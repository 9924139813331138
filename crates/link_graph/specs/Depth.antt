-- How far references lead down from a place.
use Rattle.std.specs.Prelude.{ℕ, zero, suc, ◌<◌, List, length}
use Rattle.link_graph.specs.Links.{Refers}

-- every list of references that begins at x has fewer references than this
abbrev pub EndsWithin : List (List ℕ) → ℕ → ℕ → Type 0
EndsWithin links zero x = ⊥
EndsWithin links (suc n) x = (y : ℕ) → Refers links x y → EndsWithin links n y

-- no list of references is as long as there are places
abbrev pub AllEnd : List (List ℕ) → Type 0
AllEnd links = (x : ℕ) → x < length links → EndsWithin links (length links) x
