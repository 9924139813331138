-- How a key keeps its leaves: how many they are, and those that aren't missing, each with its place.
use Rattle.std.specs.Prelude.{ℕ, zero, suc, ◌==◌, List, [], ◌∷◌, Option, Some, None, if◌then◌else◌}
use Rattle.atom_record.specs.declared.value.Leaf.{Leaf}
use Rattle.atom_record.specs.declared.value.Leaf.TheVariants.{Missing}
use Rattle.atom_record.specs.declared.key.Present.{Present}

-- so many leaves from a place on, missing where none is kept
abbrev pub spread : ℕ → ℕ → List Present → List Leaf
spread zero place kept = []
spread (suc count) place [] = Missing ∷ spread count (suc place) []
spread (suc count) place (first ∷ rest) =
    if first.place == place then first.leaf ∷ spread count (suc place) rest
    else Missing ∷ spread count (suc place) (first ∷ rest)

-- the leaves of a list that aren't missing, where the first one has this place
abbrev pub present_in : ℕ → List Leaf → List Present
present_in place [] = []
present_in place (Missing ∷ leaves) = present_in (suc place) leaves
present_in place (leaf ∷ leaves) = record { place = place; leaf = leaf } ∷ present_in (suc place) leaves

-- a leaf that isn't missing
abbrev pub not_missing : Option Leaf → Option Leaf
not_missing (Some Missing) = None
not_missing leaf = leaf

-- what is kept and comes next, before the rest
abbrev pub kept_from : Option Present → List Present → List Present
kept_from None rest = []
kept_from (Some next) rest = next ∷ rest
