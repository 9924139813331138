-- Which ids are marked.
use Rattle.std.specs.Prelude.{ℕ, Bool, true, false, List, nat_lt, slice_index_or, if◌then◌else◌}

-- an id is marked: a low one by its mark, and each of the others
abbrev pub is_marked : List Bool → ℕ → Bool
is_marked marks id = if nat_lt id 65536 then slice_index_or marks id false else true
