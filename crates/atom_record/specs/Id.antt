-- Ids of atoms.
use Rattle.std.specs.Prelude.{ℕ, Bool, ◌<◌, ◌^◌, ◌&&◌, nat_lt}

-- each id of an atom is below this
abbrev pub end_of_ids : ℕ
end_of_ids = 2 ^ 31

-- an atom may have this id
abbrev pub IsAtomId : ℕ → Type 0
IsAtomId id = (0 < id) × (id < end_of_ids)

-- the test whether an atom may have this id
abbrev pub is_atom_id : ℕ → Bool
is_atom_id id = nat_lt 0 id && nat_lt id end_of_ids
