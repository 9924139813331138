-- The flags of an entry.
use Rattle.std.specs.Prelude.{ℕ, Bool, not, ◌==◌, bit_and}
use Rattle.atom_record.specs.declared.atom.AtomField.{AtomField}

-- the flag of an entry that holds a state
abbrev pub flag_exclusive : ℕ
flag_exclusive = 1

-- the flag of an entry that belongs to the key of a state
abbrev pub flag_primary : ℕ
flag_primary = 2

-- the flag of an entry that puts all states of its kind of atom back
abbrev pub flag_reset : ℕ
flag_reset = 4

-- all flags together
abbrev pub all_flags : ℕ
all_flags = 7

-- the flag is among these
abbrev pub has_flag : ℕ → ℕ → Bool
has_flag flags flag = not (bit_and flags flag == 0)

-- the entry holds a state
abbrev pub is_exclusive : AtomField → Bool
is_exclusive entry = has_flag entry.flags flag_exclusive

-- the entry belongs to the key of a state
abbrev pub is_primary : AtomField → Bool
is_primary entry = has_flag entry.flags flag_primary

-- the entry puts all states of its kind of atom back
abbrev pub is_reset : AtomField → Bool
is_reset entry = has_flag entry.flags flag_reset
