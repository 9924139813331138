-- What a hasher of keys makes of what it is fed. It decides how long a look-up takes, and not what it finds.
use Rattle.std.specs.Prelude.{ℕ, ◌*◌, ◌%◌, ◌^◌, ◌/◌, List, length, fold, bit_xor, nat_eq, if◌then◌else◌}
use Rattle.std.specs.Int.{from_le_bytes, w32, w64}

-- the two halves of a number of 128 bits, joined
abbrev pub folded : ℕ → ℕ
folded product = bit_xor (product % 2 ^ 64) (product / 2 ^ 64)

-- the hash after one word more
abbrev pub with_word : ℕ → ℕ → ℕ
with_word hash word = folded (bit_xor hash word * 0x9e3779b97f4a7c15)

-- the hash after these bytes more: four or eight are one word, as numbers are, and of others each is one
abbrev pub with_bytes : ℕ → List ℕ → ℕ
with_bytes hash bytes =
    if nat_eq (length bytes) 4 then with_word hash (from_le_bytes w32 bytes)
    else (if nat_eq (length bytes) 8 then with_word hash (from_le_bytes w64 bytes)
    else fold with_word hash bytes)
