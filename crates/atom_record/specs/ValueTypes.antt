-- The byte that names the type of a value in a payload.
use Rattle.std.specs.Prelude.{ℕ}

-- a signed number of four bytes
abbrev pub type_int : ℕ
type_int = 1

-- a signed number of eight bytes
abbrev pub type_long : ℕ
type_long = 2

-- a truth
abbrev pub type_bool : ℕ
type_bool = 3

-- a text
abbrev pub type_str : ℕ
type_str = 4

-- a string of bytes
abbrev pub type_raw : ℕ
type_raw = 5

-- a float, as its four bytes
abbrev pub type_bits32 : ℕ
type_bits32 = 6
