-- A value with the byte that names its kind in front, as in a payload: how it is spelled and how it is read.
use Rattle.std.specs.Prelude.{ℕ, ◌<◌, ◌^◌, List, [], ◌∷◌, length, Result, Err}
use Rattle.sd_base.specs.Reads.{◌>>=◌}
use Rattle.atom_record.specs.declared.value.Value.{Value}
use Rattle.atom_record.specs.declared.value.Value.TheVariants as values
use Rattle.atom_record.specs.AtomReasons.{reason_cut}
use Rattle.atom_record.specs.AtomSpelling.{type_of, value_bytes}
use Rattle.atom_record.specs.AtomReading.{kind_at, value_at}

-- the byte of a value's kind, and the value
abbrev pub typed_bytes : Value → List ℕ
typed_bytes value = type_of value ∷ value_bytes value

-- the value that bytes begin with, and the bytes after it
unfoldable pub typed_at : List ℕ → Result (Value × List ℕ) ℕ
typed_at [] = Err reason_cut
typed_at (number ∷ bytes) = kind_at number >>= λ kind. value_at kind bytes

-- the number of a text's bytes fits two bytes
abbrev pub HasShortText : Value → Type 0
HasShortText (values.Int n) = Unit {0}
HasShortText (values.Long n) = Unit {0}
HasShortText (values.Bool b) = Unit {0}
HasShortText (values.Str text) = length text < 2 ^ 16
HasShortText (values.Raw bytes) = length bytes < 2 ^ 16
HasShortText (values.Bits32 bits) = Unit {0}
