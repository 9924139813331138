-- The one spelling of an atom as a payload: its id, then its entries. Numbers stand low byte first.
use Rattle.std.specs.Prelude.{ℕ, Bool, true, false, List, [], ◌∷◌, ◌++◌, length}
use Rattle.std.specs.Int.{w16, w32, w64, to_le_bytes, cast_unsigned}
use Rattle.std.specs.List.{flat_map}
use Rattle.atom_record.specs.declared.atom.Atom.{Atom}
use Rattle.atom_record.specs.declared.atom.AtomField.{AtomField}
use Rattle.atom_record.specs.declared.value.Value.{Value}
use Rattle.atom_record.specs.declared.value.Value.TheVariants as values
use Rattle.atom_record.specs.ValueTypes.{type_int, type_long, type_bool, type_str, type_raw, type_bits32}

-- the byte that names the type of a value
abbrev pub type_of : Value → ℕ
type_of (values.Int n) = type_int
type_of (values.Long n) = type_long
type_of (values.Bool b) = type_bool
type_of (values.Str text) = type_str
type_of (values.Raw bytes) = type_raw
type_of (values.Bits32 bits) = type_bits32

-- a truth as a byte
abbrev pub truth_byte : Bool → ℕ
truth_byte false = 0
truth_byte true = 1

-- bytes after their length
abbrev pub sized_bytes : List ℕ → List ℕ
sized_bytes text = to_le_bytes w16 (length text) ++ text

-- what stands after the type
abbrev pub value_bytes : Value → List ℕ
value_bytes (values.Int n) = to_le_bytes w32 (cast_unsigned w32 n)
value_bytes (values.Long n) = to_le_bytes w64 (cast_unsigned w64 n)
value_bytes (values.Bool b) = truth_byte b ∷ []
value_bytes (values.Str text) = sized_bytes text
value_bytes (values.Raw bytes) = sized_bytes bytes
value_bytes (values.Bits32 bits) = to_le_bytes w32 bits

-- one entry
abbrev pub entry_bytes : AtomField → List ℕ
entry_bytes entry = entry.field ∷ entry.index ∷ entry.sub ∷ entry.flags ∷ type_of entry.value ∷ value_bytes entry.value

-- the payload of an atom
abbrev pub payload_of : Atom → List ℕ
payload_of atom = to_le_bytes w32 atom.id ++ flat_map entry_bytes atom.fields
