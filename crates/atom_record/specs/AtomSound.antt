-- What it is for an atom to have no fault.
use Rattle.std.specs.Prelude.{◌≡◌, ◌⊎◌, ℕ, ◌≤◌, ◌<◌, ◌^◌, IsTrue, List, length, All, AllPairs, count_by, FitsSigned}
use Rattle.std.specs.Int.{w32, w64}
use Rattle.atom_record.specs.declared.atom.Atom.{Atom}
use Rattle.atom_record.specs.declared.atom.AtomField.{AtomField}
use Rattle.atom_record.specs.declared.value.Value.{Value}
use Rattle.atom_record.specs.declared.value.Value.TheVariants as values
use Rattle.atom_record.specs.Id.{IsAtomId}
use Rattle.atom_record.specs.AtomReasons.{most_payload}
use Rattle.atom_record.specs.Flags.{all_flags, is_exclusive, is_reset}
use Rattle.atom_record.specs.AtomSpelling.{payload_of}

-- the largest field, index and sub of an entry
abbrev pub largest_part : ℕ
largest_part = 127

-- bytes whose number fits two bytes
abbrev pub IsText : List ℕ → Type 0
IsText text = (length text < 2 ^ 16) × All (λ byte. byte < 256) text

-- the value fits its bytes
abbrev pub IsInRange : Value → Type 0
IsInRange (values.Int n) = FitsSigned w32 n
IsInRange (values.Long n) = FitsSigned w64 n
IsInRange (values.Bool b) = Unit {0}
IsInRange (values.Str text) = IsText text
IsInRange (values.Raw bytes) = IsText bytes
IsInRange (values.Bits32 bits) = bits < 2 ^ 32

-- the value is an Int
abbrev pub IsInt : Value → Type 0
IsInt (values.Int n) = Unit {0}
IsInt (values.Long n) = ⊥
IsInt (values.Bool b) = ⊥
IsInt (values.Str text) = ⊥
IsInt (values.Raw bytes) = ⊥
IsInt (values.Bits32 bits) = ⊥

-- what an exclusive entry is: an Int outside of a repeated field and of a message
pub record IsState (entry : AtomField) : Type 0 where
  pub index : entry.index ≡ 0
  pub sub : entry.sub ≡ 0
  pub int : IsInt entry.value

-- an entry that has no fault by itself
pub record IsEntry (entry : AtomField) : Type 0 where
  pub field : (1 ≤ entry.field) × (entry.field ≤ largest_part)
  pub index : entry.index ≤ largest_part
  pub sub : entry.sub ≤ largest_part
  pub flags : entry.flags ≤ all_flags
  pub state : IsTrue (is_exclusive entry) → IsState entry
  pub reset : IsTrue (is_reset entry) → IsTrue (is_exclusive entry)
  pub value : IsInRange entry.value

-- the first entry stands below the second: by field, then by index, then by sub
abbrev pub IsBelow : AtomField → AtomField → Type 0
IsBelow entry above =
    (entry.field < above.field)
    ⊎ ((entry.field ≡ above.field) × ((entry.index < above.index) ⊎
    ((entry.index ≡ above.index) × (entry.sub < above.sub))))

-- entries that have no fault: each by itself, in rising order, and one at most is exclusive
pub record AreEntries (entries : List AtomField) : Type 0 where
  pub each : All IsEntry entries
  pub rising : AllPairs IsBelow entries
  pub one_state : count_by is_exclusive entries ≤ 1

-- an atom that has no fault
pub record HasNoFault (atom : Atom) : Type 0 where
  pub id : IsAtomId atom.id
  pub entries : AreEntries atom.fields
  pub fits : length (payload_of atom) ≤ most_payload
