-- An atom as the message that a report shows.
use Rattle.std.specs.Prelude.{ℕ, ◌≤◌, min, max, Bool, false, ◌&&◌, ◌==◌, nat_lt, List, [], ◌∷◌, ◌++◌, Option, None, Some, if◌then◌else◌}
use Rattle.std.specs.List.{flat_map, take_while, AllPairs}
use Rattle.std.specs.Int.{w64, cast_unsigned}
use Rattle.atom_record.specs.declared.atom.Atom.{Atom}
use Rattle.atom_record.specs.declared.atom.AtomField.{AtomField}
use Rattle.atom_record.specs.declared.value.Value.{Value}
use Rattle.atom_record.specs.declared.value.Value.TheVariants as held
use Rattle.report_writer.specs.ReportNumbers.{greatest_field_number}
use Rattle.report_writer.specs.ReportSpelling.{truth_number, part_with}
use Rattle.report_writer.specs.declared.tree.Part.{Part}
use Rattle.report_writer.specs.declared.tree.PartBody.{PartBody}
use Rattle.report_writer.specs.declared.tree.PartBody.TheVariants.{Num, Chunk, Bits}
use Rattle.report_writer.specs.declared.tree.AtomMsg.{AtomMsg}

-- what a field holds for a value
abbrev pub part_body : Value → PartBody
part_body (held.Int value) = Num (cast_unsigned w64 value)
part_body (held.Long value) = Num (cast_unsigned w64 value)
part_body (held.Bool value) = Num (truth_number value)
part_body (held.Str text) = Chunk text
part_body (held.Raw bytes) = Chunk bytes
part_body (held.Bits32 bits) = Bits bits

-- the entry stands in a message, and in the same as one that stands in a message
abbrev pub is_beside : AtomField → AtomField → Bool
is_beside first entry = nat_lt 0 entry.sub && (entry.field == first.field) && (entry.index == first.index)

-- the entry goes on with the message in which the entry before it stands
abbrev pub goes_on : Option AtomField → AtomField → Bool
goes_on None entry = false
goes_on (Some before) entry = nat_lt 0 before.sub && is_beside before entry

-- an entry of a message, by its number there
abbrev pub sub_field : AtomField → List ℕ
sub_field entry = part_with entry.sub (part_body entry.value)

-- the fields from the front on that stand in the same message as an entry
abbrev pub fields_beside : AtomField → List AtomField → List ℕ
fields_beside entry after = flat_map sub_field (take_while (is_beside entry) after)

-- the message that begins with this entry, before these
abbrev pub subs_message : AtomField → List AtomField → List ℕ
subs_message entry after = sub_field entry ++ fields_beside entry after

-- a number as the number of a field: at least 1, and at most the greatest; the fields of an atom that has no fault have
-- numbers from 1 to 127, and keep them
abbrev pub as_field_number : ℕ → ℕ
as_field_number number = max 1 (min number greatest_field_number)

-- the field that begins with this entry, before these: the entry alone, or a message of its neighbours
abbrev pub part_at : AtomField → List AtomField → Part
part_at entry after = record {
  number = as_field_number entry.field;
  body = if nat_lt 0 entry.sub then Chunk (subs_message entry after) else part_body entry.value;
}

-- the fields of these entries, after this one
abbrev pub parts_after : Option AtomField → List AtomField → List Part
parts_after before [] = []
parts_after before (entry ∷ after) =
    if goes_on before entry then parts_after (Some entry) after
    else part_at entry after ∷ parts_after (Some entry) after

-- the message of an atom: an id above every field number is shown as the greatest; no atom that has no fault has one
-- below 1
unfoldable pub message_of : Atom → AtomMsg
message_of atom = record { id = as_field_number atom.id; parts = parts_after None atom.fields }

-- the numbers never fall
abbrev pub NeverFall : List Part → Type 0
NeverFall parts = AllPairs (λ (part later : Part). part.number ≤ later.number) parts
