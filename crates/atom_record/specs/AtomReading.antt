-- The reading of a payload: the atom that it spells, or the reason that is met first.
-- The reasons stand in the order in which they are judged.
use Rattle.std.specs.Prelude.{ℕ, zero, suc, ◌-◌, Bool, true, false, not, ◌&&◌, ◌||◌, ◌==◌, nat_lt, nat_le, List, [], ◌∷◌, ◌++◌, length, Option, Some, None, Result, Ok, Err, slice_get, if◌then◌else◌}
use Rattle.std.specs.Int.{Width, w32, w64, cast_signed}
use Rattle.std.specs.List.{list_any}
use Rattle.std.specs.Option.{ok_or}
use Rattle.sd_base.specs.Reads.{◌>>=◌}
use Rattle.sd_base.specs.Numbers.{front_number, front_counted}
use Rattle.atom_record.specs.declared.atom.Atom.{Atom}
use Rattle.atom_record.specs.declared.atom.AtomField.{AtomField}
use Rattle.atom_record.specs.declared.value.Value.{Value}
use Rattle.atom_record.specs.declared.value.Value.TheVariants as values
use Rattle.atom_record.specs.declared.fault.AtomFault.{AtomFault}
use Rattle.atom_record.specs.declared.fault.AtomFault.TheVariants.{Bad, Memory}
use Rattle.atom_record.specs.declared.parse.Place.{Place}
use Rattle.atom_record.specs.declared.parse.Kind.{Kind}
use Rattle.atom_record.specs.declared.parse.Kind.TheVariants as kinds
use Rattle.atom_record.specs.Id.{is_atom_id}
use Rattle.atom_record.specs.Flags.{flag_exclusive, flag_reset, all_flags, has_flag, is_exclusive}
use Rattle.atom_record.specs.ValueTypes.{type_int, type_long, type_bool, type_str, type_raw, type_bits32}
use Rattle.atom_record.specs.AtomReasons.{reason_too_long, reason_bad_id, reason_cut, reason_bad_place, reason_not_above, reason_bad_type, reason_bad_flags, most_payload}
use Rattle.atom_record.specs.AtomSound.{largest_part}

-- the reason of a fault, and none for want of memory
abbrev pub reason_of : AtomFault → Option ℕ
reason_of (Bad reason) = Some reason
reason_of Memory = None

-- a field is from 1 to 127, an index and a sub at most 127
abbrev pub is_in_range : Place → Bool
is_in_range place =
    nat_le 1 place.field && nat_le place.field largest_part
    && nat_le place.index largest_part && nat_le place.sub largest_part

-- the first place is above the second: by field, then by index, then by sub
abbrev pub is_above : Place → Place → Bool
is_above place below =
    nat_lt below.field place.field
    || (below.field == place.field
    && (nat_lt below.index place.index || (below.index == place.index && nat_lt below.sub place.sub)))

-- the place of an entry
abbrev pub place_of : AtomField → Place
place_of entry = record { field = entry.field; index = entry.index; sub = entry.sub }

-- the place is above that of an entry, if there is one
abbrev pub is_above_entry : Option AtomField → Place → Bool
is_above_entry None place = true
is_above_entry (Some last) place = is_above place (place_of last)

-- the place is above that of the last of these entries, if there is one
abbrev pub is_after_last : List AtomField → Place → Bool
is_after_last before place = is_above_entry (slice_get before (length before - 1)) place

-- what may be an exclusive state: an Int outside of a repeated field and of a message
abbrev pub may_be_state : Place → Kind → Bool
may_be_state place kinds.Int = place.index == 0 && place.sub == 0
may_be_state place _ = false

-- an entry may have these flags: they are known, an exclusive entry is a state and the first of the atom,
-- and only an exclusive entry resets
abbrev pub may_have : Bool → Place → Kind → ℕ → Bool
may_have exclusive_before place kind flags =
    nat_le flags all_flags
    && (if has_flag flags flag_exclusive then not exclusive_before && may_be_state place kind
    else not (has_flag flags flag_reset))

-- a number of so many bytes, low byte first
abbrev pub number_at : Width → List ℕ → Result (ℕ × List ℕ) ℕ
number_at width bytes = ok_or (front_number width bytes) reason_cut

-- one byte, 0 or 1
abbrev pub bool_at : List ℕ → Result (Bool × List ℕ) ℕ
bool_at [] = Err reason_cut
bool_at (byte ∷ bytes) =
    if byte == 0 then Ok (false, bytes) else if byte == 1 then Ok (true, bytes) else Err reason_bad_type

-- a length in two bytes, and so many bytes
unfoldable pub text_at : List ℕ → Result (List ℕ × List ℕ) ℕ
text_at bytes = ok_or (front_counted bytes) reason_cut

-- the kind that a type byte names
abbrev pub kind_at : ℕ → Result Kind ℕ
kind_at number =
    if number == type_int then Ok kinds.Int
    else if number == type_long then Ok kinds.Long
    else if number == type_bool then Ok kinds.Bool
    else if number == type_str then Ok kinds.Str
    else if number == type_raw then Ok kinds.Raw
    else if number == type_bits32 then Ok kinds.Bits32
    else Err reason_bad_type

-- a value of this kind
unfoldable pub value_at : Kind → List ℕ → Result (Value × List ℕ) ℕ
value_at kinds.Int bytes = number_at w32 bytes >>= λ n. Ok (values.Int (cast_signed w32 n.0), n.1)
value_at kinds.Long bytes = number_at w64 bytes >>= λ n. Ok (values.Long (cast_signed w64 n.0), n.1)
value_at kinds.Bool bytes = bool_at bytes >>= λ b. Ok (values.Bool b.0, b.1)
value_at kinds.Str bytes = text_at bytes >>= λ text. Ok (values.Str text.0, text.1)
value_at kinds.Raw bytes = text_at bytes >>= λ text. Ok (values.Raw text.0, text.1)
value_at kinds.Bits32 bytes = number_at w32 bytes >>= λ n. Ok (values.Bits32 n.0, n.1)

-- an entry, after these entries
unfoldable pub entry_at : List AtomField → List ℕ → Result (AtomField × List ℕ) ℕ
entry_at before (field ∷ index ∷ sub ∷ flags ∷ number ∷ bytes) =
    let place : Place = record { field = field; index = index; sub = sub } in
    if not (is_in_range place) then Err reason_bad_place
    else if not (is_after_last before place) then Err reason_not_above
    else (kind_at number >>= λ kind.
    if not (may_have (list_any is_exclusive before) place kind flags) then Err reason_bad_flags
    else (value_at kind bytes >>= λ value.
    Ok (record { field = field; index = index; sub = sub; flags = flags; value = value.0 }, value.1)))
entry_at before _ = Err reason_cut

-- the entries of these bytes, after these entries: an entry has a byte at least, so as many turns as bytes are enough
unfoldable pub entries_in : ℕ → List AtomField → List ℕ → Result (List AtomField) ℕ
entries_in zero before [] = Ok before
entries_in zero before (byte ∷ bytes) = Err reason_cut
entries_in (suc turns) before [] = Ok before
entries_in (suc turns) before (byte ∷ bytes) =
    entry_at before (byte ∷ bytes) >>= λ entry. entries_in turns (before ++ entry.0 ∷ []) entry.1

-- all entries of these bytes, after these entries
abbrev pub entries_at : List AtomField → List ℕ → Result (List AtomField) ℕ
entries_at before bytes = entries_in (length bytes) before bytes

-- the id of an atom
unfoldable pub id_at : List ℕ → Result (ℕ × List ℕ) ℕ
id_at bytes =
    ok_or (front_number w32 bytes) reason_bad_id >>= λ id.
    if not (is_atom_id id.0) then Err reason_bad_id else Ok id

-- a whole payload
unfoldable pub atom_at : List ℕ → Result Atom ℕ
atom_at bytes =
    if nat_lt most_payload (length bytes) then Err reason_too_long
    else (id_at bytes >>= λ id. entries_at [] id.1 >>= λ fields. Ok (record { id = id.0; fields = fields }))
