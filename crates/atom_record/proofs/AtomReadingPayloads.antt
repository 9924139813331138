-- The two laws of payloads, for `parse_atom`: what is read has no fault and is spelled so,
-- and what has no fault and is spelled so is read.
use Rattle.std.proofs.Common.{◌≡◌, ℕ, zero, suc, ◌+◌, ◌^◌, ◌≤◌, false, not, List, [], ◌∷◌, ◌++◌, length, Result, Ok, Err, refl, sym, ap, subst, ◌∙◌, append_assoc, arith}
use Rattle.std.specs.Prelude.{if◌then◌else◌, nat_lt, All, OnOk}
use Rattle.std.specs.Int.{w32, to_le_bytes}
use Rattle.std.specs.List.{flat_map}
use Rattle.std.specs.Option.{ok_or}
use Rattle.std.proofs.lemmas.Bool.{and_parts, and_from, ltb-true, ltb-false, lt-ltb, le-ltb, not-false, not_from_true}
use Rattle.std.proofs.lemmas.List.{length-append, append-nil, get_or-append-add}
use Rattle.std.proofs.lemmas.List.Elements.{All-nil}
use Rattle.sd_base.specs.Reads.{◌>>=◌, GivesBy}
use Rattle.sd_base.specs.Numbers.{front_number}
use Rattle.atom_record.specs.declared.atom.Atom.{Atom}
use Rattle.atom_record.specs.declared.atom.AtomField.{AtomField}
use Rattle.atom_record.specs.declared.fault.AtomFault.{AtomFault}
use Rattle.atom_record.specs.AtomReasons.{reason_too_long, reason_bad_id, most_payload}
use Rattle.atom_record.specs.Id.{end_of_ids, IsAtomId, is_atom_id}
use Rattle.atom_record.specs.AtomReading.{reason_of, entry_at, entries_in, entries_at, id_at, atom_at}
use Rattle.atom_record.specs.AtomSpelling.{entry_bytes, payload_of}
use Rattle.atom_record.specs.AtomSound.{IsEntry, AreEntries, HasNoFault}
use Rattle.sd_base.proofs.ReadsLemmas.{bind-ok, choice-passed, ok-same, ok_or-ok}
use Rattle.sd_base.proofs.NumbersLemmas.{IsBytes, Takes, wide32, front_number-takes, front_number-again}
use Rattle.atom_record.proofs.AtomReadingEntries.{entry_takes, entry_again}

-- what was read as all entries, after these
record TakesAll (before : List AtomField) (bytes : List ℕ) (all : List AtomField) : Type 0 where
  later : List AtomField
  all_is : all ≡ before ++ later
  spelled : bytes ≡ flat_map entry_bytes later
  are : AreEntries all

-- where no byte is left, the entries so far are all
nothing_more : (before all : List AtomField) → AreEntries before → before ≡ all → TakesAll before [] all
nothing_more before all are same =
    record { later = []; all_is = sym same ∙ sym (append-nil before); spelled = refl; are = rw (← same) are }

-- entries that are read are spelled so, and have no fault
entries_take : (turns : ℕ) (before : List AtomField) (bytes : List ℕ) (all : List AtomField)
    → IsBytes bytes
    → AreEntries before
    → entries_in turns before bytes ≡ Ok all
    → TakesAll before bytes all
unfolding entries_in
entries_take zero before [] all fits are read = nothing_more before all are (ok-same before all read)
entries_take zero before (byte ∷ bytes) all fits are read = absurd cc
entries_take (suc turns) before [] all fits are read = nothing_more before all are (ok-same before all read)
entries_take (suc turns) before (byte ∷ bytes) all fits are read =
    let entry = bind-ok (entry_at before (byte ∷ bytes)) (λ entry. entries_in turns (before ++ entry.0 ∷ []) entry.1)
    all read in
    let first = entry_takes before (byte ∷ bytes) entry.0 fits are entry.1 in
    let others = entries_take turns (before ++ entry.0.0 ∷ []) entry.0.1 all first.took.fits first.are entry.2 in
    record {
      later = entry.0.0 ∷ others.later;
      all_is = others.all_is ∙ append_assoc before (entry.0.0 ∷ []) others.later;
      spelled = first.took.parts ∙ ap (λ (t : List ℕ). entry_bytes entry.0.0 ++ t) others.spelled;
      are = others.are;
    }

-- what holds of each element holds of one in the midst
each_at : (before : List AtomField) (entry : AtomField) (later : List AtomField)
    → All IsEntry (before ++ entry ∷ later)
    → IsEntry entry
each_at before entry later each =
    let size = length-append before (entry ∷ later) in
    rw (get_or-append-add before (entry ∷ later) 0 entry) at (each (length before + 0) entry (omega arith))

-- entries without fault are read from their spelling
entries_again : (turns : ℕ) (before later : List AtomField)
    → length (flat_map entry_bytes later) ≤ turns
    → AreEntries (before ++ later)
    → entries_in turns before (flat_map entry_bytes later) ≡ Ok (before ++ later)
unfolding entries_in
entries_again zero before [] enough are = ap (λ (all : List AtomField). Ok all) (sym (append-nil before))
entries_again (suc turns) before [] enough are = ap (λ (all : List AtomField). Ok all) (sym (append-nil before))
entries_again zero before (entry ∷ later) enough are = absurd (omega arith)
entries_again (suc turns) before (entry ∷ later) enough are =
    let rest = flat_map entry_bytes later in
    let regrouped : (before ++ entry ∷ []) ++ later ≡ before ++ entry ∷ later =
    append_assoc before (entry ∷ []) later in
    let size = length-append (entry_bytes entry) rest in
    let others = entries_again turns (before ++ entry ∷ []) later (omega arith) (rw regrouped are) in
    rw (entry_again before entry later rest (each_at before entry later are.each) are)
    (others ∙ ap (λ (all : List AtomField). Ok all) regrouped)

-- an id that is read is spelled so, and an atom may have it
id_takes : (bytes : List ℕ) (x : ℕ × List ℕ)
    → IsBytes bytes
    → id_at bytes ≡ Ok x
    → Takes bytes (to_le_bytes w32 x.0) x.1 × IsAtomId x.0
unfolding id_at
id_takes bytes x fits read =
    let id = bind-ok (ok_or (front_number w32 bytes) reason_bad_id)
    (λ id. if not (is_atom_id id.0) then Err reason_bad_id else Ok id) x read in
    let may = choice-passed (not (is_atom_id id.0.0)) reason_bad_id (Ok id.0) x id.2 in
    let parts = and_parts (nat_lt 0 id.0.0) (nat_lt id.0.0 end_of_ids) (not-false (is_atom_id id.0.0) may.0) in
    let took = front_number-takes w32 (2 ^ 32) wide32 bytes id.0 fits
    (ok_or-ok (front_number w32 bytes) reason_bad_id id.0 id.1) in
    subst (λ (y : ℕ × List ℕ). Takes bytes (to_le_bytes w32 y.0) y.1 × IsAtomId y.0) (ok-same id.0 x may.1)
    (took.0, (ltb-true 0 id.0.0 parts.0, ltb-true id.0.0 end_of_ids parts.1))

-- an id that an atom may have is read from its spelling
id_again : (id : ℕ) (rest : List ℕ) → IsAtomId id → id_at (to_le_bytes w32 id ++ rest) ≡ Ok (id, rest)
unfolding id_at
id_again id rest is =
    let again = front_number-again w32 (2 ^ 32) wide32 id rest (omega (arith, is.1)) in
    let may : not (is_atom_id id) ≡ false = not_from_true _ (and_from _ _ (lt-ltb _ _ is.0) (lt-ltb _ _ is.1)) in
    rw (again, may) refl

-- no entries have no fault
no_entries : AreEntries []
no_entries = record {
  each = All-nil IsEntry;
  rising = λ i j d less below. absurd (omega arith);
  one_state = omega arith;
}

-- an atom that is read has no fault, and the bytes are its payload
pub atom_takes : (bytes : List ℕ) (atom : Atom)
    → IsBytes bytes
    → atom_at bytes ≡ Ok atom
    → HasNoFault atom × (bytes ≡ payload_of atom)
unfolding atom_at
atom_takes bytes atom fits read =
    let short = choice-passed (nat_lt most_payload (length bytes)) reason_too_long
    (id_at bytes >>= λ id. entries_at [] id.1 >>= λ fields. Ok (record { id = id.0; fields = fields })) atom
    read in
    let id = bind-ok (id_at bytes) (λ id. entries_at [] id.1 >>= λ fields. Ok (record { id = id.0; fields = fields }))
    atom short.1 in
    let fields = bind-ok (entries_at [] id.0.1) (λ fields. Ok (record { id = id.0.0; fields = fields })) atom id.2 in
    let front = id_takes bytes id.0 fits id.1 in
    let all = entries_take (length id.0.1) [] id.0.1 fields.0 front.0.fits no_entries fields.1 in
    let made : Atom = record { id = id.0.0; fields = fields.0 } in
    let spelled : bytes ≡ payload_of made =
    front.0.parts ∙ ap (λ (t : List ℕ). to_le_bytes w32 id.0.0 ++ t)
    (all.spelled ∙ ap (flat_map entry_bytes) (sym all.all_is)) in
    let sound : HasNoFault made =
    record {
      id = front.1;
      entries = all.are;
      fits = subst (λ (t : List ℕ). length t ≤ most_payload) spelled
          (ltb-false most_payload (length bytes) short.0);
    } in
    subst (λ (a : Atom). HasNoFault a × (bytes ≡ payload_of a)) (ok-same made atom fields.2) (sound, spelled)

-- an atom without fault is read from its payload
pub atom_again : (atom : Atom) → HasNoFault atom → atom_at (payload_of atom) ≡ Ok atom
unfolding atom_at
atom_again atom sound =
    let rest = flat_map entry_bytes atom.fields in
    let short : nat_lt most_payload (length (payload_of atom)) ≡ false = le-ltb _ _ sound.fits in
    let fields : entries_at [] rest ≡ Ok atom.fields =
    entries_again (length rest) [] atom.fields (omega arith) sound.entries in
    rw (short, id_again atom.id rest sound.id, fields) refl

-- an atom that a call leaves has no fault
pub read_is_sound : (atom : Atom) (bytes : List ℕ) (answer : Result Unit AtomFault)
    → IsBytes bytes
    → GivesBy reason_of (λ _. atom) answer (atom_at bytes)
    → OnOk answer (HasNoFault atom)
read_is_sound atom bytes (Ok done) fits given = (atom_takes bytes atom fits given).0
read_is_sound atom bytes (Err e) fits given = tt

-- and the bytes are its payload
pub read_is_spelled : (atom : Atom) (bytes : List ℕ) (answer : Result Unit AtomFault)
    → IsBytes bytes
    → GivesBy reason_of (λ _. atom) answer (atom_at bytes)
    → OnOk answer (bytes ≡ payload_of atom)
read_is_spelled atom bytes (Ok done) fits given = (atom_takes bytes atom fits given).1
read_is_spelled atom bytes (Err e) fits given = tt
