-- On specs/Bodies.antt, for the readers of recorded pulls: their atoms have the pull's id.
use Rattle.std.proofs.Common.{◌≡◌, ℕ, Bool, true, false, not, ◌&&◌, ◌==◌, nat_lt, List, [], length, Result, Ok, Err, IfOk, sym, ap, ◌∙◌, arith}
use Rattle.std.proofs.lemmas.Bool.Decides.{nat_tests}
use Rattle.sd_base.specs.Reads.{GivesBy}
use Rattle.sd_base.proofs.ReadsLemmas.{bind-ok, choice-passed}
use Rattle.atom_record.specs.declared.atom.Atom.{Atom}
use Rattle.atom_record.specs.AtomReasons.{most_payload}
use Rattle.atom_record.specs.AtomReading.{id_at, entries_at, atom_at}
use Rattle.atom_record.specs.AtomSound.{HasNoFault}
use Rattle.session_frames.specs.declared.body.BodyError.{BodyError}
use Rattle.session_frames.specs.Faultless.{IsPulledAtom}
use Rattle.session_frames.specs.FrameReading.{of_payload, is_other, is_of_other}
use Rattle.session_frames.specs.Bodies.{fault_in}

same_id : (id own : ℕ) → not (own == id) ≡ false → own ≡ id
same_id id own e = grind (arith, nat_tests)

-- a payload that isn't too long and isn't of another atom begins with this id
is_own : (id : ℕ) (long : Bool) (read : Result (ℕ × List ℕ) ℕ) (own : ℕ × List ℕ)
    → long ≡ false
    → read ≡ Ok own
    → (not long && is_other id read) ≡ false
    → own.0 ≡ id
is_own id true read own short e other = absurd (cc)
is_own id false (Err reason) own short e other = absurd (cc)
is_own id false (Ok found) own short e other =
    let same : found ≡ own = cc in ap (λ (p : ℕ × List ℕ). p.0) (sym same) ∙ same_id id found.0 other

-- the atom of such a payload has this id
has_id : (id : ℕ) (bytes : List ℕ) (atom : Atom) → is_of_other id bytes ≡ false → atom_at bytes ≡ Ok atom → atom.id ≡ id
unfolding atom_at
has_id id bytes atom other read =
    let short = choice-passed (nat_lt most_payload (length bytes)) _ _ atom read in
    let own = bind-ok (id_at bytes) _ atom short.1 in
    let fields = bind-ok (entries_at [] own.0.1) _ atom own.2 in
    let made : (let a : Atom = record { id = own.0.0; fields = fields.0 } in a) ≡ atom = cc (fields.2) in
    ap (λ (a : Atom). a.id) (sym made) ∙ is_own id (nat_lt most_payload (length bytes)) (id_at bytes) own.0 short.0
    own.1 other

payload_good : (read : Result Atom ℕ) (atom : Atom) → of_payload read ≡ Ok atom → read ≡ Ok atom
payload_good (Ok found) atom e = cc
payload_good (Err reason) atom e = absurd (cc)

-- what is read of it is an atom that the pull may hold
pub pulled_sound : (id : ℕ) (bytes : List ℕ) (answer : Result Atom BodyError)
    → is_of_other id bytes ≡ false
    → GivesBy fault_in (λ atom. atom) answer (of_payload (atom_at bytes))
    → IfOk answer HasNoFault
    → IfOk answer (IsPulledAtom id)
pulled_sound id bytes (Ok atom) other gives sound =
    (has_id id bytes atom other (payload_good (atom_at bytes) atom gives), sound)
pulled_sound id bytes (Err e) other gives sound = tt
