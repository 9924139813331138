-- A frame by its bytes: what its kind byte and its body say, or the first fault that they have.
use Rattle.std.specs.Prelude.{ℕ, Bool, true, false, not, ◌&&◌, ◌==◌, nat_lt, List, [], ◌∷◌, length, Result, Ok, Err, if◌then◌else◌}
use Rattle.std.specs.Int.{Width, w16, w32, w64, cast_signed}
use Rattle.std.specs.Option.{ok_or}
use Rattle.sd_base.specs.Reads.{◌>>=◌, many}
use Rattle.sd_base.specs.Numbers.{front_number, front_counted}
use Rattle.atom_record.specs.declared.atom.Atom.{Atom}
use Rattle.atom_record.specs.declared.log.LogFrame.{LogFrame}
use Rattle.atom_record.specs.declared.log.LogFrame.TheVariants.{Tick, AtomAt, Pull}
use Rattle.atom_record.specs.declared.log.PullOutcome.{PullOutcome}
use Rattle.atom_record.specs.declared.log.PullOutcome.TheVariants.{Atoms, Failed}
use Rattle.atom_record.specs.AtomReasons.{reason_bad_id, reason_other_id, most_payload}
use Rattle.atom_record.specs.Id.{is_atom_id}
use Rattle.atom_record.specs.AtomReading.{id_at, atom_at}
use Rattle.session_frames.specs.declared.frame.Frame.{Frame}
use Rattle.session_frames.specs.declared.frame.Frame.TheVariants.{Log, Install, Remove, Report}
use Rattle.session_frames.specs.declared.frame.FrameFault.{FrameFault}
use Rattle.session_frames.specs.declared.frame.FrameFault.TheVariants.{BadLength, UnknownKind, BadBody, BadAtom, TimeBackwards}
use Rattle.session_frames.specs.BodyReasons.{body_too_short, body_left_over, body_bad_flag, body_late, body_too_many_atoms}
use Rattle.session_frames.specs.FrameKinds.{kind_tick, kind_atom, kind_pull, kind_install, kind_remove, kind_report}
use Rattle.session_frames.specs.FrameLimits.{first_late_time, most_atoms}

-- the time of a frame of the log
abbrev pub log_time : LogFrame → ℕ
log_time (Tick at) = at
log_time (AtomAt at atom) = at
log_time (Pull at id outcome) = at

-- What is read from the front of some bytes is a value and the bytes after it, or the first fault from left to right.

-- a number, low byte first
abbrev pub uint_at : Width → List ℕ → Result (ℕ × List ℕ) FrameFault
uint_at width bytes = ok_or (front_number width bytes) (BadBody body_too_short)

-- a time, below 2^63
unfoldable pub time_at : List ℕ → Result (ℕ × List ℕ) FrameFault
time_at bytes =
    uint_at w64 bytes >>= λ at.
    if not (nat_lt at.0 first_late_time) then Err (BadBody body_late) else Ok at

-- a flag, 0 or 1
abbrev pub flag_at : List ℕ → Result (Bool × List ℕ) FrameFault
flag_at [] = Err (BadBody body_too_short)
flag_at (flag ∷ bytes) = if nat_lt flag 2 then Ok (flag == 1, bytes) else Err (BadBody body_bad_flag)

-- a frame, where no byte is left over after it
abbrev pub at_end : Frame → List ℕ → Result Frame FrameFault
at_end frame [] = Ok frame
at_end frame (byte ∷ bytes) = Err (BadBody body_left_over)

-- what was read of an atom's payload, with its reason as a fault of the frame
abbrev pub of_payload : {X : Type 0} → Result X ℕ → Result X FrameFault
of_payload (Ok x) = Ok x
of_payload (Err reason) = Err (BadAtom reason)

-- time passed
unfoldable pub tick_body : List ℕ → Result Frame FrameFault
tick_body bytes = time_at bytes >>= λ at. at_end (Log (Tick at.0)) at.1

-- an atom at a time: its payload is the rest
unfoldable pub atom_body : List ℕ → Result Frame FrameFault
atom_body bytes = time_at bytes >>= λ at. of_payload (atom_at at.1) >>= λ atom. Ok (Log (AtomAt at.0 atom))

-- the id is another one
abbrev pub is_other : ℕ → Result (ℕ × List ℕ) ℕ → Bool
is_other id (Ok own) = not (own.0 == id)
is_other id (Err reason) = false

-- the payload isn't too long, and is that of an atom of another id
abbrev pub is_of_other : ℕ → List ℕ → Bool
is_of_other id bytes = not (nat_lt most_payload (length bytes)) && is_other id (id_at bytes)

-- the payload of an atom in a pull of this id: that it has another id is told before every fault of an entry
abbrev pub pulled_atom : ℕ → List ℕ → Result Atom ℕ
pulled_atom id bytes = if is_of_other id bytes then Err reason_other_id else atom_at bytes

-- a payload, after its length
unfoldable pub payload_at : List ℕ → Result (List ℕ × List ℕ) FrameFault
payload_at bytes = ok_or (front_counted bytes) (BadBody body_too_short)

-- an atom in a pull of this id
unfoldable pub pulled_at : ℕ → List ℕ → Result (Atom × List ℕ) FrameFault
pulled_at id bytes =
    payload_at bytes >>= λ payload.
    of_payload (pulled_atom id payload.0) >>= λ atom.
    Ok (atom, payload.1)

-- the id of a pull
unfoldable pub pull_id_at : List ℕ → Result (ℕ × List ℕ) FrameFault
pull_id_at bytes =
    uint_at w32 bytes >>= λ id.
    if not (is_atom_id id.0) then Err (BadAtom reason_bad_id) else Ok id

-- the atoms of a pull of this id, after their count
unfoldable pub snapshot_at : ℕ → List ℕ → Result (List Atom × List ℕ) FrameFault
snapshot_at id bytes =
    uint_at w16 bytes >>= λ count.
    if nat_lt most_atoms count.0 then Err (BadBody body_too_many_atoms)
    else many (pulled_at id) count.0 count.1

-- what a pull of this id gave: with the flag it failed
unfoldable pub outcome_at : ℕ → Bool → List ℕ → Result (PullOutcome × List ℕ) FrameFault
outcome_at id true bytes = Ok (Failed, bytes)
outcome_at id false bytes = snapshot_at id bytes >>= λ atoms. Ok (Atoms atoms.0, atoms.1)

-- a recorded pull
unfoldable pub pull_body : List ℕ → Result Frame FrameFault
pull_body bytes =
    time_at bytes >>= λ at.
    pull_id_at at.1 >>= λ id.
    flag_at id.1 >>= λ failed.
    outcome_at id.0 failed.0 failed.1 >>= λ outcome.
    at_end (Log (Pull at.0 id.0 outcome.0)) outcome.1

-- a uid and a configuration's id, and then the configuration to the end
unfoldable pub install_body : List ℕ → Result Frame FrameFault
install_body bytes =
    uint_at w32 bytes >>= λ uid.
    uint_at w64 uid.1 >>= λ id.
    Ok (Install (cast_signed w32 uid.0) (cast_signed w64 id.0) id.1)

-- a uid and a configuration's id
unfoldable pub remove_body : List ℕ → Result Frame FrameFault
remove_body bytes =
    uint_at w32 bytes >>= λ uid.
    uint_at w64 uid.1 >>= λ id.
    at_end (Remove (cast_signed w32 uid.0) (cast_signed w64 id.0)) id.1

-- a uid, a configuration's id, and whether the open bucket is cut
unfoldable pub report_body : List ℕ → Result Frame FrameFault
report_body bytes =
    uint_at w32 bytes >>= λ uid.
    uint_at w64 uid.1 >>= λ id.
    flag_at id.1 >>= λ flag.
    at_end (Report (cast_signed w32 uid.0) (cast_signed w64 id.0) flag.0) flag.1

-- the frame of a kind that has this body
abbrev pub frame_of_kind : ℕ → List ℕ → Result Frame FrameFault
frame_of_kind kind bytes =
    if kind == kind_tick then tick_body bytes
    else if kind == kind_atom then atom_body bytes
    else if kind == kind_pull then pull_body bytes
    else if kind == kind_install then install_body bytes
    else if kind == kind_remove then remove_body bytes
    else if kind == kind_report then report_body bytes
    else Err (UnknownKind kind)

-- a frame of the log doesn't come before the clock
abbrev pub in_time : ℕ → Frame → Result Frame FrameFault
in_time clock (Log frame) =
    if nat_lt (log_time frame) clock then Err (TimeBackwards clock (log_time frame)) else Ok (Log frame)
in_time clock frame = Ok frame

-- the frame that is a kind byte and its body, where the clock stands at a time
abbrev pub frame_of : ℕ → List ℕ → Result Frame FrameFault
frame_of clock [] = Err BadLength
frame_of clock (kind ∷ body) = frame_of_kind kind body >>= in_time clock
