-- What reads and writes do to bytes that are told, and when they may fail.
use Rattle.std.specs.Prelude.{◌≡◌, ℕ, ◌+◌, ◌-◌, ◌^◌, ◌≤◌, min, Bool, List, ◌++◌, length, Option, Result, OnErr, IfSome, MatchBool, MatchResult, is_err, if◌then◌else◌}
use Rattle.sd_io.specs.States.{Input, Output}
pub use Rattle.std.specs.Io.{ReadsAtMost}
pub use Rattle.std.specs.Io.KnownBytes.{Appends, Consumes, IsAtEnd, Keeps, ReadConsumes}

-- one more, for a count that stands still at its type's end
abbrev pub count_up : ℕ → ℕ
count_up n = min (n + 1) (2 ^ 64 - 1)

-- a count of faults after a call with this result: one more where the call failed
abbrev pub faults_after : {T E : Type 0} → Result T E → ℕ → ℕ
faults_after result faults = if is_err result then count_up faults else faults

-- a count went up by one at least, or stands at its type's end
abbrev pub Rose : ℕ → ℕ → Type 0
Rose before now = count_up before ≤ now

-- a count of faults never falls, and it rose where the call failed
pub record HasCause {T E : Type 0} (before now : ℕ) (result : Result T E) : Type 0 where
  pub later : before ≤ now
  pub failed : OnErr result (Rose before now)

-- the second list begins with the first
abbrev pub IsFrontOf : List ℕ → List ℕ → Type 0
IsFrontOf front whole = (rest : List ℕ) × (whole ≡ front ++ rest)

-- these bytes come next, where what is left is told
abbrev pub ComesNext : Option (List ℕ) → List ℕ → Type 0
ComesNext left bytes = IfSome left (IsFrontOf bytes)

-- so many bytes were taken from the front of what was left
abbrev pub TakesCount : Option (List ℕ) → Option (List ℕ) → ℕ → Type 0
TakesCount old new count = (bytes : List ℕ) × Consumes old new bytes × (length bytes ≡ count)

-- so many bytes were taken, or what is left stays as it was
abbrev pub Skips : Option (List ℕ) → Option (List ℕ) → Bool → ℕ → Type 0
Skips old new done count = MatchBool done (TakesCount old new count) (new ≡ old)

-- known bytes grew by some front of the piece
abbrev pub AppendsFront : Option (List ℕ) → Option (List ℕ) → List ℕ → Type 0
AppendsFront old new piece = (front : List ℕ) × IsFrontOf front piece × Appends old new front

-- a put appended the whole piece, or failed and appended a front of it
abbrev pub PutAppends : {E : Type 0} → Option (List ℕ) → Option (List ℕ) → Result Unit E → List ℕ → Type 0
PutAppends old new result piece = MatchResult result (λ _. Appends old new piece) (λ _. AppendsFront old new piece)

-- A read filled at most the buffer; what is left lost the bytes that were given, and nothing comes only at the end or
-- for no room; a failed read took nothing and was counted.
pub record IsRead {E : Type 0} (old new : Input) (result : Result ℕ E) (buffer : List ℕ) : Type 0 where
  pub bound : ReadsAtMost result buffer
  pub bytes : ReadConsumes old.left new.left result buffer
  pub cause : HasCause old.faults new.faults result

-- these bytes come next in an input, where it tells
abbrev pub IsHeld : Input → List ℕ → Type 0
IsHeld input bytes = ComesNext input.left bytes

-- So many bytes were taken, or what is left stays as it was; no call failed.
pub record IsSkip (old new : Input) (done : Bool) (count : ℕ) : Type 0 where
  pub bytes : Skips old.left new.left done count
  pub faultless : new.faults ≡ old.faults

-- A put wrote the whole piece; a failed put wrote a front of it and was counted.
pub record IsPut {E : Type 0} (old new : Output) (result : Result Unit E) (piece : List ℕ) : Type 0 where
  pub bytes : PutAppends old.written new.written result piece
  pub cause : HasCause old.faults new.faults result

-- these bytes were taken from the front of what was left
abbrev pub Takes : Input → Input → List ℕ → Type 0
Takes old new taken = Consumes old.left new.left taken

-- these bytes were written after what was written
abbrev pub Gains : Output → Output → List ℕ → Type 0
Gains old new bytes = Appends old.written new.written bytes

-- a front of these bytes was written after what was written
abbrev pub GainsFront : Output → Output → List ℕ → Type 0
GainsFront old new bytes = AppendsFront old.written new.written bytes
