-- A saved form on an input: the length of its bytes, in eight bytes, and then these.
use Rattle.std.specs.Prelude.{◌≡◌, ℕ, ◌+◌, ◌<◌, ◌≤◌, ◌⊎◌, List, ◌++◌, length, take}
use Rattle.std.specs.Int.{w64, from_le_bytes, to_le_bytes}
use Rattle.sd_io.specs.States.{Input}
use Rattle.sd_io.specs.Causes.{IsAtEnd, Rose, Takes}
use Rattle.checkpoint.specs.Forms.{most_saved}
use Rattle.statsd_cli.specs.declared.saved_form.FormError.{FormError}
use Rattle.statsd_cli.specs.declared.saved_form.FormError.TheVariants.{Cut, TooLong, Read, Memory}

-- a saved form as it is written: its length, and then its bytes
abbrev pub framed : List ℕ → List ℕ
framed bytes = to_le_bytes w64 (length bytes) ++ bytes

-- the length that stands at the front
abbrev pub form_size : List ℕ → ℕ
form_size taken = from_le_bytes w64 (take 8 taken)

-- A saved form was taken, whole, which isn't too long.
pub record TakesForm (old new : Input) (bytes : List ℕ) : Type 0 where
  pub consumes : Takes old new (framed bytes)
  pub short : length bytes ≤ most_saved
  pub later : old.faults ≤ new.faults

-- A length that may be, and fewer bytes after it than it counts.
pub record IsFormBegun (taken : List ℕ) : Type 0 where
  pub told : 8 ≤ length taken
  pub short : form_size taken ≤ most_saved
  pub fewer : length taken < 8 + form_size taken

-- not even the length is whole, or the bytes after it aren't
abbrev pub IsFormUnfinished : List ℕ → Type 0
IsFormUnfinished taken = (length taken < 8) ⊎ IsFormBegun taken

-- A length and nothing after it: it counts so many bytes, which are too many.
pub record IsLengthTooLarge (size : ℕ) (taken : List ℕ) : Type 0 where
  pub told : length taken ≡ 8
  pub is : size ≡ form_size taken
  pub large : most_saved < size

-- why no form was taken, where these bytes were
abbrev pub IsFormCause : Input → Input → List ℕ → FormError → Type 0
IsFormCause old new taken Cut = IsFormUnfinished taken × IsAtEnd new.left
IsFormCause old new taken (TooLong size) = IsLengthTooLarge size taken
IsFormCause old new taken Read = IsFormUnfinished taken × Rose old.faults new.faults
IsFormCause old new taken Memory = Unit {0}

-- No form was taken for this reason. No byte was taken that its judgement didn't ask for.
pub record LacksForm (old new : Input) (e : FormError) : Type 0 where
  pub taken : List ℕ
  pub consumes : Takes old new taken
  pub cause : IsFormCause old new taken e

-- As many bytes were taken as were wanted.
pub record TakesWhole (old new : Input) (count : ℕ) (taken : List ℕ) : Type 0 where
  pub consumes : Takes old new taken
  pub whole : length taken ≡ count
  pub later : old.faults ≤ new.faults

-- why not so many were taken
abbrev pub IsLackCause : Input → Input → ℕ → List ℕ → FormError → Type 0
IsLackCause old new count taken Cut = (length taken < count) × IsAtEnd new.left
IsLackCause old new count taken (TooLong size) = ⊥
IsLackCause old new count taken Read = (length taken < count) × Rose old.faults new.faults
IsLackCause old new count taken Memory = Unit {0}

-- So many bytes weren't taken, for this reason.
pub record LacksBytes (old new : Input) (count : ℕ) (e : FormError) : Type 0 where
  pub taken : List ℕ
  pub consumes : Takes old new taken
  pub cause : IsLackCause old new count taken e
