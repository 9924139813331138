-- What saving and resuming answer.
use Rattle.std.specs.Prelude.{◌≡◌, ℕ, ◌<◌, ◌≤◌, ◌-◌, ◌^◌, min, List, length, Result, Ok, Err}
use Rattle.hub_core.specs.declared.hub.Hub.{Hub}
use Rattle.hub_core.specs.HubSaving.{saved_of}
use Rattle.checkpoint.specs.declared.error.SaveError.{SaveError}
use Rattle.checkpoint.specs.declared.error.SaveError.TheVariants as save
use Rattle.checkpoint.specs.declared.error.ResumeError.{ResumeError}
use Rattle.checkpoint.specs.declared.error.ResumeError.TheVariants as resume
pub use Rattle.checkpoint.specs.Forms.{most_saved, saved_bytes, IsFormOf, IsFormOfNone, IsSavedOf, StandsForAllSaved}

-- The hub has this saved form, which isn't too long.
pub record IsSaved {J : Type 0} (hub : Hub J) (bytes : List ℕ) : Type 0 where
  pub form : IsFormOf (saved_of hub) bytes
  pub short : length bytes ≤ most_saved

-- a number of 64 bits that counts, or stands still at its type's end
abbrev pub counted : ℕ → ℕ
counted number = min number (2 ^ 64 - 1)

-- The hub's saved form is too long, and has so many bytes.
pub record IsAboveMost {J : Type 0} (hub : Hub J) (size : ℕ) : Type 0 where
  pub form : IsFormOf (saved_of hub) (saved_bytes (saved_of hub))
  pub long : most_saved < length (saved_bytes (saved_of hub))
  pub is : size ≡ counted (length (saved_bytes (saved_of hub)))

-- what saving answers: the bytes of the hub as it stands now, or that they are too many
abbrev pub Saves : {J : Type 0} → Hub J → Result (List ℕ) SaveError → Type 0
Saves hub (Ok bytes) = IsSaved hub bytes
Saves hub (Err (save.TooLong size)) = IsAboveMost hub size
Saves hub (Err save.Memory) = Unit {0}

-- this holds, unless memory was wanting
abbrev pub UnlessShort : Result (List ℕ) SaveError → Type 0 → Type 0
UnlessShort (Err save.Memory) holds = Unit {0}
UnlessShort _ holds = holds

-- what resuming answers: a hub of just this saved form, or that the bytes are the form of none
abbrev pub Resumes : {J : Type 0} → List ℕ → Result (Hub J) ResumeError → Type 0
Resumes bytes (Ok hub) = IsFormOf (saved_of hub) bytes
Resumes bytes (Err resume.NotSaved) = IsFormOfNone bytes
Resumes bytes (Err resume.Memory) = Unit {0}
