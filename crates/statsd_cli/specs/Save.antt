-- The word `save`: what was read, and what was written of what it came to.
use Rattle.std.specs.Prelude.{◌≡◌, ℕ, ◌<◌, ◌≤◌, List, [], length}
use Rattle.sd_io.specs.States.{Output, Ports}
use Rattle.sd_io.specs.Causes.{Gains, GainsFront, Rose, Takes}
use Rattle.session_frames.specs.declared.frame.Frame.{Frame}
use Rattle.matcher_eval.specs.declared.field_judge.FieldJudge.{FieldJudge}
use Rattle.matcher_eval.specs.AtomTests.{matcher_holds}
use Rattle.saved_weight.specs.Weigh.{weigh}
use Rattle.hub_core.specs.declared.hub.Hub.{Hub}
use Rattle.hub_core.specs.HubStands.{HubStandsFor}
use Rattle.checkpoint.specs.Saves.{counted, most_saved, IsSavedOf}
use Rattle.statsd_cli.specs.declared.ending.Ending.{Ending}
use Rattle.statsd_cli.specs.declared.ending.Ending.TheVariants.{Done, BadSession, ReadFault, WriteFault, NoMemory, SaveRefused}
use Rattle.statsd_cli.specs.declared.ending.SaveFault.TheVariants.{TooLong}
use Rattle.statsd_cli.specs.Form.{framed}
use Rattle.statsd_cli.specs.Run.{IsReadSo, IsReadToEnd}

-- The bytes are the saved form of a hub that stands for these frames, and no longer than the frames weigh.
pub record IsWeighed (frames : List Frame) (bytes : List ℕ) : Type 0 where
  pub saved : IsSavedOf matcher_holds FieldJudge frames bytes
  pub within : length bytes ≤ weigh matcher_holds frames

-- The frames have such a form, which isn't too long, and it was written so.
pub record IsFormTold (frames : List Frame) (tells : List ℕ → Type 0) : Type 0 where
  pub bytes : List ℕ
  pub form : IsWeighed frames bytes
  pub short : length bytes ≤ most_saved
  pub written : tells (framed bytes)

-- The frames have such a form, which has so many bytes and is too long, and nothing was written.
pub record IsFormTooLong (frames : List Frame) (size : ℕ) (old new : Output) : Type 0 where
  pub bytes : List ℕ
  pub form : IsWeighed frames bytes
  pub long : most_saved < length bytes
  pub is : size ≡ counted (length bytes)
  pub written : Gains old new []

-- what was written of these frames, by how that ended: their form, a front of it, or nothing
abbrev pub WritesForm : List Frame → Output → Output → Ending → Type 0
WritesForm frames old new Done = IsFormTold frames (Gains old new)
WritesForm frames old new WriteFault = IsFormTold frames (GainsFront old new) × Rose old.faults new.faults
WritesForm frames old new (SaveRefused (TooLong size)) = IsFormTooLong frames size old new
WritesForm frames old new NoMemory = Gains old new []
WritesForm frames old new _ = ⊥

-- that of whatever frames the hub stood for
abbrev pub WritesFormOf : Hub FieldJudge → Output → Output → Ending → Type 0
WritesFormOf hub old new ending =
    (frames : List Frame) → HubStandsFor matcher_holds hub frames → WritesForm frames old new ending

-- The session wasn't read whole, and nothing was written.
pub record IsUnsaved (taken : List ℕ) (served : List Frame) (old new : Ports) (ending : Ending) : Type 0 where
  pub read : IsReadSo 0 taken served old.input new.input ending
  pub written : Gains old.output new.output []

-- The session was read to its end, and its form was written so.
pub record IsFormWritten (taken : List ℕ) (served : List Frame) (old new : Ports) (ending : Ending) : Type 0 where
  pub read : IsReadToEnd 0 taken served new.input
  pub written : WritesForm served old.output new.output ending

-- what was read and written, by how it ended: memory may be wanting at any time, and then nothing was written
abbrev pub SavesSo : List ℕ → List Frame → Ports → Ports → Ending → Type 0
SavesSo taken served old new (BadSession at fault) = IsUnsaved taken served old new (BadSession at fault)
SavesSo taken served old new ReadFault = IsUnsaved taken served old new ReadFault
SavesSo taken served old new NoMemory = IsUnsaved taken served old new NoMemory
SavesSo taken served old new ending = IsFormWritten taken served old new ending

-- A session was served to be saved: bytes were taken from the front of the input, frames of them were served, and it
-- ended so.
pub record IsSessionSaved (old new : Ports) (ending : Ending) : Type 0 where
  pub taken : List ℕ
  pub consumes : Takes old.input new.input taken
  pub served : List Frame
  pub outcome : SavesSo taken served old new ending
