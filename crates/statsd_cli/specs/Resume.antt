-- A session that goes on from its saved form: how the command ended, what it took, and what it wrote.
use Rattle.std.specs.Prelude.{◌≡◌, ℕ, ◌≤◌, ◌⊎◌, List, ◌++◌, length}
use Rattle.sd_io.specs.States.{Input, Ports, ports}
use Rattle.sd_io.specs.Causes.{Takes}
use Rattle.session_frames.specs.declared.frame.Frame.{Frame}
use Rattle.session_frames.specs.Frames.{Clean, Reads}
use Rattle.session_frames.specs.Reader.{resumed_at}
use Rattle.matcher_eval.specs.declared.field_judge.FieldJudge.{FieldJudge}
use Rattle.matcher_eval.specs.AtomTests.{matcher_holds}
use Rattle.hub_meaning.specs.SessionLog.{clock_of}
use Rattle.hub_core.specs.declared.hub.Hub.{Hub}
use Rattle.hub_core.specs.HubSaving.{saved_of}
use Rattle.hub_core.specs.SavedHubs.{SavedHub}
use Rattle.checkpoint.specs.declared.error.ResumeError.{ResumeError}
use Rattle.checkpoint.specs.declared.error.ResumeError.TheVariants as build
use Rattle.checkpoint.specs.Forms.{most_saved, IsFormOf, IsFormOfNone, IsSavedOf, StandsForAllSaved}
use Rattle.statsd_cli.specs.declared.saved_form.FormError.{FormError}
use Rattle.statsd_cli.specs.declared.saved_form.FormError.TheVariants as lack
use Rattle.statsd_cli.specs.declared.ending.Ending.{Ending}
use Rattle.statsd_cli.specs.declared.ending.Ending.TheVariants.{ReadFault, NoMemory, SaveRefused}
use Rattle.statsd_cli.specs.declared.ending.SaveFault.TheVariants as save
use Rattle.statsd_cli.specs.Form.{framed, TakesForm, LacksForm}
use Rattle.statsd_cli.specs.More.{more}
use Rattle.statsd_cli.specs.Run.{WordTells, IsRunFrom}

-- what is told of frames after a saved form: their replies after whatever session it is the form of
abbrev pub resume_tells : List ℕ → WordTells
resume_tells bytes frames told =
    (before : List Frame) → IsSavedOf matcher_holds FieldJudge before bytes → told (more before frames)

-- this is the time of whatever session these bytes are the form of
abbrev pub IsTimeOfSaved : List ℕ → ℕ → Type 0
IsTimeOfSaved bytes time =
    (before : List Frame) → IsSavedOf matcher_holds FieldJudge before bytes → time ≡ clock_of before

-- A saved form was taken, and what was after it was answered as the session of the form goes on.
pub record GoesOnFromForm (old new : Ports) (ending : Ending) : Type 0 where
  pub mid : Input
  pub bytes : List ℕ
  pub saved : SavedHub
  pub takes : TakesForm old.input mid bytes
  pub form : IsFormOf saved bytes
  pub time : IsTimeOfSaved bytes saved.time
  pub run : IsRunFrom saved.time (resume_tells bytes) (ports mid old.output) new ending

-- A whole form was taken, and it is the form of no hub.
pub record IsNotSaved (old new : Input) : Type 0 where
  pub bytes : List ℕ
  pub takes : TakesForm old new bytes
  pub none : IsFormOfNone bytes

-- how the command ends without a hub: the form isn't whole, is too long, or is that of no hub; the input failed before
-- it was whole; or memory was wanting
abbrev pub LacksHub : Input → Input → Ending → Type 0
LacksHub old new (SaveRefused save.Cut) = LacksForm old new lack.Cut
LacksHub old new (SaveRefused (save.TooLong size)) = LacksForm old new (lack.TooLong size)
LacksHub old new (SaveRefused save.NotSaved) = IsNotSaved old new
LacksHub old new ReadFault = LacksForm old new lack.Read
LacksHub old new NoMemory = (taken : List ℕ) × Takes old new taken
LacksHub old new _ = ⊥

-- No session went on, and nothing was written.
pub record IsNotResumed (old new : Ports) (ending : Ending) : Type 0 where
  pub lacks : LacksHub old.input new.input ending
  pub unwritten : new.output ≡ old.output

-- a saved form was taken and its session went on, or there was none
abbrev pub IsResumed : Ports → Ports → Ending → Type 0
IsResumed old new ending = GoesOnFromForm old new ending ⊎ IsNotResumed old new ending

-- These bytes are the saved form of a session, and frames that are good to their end where its log goes on.
pub record MayGoOn (bytes : List ℕ) : Type 0 where
  pub before : List Frame
  pub form : List ℕ
  pub rest : List ℕ
  pub frames : List Frame
  pub is : bytes ≡ framed form ++ rest
  pub saved : IsSavedOf matcher_holds FieldJudge before form
  pub short : length form ≤ most_saved
  pub good : Reads (resumed_at (clock_of before)) rest frames Clean

-- A saved form was taken, and a hub was built of it.
pub record TakesHub (old new : Input) (hub : Hub FieldJudge) : Type 0 where
  pub bytes : List ℕ
  pub takes : TakesForm old new bytes
  pub form : IsFormOf (saved_of hub) bytes
  pub stands : StandsForAllSaved matcher_holds bytes hub

-- how the command ends where no form was taken
abbrev pub lack_ending : FormError → Ending
lack_ending lack.Cut = SaveRefused save.Cut
lack_ending (lack.TooLong size) = SaveRefused (save.TooLong size)
lack_ending lack.Read = ReadFault
lack_ending lack.Memory = NoMemory

-- how it ends where no hub was built
abbrev pub build_ending : ResumeError → Ending
build_ending build.NotSaved = SaveRefused save.NotSaved
build_ending build.Memory = NoMemory
