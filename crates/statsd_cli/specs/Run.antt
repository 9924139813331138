-- The run of a session, wherever it begins: how it ended, what was read of its input, and what was told of that.
use Rattle.std.specs.Prelude.{◌≡◌, ℕ, ◌≤◌, List, ◌++◌, length}
use Rattle.sd_io.specs.States.{Input, Output, Ports}
use Rattle.sd_io.specs.Causes.{Gains, GainsFront, IsAtEnd, Rose, Takes}
use Rattle.session_frames.specs.declared.frame.Frame.{Frame}
use Rattle.session_frames.specs.declared.frame.FrameError.{FrameError}
use Rattle.session_frames.specs.declared.frame.FrameError.TheVariants.{Session, Read, Memory}
use Rattle.session_frames.specs.declared.frame.SessionFault.{SessionFault}
use Rattle.session_frames.specs.declared.frame.SessionFault.TheVariants.{Cut}
use Rattle.session_frames.specs.Frames.{End, Clean, Bad, needed, Begins, Reads}
use Rattle.session_frames.specs.Reader.{resumed_at}
use Rattle.matcher_eval.specs.AtomTests.{matcher_holds}
use Rattle.hub_meaning.specs.ClientAnswers.{text}
use Rattle.statsd_cli.specs.declared.ending.Ending.{Ending}
use Rattle.statsd_cli.specs.declared.ending.Ending.TheVariants.{Done, BadSession, ReadFault, WriteFault, NoMemory}

-- A reading stands at a place with these bytes, and they are no more than what it needs there.
pub record NeedsAll {P : Type 0} (begins : P → List ℕ → Type 0) (needs : P → List ℕ → ℕ) : Type 0 where
  pub place : P
  pub left : List ℕ
  pub begins_there : begins place left
  pub no_more : length left ≤ needs place left

-- the bytes end at a frame's end or inside a frame, and more of them may be frames
abbrev pub IsUnfinishedEnd : End → Type 0
IsUnfinishedEnd Clean = Unit {0}
IsUnfinishedEnd (Bad at fault) = fault ≡ Cut

-- The clock with which a session begins, the last time of the log before it, is a parameter of what was read: the bytes
-- that were taken, and the frames of them that were served.
module _ (clock : ℕ) where
  -- The input ended at a frame's end, and the frames are all that there are.
  pub record IsReadToEnd (taken : List ℕ) (served : List Frame) (new : Input) : Type 0 where
    pub session : Reads (resumed_at clock) taken served Clean
    pub at_end : IsAtEnd new.left

  -- after these frames no byte was taken but those that the judgement of what stands there asks for
  abbrev pub IsReadNoFurther : List ℕ → List Frame → Type 0
  IsReadNoFurther taken frames = NeedsAll (Begins (resumed_at clock) taken frames) needed

  -- The session has the fault after its good frames. The fault was told before more was read than it took to see it.
  -- The session is cut only where the input ended.
  pub record IsBadSession (at : ℕ) (fault : SessionFault) (taken : List ℕ) (served : List Frame) (new : Input)
      : Type 0 where
    pub session : Reads (resumed_at clock) taken served (Bad at fault)
    pub at_once : IsReadNoFurther taken served
    pub at_end : fault ≡ Cut → IsAtEnd new.left

  -- A read failed and was counted. No frame was bad that had come till then, and the whole ones were served.
  pub record IsUnread (taken : List ℕ) (served : List Frame) (old new : Input) : Type 0 where
    pub end : End
    pub session : Reads (resumed_at clock) taken served end
    pub unfinished : IsUnfinishedEnd end
    pub rose : Rose old.faults new.faults

  -- The frames are a front of the good ones of the bytes taken.
  pub record IsReadInPart (taken : List ℕ) (served : List Frame) : Type 0 where
    pub others : List Frame
    pub end : End
    pub session : Reads (resumed_at clock) taken (served ++ others) end

  -- what was read, by how a run ended: the endings of other words don't come
  abbrev pub IsReadSo : List ℕ → List Frame → Input → Input → Ending → Type 0
  IsReadSo taken served old new Done = IsReadToEnd taken served new
  IsReadSo taken served old new (BadSession at fault) = IsBadSession at fault taken served new
  IsReadSo taken served old new ReadFault = IsUnread taken served old new
  IsReadSo taken served old new WriteFault = IsReadInPart taken served
  IsReadSo taken served old new NoMemory = IsReadInPart taken served
  IsReadSo taken served old new _ = ⊥

-- what a word tells of frames: a fact of the bytes that it has to tell
abbrev pub WordTells : Type 1
WordTells = List Frame → (List ℕ → Type 0) → Type 0

-- what was told, by how a run ended: all that there is to tell of the frames served, or, where a write failed and was
-- counted, a front of it
abbrev pub IsToldSo : ((List ℕ → Type 0) → Type 0) → Output → Output → Ending → Type 0
IsToldSo tells old new WriteFault = tells (GainsFront old new) × Rose old.faults new.faults
IsToldSo tells old new _ = tells (Gains old new)

-- A session was run that begins with this clock, by a word that tells so of frames: bytes were taken from the front of
-- the input, frames of them were served, and the run ended so.
pub record IsRunFrom (clock : ℕ) (tells : WordTells) (old new : Ports) (ending : Ending) : Type 0 where
  pub taken : List ℕ
  pub consumes : Takes old.input new.input taken
  pub served : List Frame
  pub read : IsReadSo clock taken served old.input new.input ending
  pub told : IsToldSo (tells served) old.output new.output ending

-- a replay tells the replies to all commands
abbrev pub replay_tells : WordTells
replay_tells frames told = told (text matcher_holds frames)

-- a session was replayed, from the beginning of the log on
abbrev pub IsRun : Ports → Ports → Ending → Type 0
IsRun old new ending = IsRunFrom 0 replay_tells old new ending

-- why a run ends where the reader gave no frame
abbrev pub ending_by : FrameError → Ending
ending_by (Session at fault) = BadSession at fault
ending_by Read = ReadFault
ending_by Memory = NoMemory
