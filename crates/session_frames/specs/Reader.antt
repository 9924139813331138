-- What a contract sees of a reader of frames, and what one of its calls does to it and to its source.
use Rattle.std.specs.Prelude.{◌≡◌, ℕ, ◌*◌, ◌≤◌, Bool, true, false, List, [], ◌++◌, length, Option, Some, None, Result, IsErrOf}
use Rattle.sd_io.specs.States.{Input}
use Rattle.sd_io.specs.Causes.{IsAtEnd, Rose, Takes}
use Rattle.session_frames.specs.declared.frame.Frame.{Frame}
use Rattle.session_frames.specs.declared.frame.Frame.TheVariants.{Log}
use Rattle.session_frames.specs.declared.frame.FrameError.{FrameError}
use Rattle.session_frames.specs.declared.frame.FrameError.TheVariants.{Session, Read, Memory}
use Rattle.session_frames.specs.declared.frame.SessionFault.{SessionFault}
use Rattle.session_frames.specs.declared.frame.SessionFault.TheVariants.{Cut}
use Rattle.session_frames.specs.declared.log_room.LogKind.{LogKind}
use Rattle.session_frames.specs.declared.log_room.LogRoom.{LogRoom}
use Rattle.session_frames.specs.declared.place.Place.{Place}
use Rattle.session_frames.specs.FrameLimits.{most_pending, most_session_frames}
use Rattle.session_frames.specs.LogRooms.{frame_in}
use Rattle.session_frames.specs.Frames.{Next, Ended, Broken, Whole, next_frame, needed, start, past}

-- A reader: what it holds, where it stands, and whether its source ended.
pub record Reading : Type 0 where
  -- the bytes that were taken and come after the frames given so far
  pub pending : List ℕ
  -- where these begin, with the clock and the number of frames there
  pub place : Place
  -- the source was read to its end
  pub ended : Bool

-- a reader that hasn't given the end
abbrev pub IsBeforeEnd : Reading → Type 0
IsBeforeEnd reading = reading.ended ≡ false

-- a reader that has taken nothing
abbrev pub unread : Reading
unread = record { pending = []; place = start; ended = false }

-- where a session begins that goes on from another one, whose last time of the log was this
abbrev pub resumed_at : ℕ → Place
resumed_at clock = record start { clock = clock }

-- a reader that stood so gave what stands next in these bytes: a frame, after which it holds none, or the end
abbrev pub GivesNext : Reading → List ℕ → Reading → Option Frame → Type 0
GivesNext before left after None =
    (next_frame before.place left ≡ Ended) × (after ≡ record { pending = []; place = before.place; ended = true })
GivesNext before left after (Some frame) =
    (next_frame before.place left ≡ Whole frame [])
    × (after ≡ record { pending = []; place = past before.place left frame []; ended = false })

-- the end is given only where the source is at its end
abbrev pub IsEndSeen : Option Frame → Input → Type 0
IsEndSeen None input = IsAtEnd input.left
IsEndSeen (Some frame) input = Unit {0}

-- A call took what the judgement asks for and no byte more, and gave what stands next: a frame, or the end.
pub record GivesFrame (old new : Input) (before after : Reading) (frame : Option Frame) : Type 0 where
  pub taken : List ℕ
  pub consumes : Takes old new taken
  pub no_more : length (before.pending ++ taken) ≤ needed before.place (before.pending ++ taken)
  pub next : GivesNext before (before.pending ++ taken) after frame
  pub at_end : IsEndSeen frame new

-- A call gave the frame of the log that stands in a room, of this kind.
abbrev pub GivesLog : Input → Input → Reading → Reading → LogRoom → LogKind → Type 0
GivesLog old new before after room kind = GivesFrame old new before after (Some (Log (frame_in kind room)))

-- This fault stands next in what is left; where that is cut, nothing comes after it.
pub record IsFaultNext (at : ℕ) (fault : SessionFault) (before : Reading) (left : List ℕ) (new : Input) : Type 0 where
  pub placed : at ≡ before.place.bytes
  pub broken : next_frame before.place left ≡ Broken fault
  pub at_end : fault ≡ Cut → IsAtEnd new.left

-- nothing stands there, or what begins there isn't whole: more bytes may make it a frame
abbrev pub IsUnfinished : Next → Type 0
IsUnfinished Ended = Unit {0}
IsUnfinished (Broken fault) = fault ≡ Cut
IsUnfinished (Whole frame rest) = ⊥

-- a reader that stood so may give no frame for this reason, where these bytes are left
abbrev pub IsCause : FrameError → Reading → List ℕ → Input → Type 0
IsCause (Session at fault) before left new = IsFaultNext at fault before left new
IsCause Read before left new = IsUnfinished (next_frame before.place left)
IsCause Memory before left new = Unit {0}

-- A call took what the judgement asks for and no byte more, and failed for cause.
pub record Refuses (old new : Input) (before : Reading) (e : FrameError) : Type 0 where
  pub taken : List ℕ
  pub consumes : Takes old new taken
  pub no_more : length (before.pending ++ taken) ≤ needed before.place (before.pending ++ taken)
  pub cause : IsCause e before (before.pending ++ taken) new

-- The source's count of faults never falls, and it rose where the call tells a read fault.
pub record HasReadCause {T : Type 0} (old new : Input) (result : Result T FrameError) : Type 0 where
  pub later : old.faults ≤ new.faults
  pub failed : IsErrOf result Read → Rose old.faults new.faults

-- What holds of a reader between its calls: each frame before its place had a length that may be.
pub record IsAtRest (place : Place) : Type 0 where
  pub counted : place.frames ≤ most_session_frames
  pub placed : place.bytes ≤ place.frames * most_pending
