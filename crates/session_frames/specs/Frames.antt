-- The frames of a byte string, and how it ends.
use Rattle.std.specs.Prelude.{◌≡◌, ℕ, ◌+◌, ◌-◌, ◌==◌, nat_le, nat_lt, List, [], ◌∷◌, length, take, drop, Result, Ok, Err, if◌then◌else◌}
use Rattle.std.specs.Int.{w32, from_le_bytes}
use Rattle.session_frames.specs.declared.frame.Frame.{Frame}
use Rattle.session_frames.specs.declared.frame.Frame.TheVariants.{Log}
use Rattle.session_frames.specs.declared.frame.FrameFault.{FrameFault}
use Rattle.session_frames.specs.declared.frame.SessionFault.{SessionFault}
use Rattle.session_frames.specs.declared.frame.SessionFault.TheVariants.{Cut, TooLong, BadLength, TooManyFrames}
use Rattle.session_frames.specs.FrameReading.{frame_of}
use Rattle.session_frames.specs.SessionFaults.{session_fault}
pub use Rattle.session_frames.specs.declared.place.Place.{Place}
pub use Rattle.session_frames.specs.FrameLimits.{most_body, most_pending, most_session_frames, first_late_time, most_atoms}
pub use Rattle.session_frames.specs.FrameReading.{log_time}
pub use Rattle.session_frames.specs.Faultless.{IsPulledAtom, IsOutcome, HasSoundAtoms, IsFaultlessLog, IsFaultless, IsInTime}

-- the clock after a frame, where it stood at a time before it: a command leaves it
abbrev pub clock_after : ℕ → Frame → ℕ
clock_after clock (Log frame) = log_time frame
clock_after clock _ = clock

-- What stands next: the end of the bytes, a fault, or a frame and the bytes after it.
pub data Next : Type 0 where
  Ended : Next
  Broken : (fault : SessionFault) → Next
  Whole : (frame : Frame) → (rest : List ℕ) → Next

-- a frame, or its fault, and what comes after it
abbrev pub followed_by : List ℕ → Result Frame FrameFault → Next
followed_by rest (Ok frame) = Whole frame rest
followed_by rest (Err fault) = Broken (session_fault fault)

-- the length that stands at the front
abbrev pub size_at : List ℕ → ℕ
size_at left = from_le_bytes w32 (take 4 left)

-- what stands next in what is left at a place: judged in this order
unfoldable pub next_frame : Place → List ℕ → Next
next_frame place left =
    if length left == 0 then Ended
    else if nat_le most_session_frames place.frames then Broken TooManyFrames
    else if nat_lt (length left) 4 then Broken Cut
    else if size_at left == 0 then Broken BadLength
    else if nat_lt most_body (size_at left) then Broken (TooLong (size_at left))
    else if nat_lt (length (drop 4 left)) (size_at left) then Broken Cut
    else followed_by (drop (size_at left) (drop 4 left)) (frame_of place.clock (take (size_at left) (drop 4 left)))

-- how many bytes the judgement of what begins so asks for: one for a frame too many, the four of a length, and those
-- that this counts, where it may be so large
unfoldable pub needed : Place → List ℕ → ℕ
needed place left =
    if nat_le most_session_frames place.frames then 1
    else if nat_lt (length left) 4 then 4
    else if nat_lt most_body (size_at left) then 4
    else 4 + size_at left

-- the beginning of a session
abbrev pub start : Place
start = record { bytes = 0; clock = 0; frames = 0 }

-- the place after one frame more, which has so many bytes and leaves the clock at this time
abbrev pub moved_by : Place → ℕ → ℕ → Place
moved_by place count clock = record { bytes = place.bytes + count; clock = clock; frames = place.frames + 1 }

-- the place after a frame, where these bytes were left before it and those after it
abbrev pub past : Place → List ℕ → Frame → List ℕ → Place
past place left frame rest = moved_by place (length left - length rest) (clock_after place.clock frame)

-- How a session ends: at a frame's end, or with a fault at the first byte of a frame.
pub data End : Type 0 where
  Clean : End
  Bad : (at : ℕ) → (fault : SessionFault) → End

-- at a place, these bytes are those frames and then this end
abbrev pub Reads : Place → List ℕ → List Frame → End → Type 0
Reads place left [] Clean = next_frame place left ≡ Ended
Reads place left [] (Bad at fault) = (at ≡ place.bytes) × (next_frame place left ≡ Broken fault)
Reads place left (frame ∷ frames) end =
    (rest : List ℕ) × (next_frame place left ≡ Whole frame rest)
    × Reads (past place left frame rest) rest frames end

-- at a place, those frames stand in front of these bytes, and lead to a new place with what is left there
abbrev pub Begins : Place → List ℕ → List Frame → Place → List ℕ → Type 0
Begins place left [] new rest = (left ≡ rest) × (place ≡ new)
Begins place left (frame ∷ frames) new rest =
    (between : List ℕ) × (next_frame place left ≡ Whole frame between)
    × Begins (past place left frame between) between frames new rest

-- a session of these bytes has these frames, and ends so
abbrev pub frames_of : List ℕ → List Frame → End → Type 0
frames_of bytes frames end = Reads start bytes frames end
