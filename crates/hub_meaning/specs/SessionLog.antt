-- The log of a session, a client's own frames, and the clock.
use Rattle.std.specs.Prelude.{ℕ, ℤ, Bool, true, false, List, [], ◌∷◌, filter}
use Rattle.std.specs.List.{flat_map}
use Rattle.std.specs.Ordering.{int_eq}
use Rattle.atom_record.specs.declared.log.LogFrame.{LogFrame}
use Rattle.session_frames.specs.declared.frame.Frame.{Frame}
use Rattle.session_frames.specs.declared.frame.Frame.TheVariants.{Log, Install, Remove, Report}
use Rattle.session_frames.specs.Frames.{clock_after}

-- a frame belongs to a client if it is of the log, or a command of the client
abbrev pub is_own : ℤ → Frame → Bool
is_own client (Log frame) = true
is_own client (Install uid id config) = int_eq uid client
is_own client (Remove uid id) = int_eq uid client
is_own client (Report uid id include_current) = int_eq uid client

-- the frames of the log
abbrev pub log_of : List Frame → List Frame
log_of frames = filter is_logged frames where
  is_logged : Frame → Bool
  is_logged (Log frame) = true
  is_logged _ = false

-- the frame of the log that a frame is, if it is one
abbrev pub log_frame_in : Frame → List LogFrame
log_frame_in (Log frame) = frame ∷ []
log_frame_in (Install uid id config) = []
log_frame_in (Remove uid id) = []
log_frame_in (Report uid id include_current) = []

-- the frames of the log, without the commands
abbrev pub log_frames : List Frame → List LogFrame
log_frames frames = flat_map log_frame_in frames

-- a client's own frames: the log, and its commands
abbrev pub own : ℤ → List Frame → List Frame
own client frames = filter (is_own client) frames

-- the clock after these frames, from a clock before them
abbrev pub clock_from : ℕ → List Frame → ℕ
clock_from clock [] = clock
clock_from clock (frame ∷ frames) = clock_from (clock_after clock frame) frames

-- the clock: the time of the last frame of the log, or 0
abbrev pub clock_of : List Frame → ℕ
clock_of frames = clock_from 0 frames
