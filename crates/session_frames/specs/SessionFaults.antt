-- The faults of frames among those of sessions.
use Rattle.session_frames.specs.declared.frame.FrameFault.{FrameFault}
use Rattle.session_frames.specs.declared.frame.FrameFault.TheVariants as frame
use Rattle.session_frames.specs.declared.frame.SessionFault.{SessionFault}
use Rattle.session_frames.specs.declared.frame.SessionFault.TheVariants.{BadLength, UnknownKind, BadBody, BadAtom, TimeBackwards}

-- the fault of a session whose first bad frame has this fault
abbrev pub session_fault : FrameFault → SessionFault
session_fault frame.BadLength = BadLength
session_fault (frame.UnknownKind kind) = UnknownKind kind
session_fault (frame.BadBody reason) = BadBody reason
session_fault (frame.BadAtom reason) = BadAtom reason
session_fault (frame.TimeBackwards last now) = TimeBackwards last now
