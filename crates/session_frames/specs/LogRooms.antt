-- The frames of a room.
use Rattle.atom_record.specs.declared.log.LogFrame.{LogFrame}
use Rattle.session_frames.specs.declared.log_room.LogRoom.{LogRoom}
use Rattle.session_frames.specs.declared.log_room.LogKind.{LogKind}
use Rattle.session_frames.specs.declared.log_room.LogKind.TheVariants.{Tick, Atom}

-- the frame of this kind
abbrev pub frame_in : LogKind → LogRoom → LogFrame
frame_in Tick room = room.tick
frame_in Atom room = room.atom
