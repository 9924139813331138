-- The laws of the definitions.
use Rattle.session_frames.proofs.FrameLaws.{some_frames, one_frames}
use Rattle.session_frames.proofs.laws.bytes_have_one_reading.Goals as goal

pub returns-clause-some : goal.returns-clause-some
returns-clause-some c = some_frames

pub returns-clause-one : goal.returns-clause-one
returns-clause-one c = one_frames
