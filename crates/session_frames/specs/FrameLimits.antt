-- The limits of sessions and of their frames.
use Rattle.std.specs.Prelude.{ℕ, ◌^◌}

-- the most bytes of a frame after its length
abbrev pub most_body : ℕ
most_body = 1048576

-- the most bytes of a frame with its length
abbrev pub most_pending : ℕ
most_pending = 1048580

-- the most frames of a session
abbrev pub most_session_frames : ℕ
most_session_frames = 2 ^ 32

-- the first number of nanoseconds that is too late to be a time
abbrev pub first_late_time : ℕ
first_late_time = 2 ^ 63

-- the most atoms of a recorded pull
abbrev pub most_atoms : ℕ
most_atoms = 200
