-- The numbers of the reasons for which a frame's body isn't of its kind's form.
use Rattle.std.specs.Prelude.{ℕ}

-- the body is too short for its kind
abbrev pub body_too_short : ℕ
body_too_short = 1

-- bytes are left over after the body
abbrev pub body_left_over : ℕ
body_left_over = 2

-- a flag is neither 0 nor 1
abbrev pub body_bad_flag : ℕ
body_bad_flag = 3

-- a time is 2^63 nanoseconds or more
abbrev pub body_late : ℕ
body_late = 4

-- a recorded pull has too many atoms
abbrev pub body_too_many_atoms : ℕ
body_too_many_atoms = 5
