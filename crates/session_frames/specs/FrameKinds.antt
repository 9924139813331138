-- The numbers of the kinds of frames.
use Rattle.std.specs.Prelude.{ℕ}

-- time passed
abbrev pub kind_tick : ℕ
kind_tick = 1

-- an atom was logged
abbrev pub kind_atom : ℕ
kind_atom = 2

-- a pull was recorded
abbrev pub kind_pull : ℕ
kind_pull = 3

-- a client installs a configuration
abbrev pub kind_install : ℕ
kind_install = 16

-- a client takes a configuration out
abbrev pub kind_remove : ℕ
kind_remove = 17

-- a client asks for a report
abbrev pub kind_report : ℕ
kind_report = 18
