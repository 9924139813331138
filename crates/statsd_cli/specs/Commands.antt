-- What the words of a command line ask for.
use Rattle.std.specs.Prelude.{ℕ, ◌+◌, ◌-◌, ◌*◌, ◌^◌, ◌≤◌, Bool, true, false, ◌&&◌, List, [], ◌∷◌, length, Option, Some, None, nat_lt, nat_le, codes, bytes_eq, if◌then◌else◌}
use Rattle.std.specs.List.{list_all}
use Rattle.load_session.specs.Frames.{most_frames}
use Rattle.statsd_cli.specs.declared.command.Command.{Command}
use Rattle.statsd_cli.specs.declared.command.Command.TheVariants.{Replay, Check, Show, Save, Resume, Load, Unknown}

-- the command of one word
abbrev pub command_named : List ℕ → Command
command_named word =
    if bytes_eq word (codes "replay") then Replay
    else if bytes_eq word (codes "check") then Check
    else if bytes_eq word (codes "show") then Show
    else if bytes_eq word (codes "save") then Save
    else if bytes_eq word (codes "resume") then Resume
    else Unknown

-- the byte is a decimal digit
abbrev pub is_digit : ℕ → Bool
is_digit byte = nat_le 48 byte && nat_le byte 57

-- the number that digits spell after a number in front of them
abbrev pub number_from : ℕ → List ℕ → ℕ
number_from front [] = front
number_from front (digit ∷ digits) = number_from (front * 10 + (digit - 48)) digits

-- the number of decimal digits after a number in front of them, where it is at most so large
unfoldable pub number_within : ℕ → ℕ → List ℕ → Option ℕ
number_within most front digits =
    if list_all is_digit digits && nat_le (number_from front digits) most then Some (number_from front digits) else None

-- the number of a word of one to so many decimal digits, where it is at most so large
abbrev pub number_of : ℕ → ℕ → List ℕ → Option ℕ
number_of digits most word =
    if nat_lt 0 (length word) && nat_le (length word) digits then number_within most 0 word else None

-- the most digits of a seed
abbrev pub seed_digits : ℕ
seed_digits = 20

-- the largest seed
abbrev pub most_seed : ℕ
most_seed = 2 ^ 64 - 1

-- the most digits of a number of frames
abbrev pub frames_digits : ℕ
frames_digits = 10

-- the command of a seed and a number of frames, where both are numbers
abbrev pub load_of : Option ℕ → Option ℕ → Command
load_of (Some seed) (Some frames) = Load seed frames
load_of _ _ = Unknown

-- the command of three words
abbrev pub command_with : List ℕ → List ℕ → List ℕ → Command
command_with word seed frames =
    if bytes_eq word (codes "load")
    then load_of (number_of seed_digits most_seed seed) (number_of frames_digits most_frames frames)
    else Unknown

-- the command that these words ask for: `replay`, `check`, `show`, `save` or `resume` alone, `load` with a seed and a
-- number of frames, or none that is known
abbrev pub command_of : List (List ℕ) → Command
command_of (word ∷ []) = command_named word
command_of (word ∷ seed ∷ frames ∷ []) = command_with word seed frames
command_of _ = Unknown

-- the command reads the input
abbrev pub reads_input : Command → Bool
reads_input Replay = true
reads_input Check = true
reads_input Show = true
reads_input Save = true
reads_input Resume = true
reads_input (Load seed frames) = false
reads_input Unknown = false

-- a session that is asked for has no more than the most frames
abbrev pub HasFewFrames : Command → Type 0
HasFewFrames (Load seed frames) = frames ≤ most_frames
HasFewFrames _ = Unit {0}
