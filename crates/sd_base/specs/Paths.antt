-- How long a path into a message may be.
use Rattle.std.specs.Prelude.{ℕ}

-- a number for each of a hundred messages that are open, and one for the record
abbrev pub most_numbers : ℕ
most_numbers = 101
