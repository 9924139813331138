-- Why bytes are no payload of an atom, as numbers, and the most bytes of a payload.
use Rattle.std.specs.Prelude.{ℕ}

-- the payload has more bytes than it may have
abbrev pub reason_too_long : ℕ
reason_too_long = 1

-- four bytes of an id aren't there, or the id isn't one of an atom
abbrev pub reason_bad_id : ℕ
reason_bad_id = 2

-- the payload ends inside an entry
abbrev pub reason_cut : ℕ
reason_cut = 3

-- an entry's field, index or sub is out of range
abbrev pub reason_bad_place : ℕ
reason_bad_place = 4

-- an entry doesn't stand above the one before it
abbrev pub reason_not_above : ℕ
reason_not_above = 5

-- a type is unknown, or the byte of a Bool is neither 0 nor 1
abbrev pub reason_bad_type : ℕ
reason_bad_type = 6

-- flags are unknown, or this entry may not have them
abbrev pub reason_bad_flags : ℕ
reason_bad_flags = 7

-- an atom of a recorded pull has another id than the pull
abbrev pub reason_other_id : ℕ
reason_other_id = 8

-- the most bytes of a payload
abbrev pub most_payload : ℕ
most_payload = 4096
