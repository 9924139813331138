-- What stands in front of some bytes: so many bytes, a number, counted bytes. Each is a value and the bytes after it,
-- or none where too few bytes are there. A reader says by `ok_or` which fault that is.
use Rattle.std.specs.Prelude.{ℕ, List, length, take, drop, Option, None, Some, nat_lt, if◌then◌else◌}
use Rattle.std.specs.Option.{option_and_then}
use Rattle.std.specs.Int.{Width, byte_len, w16, from_le_bytes}

-- so many bytes
abbrev pub front_bytes : ℕ → List ℕ → Option (List ℕ × List ℕ)
front_bytes count bytes =
    if nat_lt (length bytes) count then None
    else Some (take count bytes, drop count bytes)

-- a number of this width, its low byte first
abbrev pub front_number : Width → List ℕ → Option (ℕ × List ℕ)
front_number width bytes =
    if nat_lt (length bytes) (byte_len width) then None
    else Some (from_le_bytes width (take (byte_len width) bytes), drop (byte_len width) bytes)

-- a count in two bytes, and so many bytes
abbrev pub front_counted : List ℕ → Option (List ℕ × List ℕ)
front_counted bytes = option_and_then (λ count. front_bytes count.0 count.1) (front_number w16 bytes)
