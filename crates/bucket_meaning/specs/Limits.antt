-- The limits of a metric's buckets.
use Rattle.std.specs.Prelude.{ℕ, ◌^◌}

-- the longest bucket, in nanoseconds: a day
abbrev pub longest_bucket : ℕ
longest_bucket = 86400000000000

-- the most keys that one part may be bound to
abbrev pub most_keys : ℕ
most_keys = 3000

-- all times are below this, in nanoseconds
abbrev pub time_limit : ℕ
time_limit = 2 ^ 63
