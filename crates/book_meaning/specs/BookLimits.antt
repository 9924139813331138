-- The limits of the books.
use Rattle.std.specs.Prelude.{ℕ}

-- the most pulled ids that are kept
abbrev pub most_pulled_ids : ℕ
most_pulled_ids = 256

-- the most ids of state atoms that are kept
abbrev pub most_state_ids : ℕ
most_state_ids = 256

-- the most keys of one id of state atoms
abbrev pub most_state_keys : ℕ
most_state_keys = 3000
