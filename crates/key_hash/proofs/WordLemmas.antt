-- A number's bytes are one word, which is the number.
use Rattle.std.proofs.Common.{◌≡◌, ℕ, ◌<◌, ◌^◌, ap}
use Rattle.std.specs.Hash.{le_bytes}
use Rattle.std.proofs.lemmas.Nat.{from_le_bytes-to_le_bytes_4, from_le_bytes-to_le_bytes_8}
use Rattle.key_hash.specs.KeyHash.{with_word, with_bytes}

pub of_u32 : (hash number : ℕ) → number < 2 ^ 32 → with_bytes hash (le_bytes 4 number) ≡ with_word hash number
unfolding le_bytes
of_u32 hash number fits = ap (with_word hash) (from_le_bytes-to_le_bytes_4 number fits)

pub of_u64 : (hash number : ℕ) → number < 2 ^ 64 → with_bytes hash (le_bytes 8 number) ≡ with_word hash number
unfolding le_bytes
of_u64 hash number fits = ap (with_word hash) (from_le_bytes-to_le_bytes_8 number fits)
