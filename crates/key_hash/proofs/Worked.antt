-- Hashes of known pieces, by computing.
use Rattle.std.proofs.Common.{◌≡◌, [], ◌∷◌, refl}
use Rattle.key_hash.specs.KeyHash.{with_bytes}

-- of the seed itself, which leaves nothing
hash_of_the_seed : with_bytes 0x243f6a8885a308d3 (0xd3 ∷ 0x08 ∷ 0xa3 ∷ 0x85 ∷ 0x88 ∷ 0x6a ∷ 0x3f ∷ 0x24 ∷ []) ≡ 0
hash_of_the_seed = refl

-- of one byte
hash_of_a : with_bytes 0x243f6a8885a308d3 (0x61 ∷ []) ≡ 0x84dd359ca30a346d
hash_of_a = refl

-- of a number of four bytes
hash_of_5 : with_bytes 0x243f6a8885a308d3 (5 ∷ 0 ∷ 0 ∷ 0 ∷ []) ≡ 0xc4ee178ac580ba83
hash_of_5 = refl

-- of a text of three bytes, each a word
hash_of_foo : with_bytes 0x243f6a8885a308d3 (0x66 ∷ 0x6f ∷ 0x6f ∷ []) ≡ 0x6d1ade072216529f
hash_of_foo = refl
