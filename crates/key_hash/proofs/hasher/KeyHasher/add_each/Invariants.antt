use Rattle.std.proofs.Common.{◌≡◌, fold, take}
use Rattle.key_hash.specs.KeyHash.{with_word}
use Rattle.key_hash.proofs.hasher.KeyHasher.add_each.Given as goal

abbrev pub invariant-loop-byte : goal.invariant-loop-byte
invariant-loop-byte l = l.self.hash ≡ fold with_word l.initial.self.hash (take l.byte-index l.bytes)
