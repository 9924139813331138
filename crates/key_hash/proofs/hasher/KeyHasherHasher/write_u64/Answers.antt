use Rattle.std.proofs.Common.{ap, ◌∙◌, sym}
use Rattle.key_hash.proofs.WordLemmas.{of_u64}
use Rattle.key_hash.proofs.hasher.KeyHasherHasher.write_u64.Goals as goal

pub returns : goal.returns
returns c =
    ap (λ hash. record { hash = hash })
    (c.add.ensures ∙ sym (of_u64 c.args.self.now.hash c.args.i c.ranges.i.fits))
