-- Integers of 64 bits in a number of 128.
use Rattle.std.proofs.Common.{◌≡◌, ℤ, SFits, w64, ap, ◌∙◌, arith}
use Rattle.std.specs.Int.{w128}
use Rattle.std.proofs.lemmas.Int.{to_z-of_z}
use mir.Val.{to_z, of_z}

-- an integer of 64 bits is the same in 128
pub widened : (integer : ℤ) → SFits w64 integer → to_z w128 (of_z w128 (to_z w64 (of_z w64 integer))) ≡ integer
widened integer fits =
    let wide : SFits w128 integer = record { sfits = omega (arith, fits.sfits) } in
    ap (λ n. to_z w128 (of_z w128 n)) (to_z-of_z w64 integer fits) ∙ to_z-of_z w128 integer wide
