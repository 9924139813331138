-- Numbers that fit their types are read back.
use Rattle.std.proofs.Common.{◌≡◌, ℕ, ℤ, pos, negsuc, ◌^◌, ◌<◌, Bool, true, false, refl, ap, ◌∙◌, arith, FitsSigned}
use Rattle.std.specs.Prelude.{not, ◌==◌}
use Rattle.std.specs.Int.{w32, w64, cast_signed, cast_unsigned}
use Rattle.std.proofs.lemmas.Int.{to_z-of_z}
use Rattle.report_writer.specs.ReportSpelling.{truth_number}
use Rattle.report_show.specs.Reading.{low64, low32}

pub low64-same : (n : ℕ) → n < 2 ^ 64 → low64 n ≡ n
low64-same n fits = omega (arith, fits)

pub low32-same : (n : ℕ) → n < 2 ^ 32 → low32 n ≡ n
low32-same n fits = omega (arith, fits)

pub low32-of_low64 : (n : ℕ) → n < 2 ^ 32 → low32 (low64 n) ≡ n
low32-of_low64 n fits = omega (arith, fits)

pub signed-small : (z : ℤ) → FitsSigned w64 z → cast_unsigned w64 z < 2 ^ 64
signed-small (pos n) fits = omega (arith, fits.sfits)
signed-small (negsuc n) fits = omega arith

pub signed64-same : (z : ℤ) → FitsSigned w64 z → cast_signed w64 (low64 (cast_unsigned w64 z)) ≡ z
signed64-same z fits =
    ap (cast_signed w64) (low64-same (cast_unsigned w64 z) (signed-small z fits)) ∙ to_z-of_z w64 z fits

narrow-small : (z : ℤ) → FitsSigned w32 z → cast_unsigned w64 z < 2 ^ 64
narrow-small (pos n) fits = omega (arith, fits.sfits)
narrow-small (negsuc n) fits = omega arith

narrow : (z : ℤ) → FitsSigned w32 z → low32 (low64 (cast_unsigned w64 z)) ≡ cast_unsigned w32 z
narrow (pos n) fits = omega (arith, fits.sfits)
narrow (negsuc n) fits = omega (arith, fits.sfits)

pub signed32-small : (z : ℤ) → FitsSigned w32 z → cast_unsigned w64 z < 2 ^ 64
signed32-small z fits = narrow-small z fits

pub signed32-same : (z : ℤ) → FitsSigned w32 z → cast_signed w32 (low32 (low64 (cast_unsigned w64 z))) ≡ z
signed32-same z fits = ap (cast_signed w32) (narrow z fits) ∙ to_z-of_z w32 z fits

pub truth-same : (truth : Bool) → not (low64 (truth_number truth) == 0) ≡ truth
truth-same true = refl
truth-same false = refl

pub truth-small : (truth : Bool) → truth_number truth < 2 ^ 64
truth-small true = omega arith
truth-small false = omega arith
