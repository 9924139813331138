-- A count that rises as often as there are buckets.
use Rattle.std.proofs.Common.{◌≡◌, ℕ, zero, suc, ◌+◌, ◌-◌, ◌*◌, ◌<◌, ◌≤◌, ◌^◌, min, ap, ◌∙◌, arith, ⊎_elim}
use Rattle.std.proofs.lemmas.Bool.{cases_lt}
use Rattle.bucket_meaning.specs.Kept.{count_in_u64}

-- the rise is that of the first bucket, once more for each other
pub as_often_is : (number count more before after rise others all : ℕ) → 1 ≤ number
    → before ≡ count_in_u64 count → after ≡ count_in_u64 (count + more) → rise ≡ after - before
    → others ≡ min ((number - 1) * rise) (2 ^ 64 - 1) → all ≡ min (after + others) (2 ^ 64 - 1)
    → all ≡ count_in_u64 (count + number * more)
as_often_is zero count more before after rise others all some first last is_rise is_others is_all =
    absurd (omega (arith, some))
as_often_is (suc n) count more before after rise others all some first last is_rise is_others is_all =
    ⊎_elim
    (λ (fits : count + more < 2 ^ 64).
    let same : rise ≡ more = omega (arith, fits, first, last, is_rise) in
    let one_less : suc n - 1 ≡ n = omega arith in
    let is_more : others ≡ min (n * more) (2 ^ 64 - 1) =
    is_others ∙ ap (λ m. min (m * rise) (2 ^ 64 - 1)) one_less ∙ ap (λ r. min (n * r) (2 ^ 64 - 1)) same in
    let product : suc n * more ≡ more + n * more = omega arith in
    omega (arith, fits, last, is_more, is_all, product))
    (λ (past : 2 ^ 64 ≤ count + more).
    let product : suc n * more ≡ more + n * more = omega arith in
    omega (arith, past, last, is_all, product))
    (cases_lt (count + more) (2 ^ 64))
