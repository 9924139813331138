-- What a lane tells its clock, and which ends a frame reaches.
use Rattle.std.proofs.Common.{◌≡◌, ℕ, zero, suc, ◌+◌, ◌-◌, ◌<◌, ◌≤◌, Bool, true, false, List, [], ◌∷◌, ◌++◌, length, nat_le, nat_lt, if◌then◌else◌, refl, ap, subst, arith}
use Rattle.std.proofs.lemmas.Bool.Decides.{nat_tests}
use Rattle.bucket_meaning.specs.Ends.{Moment, crosses, ends_from, ends_at}
use Rattle.bucket_clock.specs.Clock.{Saw, Cut}
use Rattle.metric_producer.specs.LaneCalls.{LaneStep, Logged, Reported, told_by}

-- one more frame among what the clock is told
pub told_by-frame : {News : Type 0} (steps : List (LaneStep News)) (moment : Moment) (news : News)
    → told_by (steps ++ Logged moment news ∷ []) ≡ told_by steps ++ Saw moment ∷ []
told_by-frame [] moment news = refl
told_by-frame (Logged m n ∷ steps) moment news = ap (λ l. Saw m ∷ l) (told_by-frame steps moment news)
told_by-frame (Reported at true ∷ steps) moment news = ap (λ l. Cut at ∷ l) (told_by-frame steps moment news)
told_by-frame (Reported at false ∷ steps) moment news = told_by-frame steps moment news

-- one more cut among what the clock is told
pub told_by-cut : {News : Type 0} (steps : List (LaneStep News)) (time : ℕ)
    → told_by (steps ++ Reported time true ∷ []) ≡ told_by steps ++ Cut time ∷ []
told_by-cut [] time = refl
told_by-cut (Logged m n ∷ steps) time = ap (λ l. Saw m ∷ l) (told_by-cut steps time)
told_by-cut (Reported at true ∷ steps) time = ap (λ l. Cut at ∷ l) (told_by-cut steps time)
told_by-cut (Reported at false ∷ steps) time = told_by-cut steps time

-- a report without a cut tells the clock nothing
pub told_by-report : {News : Type 0} (steps : List (LaneStep News)) (time : ℕ)
    → told_by (steps ++ Reported time false ∷ []) ≡ told_by steps
told_by-report [] time = refl
told_by-report (Logged m n ∷ steps) time = ap (λ l. Saw m ∷ l) (told_by-report steps time)
told_by-report (Reported at true ∷ steps) time = ap (λ l. Cut at ∷ l) (told_by-report steps time)
told_by-report (Reported at false ∷ steps) time = told_by-report steps time

-- so many ends
pub length-ends_from : (first size n : ℕ) → length (ends_from first size n) ≡ n
length-ends_from first size zero = refl
length-ends_from first size (suc n) = ap (λ k. suc k) (length-ends_from (first + size) size n)

-- the last time at which an end would be crossed
pub reach_of : Moment → ℕ
reach_of moment = if moment.is_pull then moment.at - 1 else moment.at

-- a pull reaches the ends before its time
reaches_pull : (at end : ℕ) → 0 < end → crosses (record { at = at; is_pull = true }) end ≡ nat_le end (at - 1)
reaches_pull at end some = grind (arith, nat_tests)

-- another frame reaches those up to its time
reaches_frame : (at end : ℕ) → 0 < end → crosses (record { at = at; is_pull = false }) end ≡ nat_le end at
reaches_frame at end some = grind (arith, nat_tests)

-- what a frame reaches, by cases
reaches_by : (at : ℕ) (is_pull : Bool) (end : ℕ) → 0 < end
    → crosses (record { at = at; is_pull = is_pull }) end ≡ nat_le end (if is_pull then at - 1 else at)
reaches_by at true end some = reaches_pull at end some
reaches_by at false end some = reaches_frame at end some

-- a frame crosses the ends that it reaches
pub reaches : (moment : Moment) (end : ℕ) → 0 < end → crosses moment end ≡ nat_le end (reach_of moment)
unfolding reach_of
reaches moment end some = reaches_by moment.at moment.is_pull end some

-- no frame reaches past its time, by cases
reach_by : (at : ℕ) (is_pull : Bool) → (if is_pull then at - 1 else at) ≤ at
reach_by at true = omega arith
reach_by at false = omega arith

-- a frame that reaches less than an end is not past it, by cases
short_by : (at : ℕ) (is_pull : Bool) (end : ℕ) → (if is_pull then at - 1 else at) < end → at ≤ end
short_by at true end short = omega (arith, short)
short_by at false end short = omega (arith, short)

-- no frame reaches past its time
pub reach-le : (moment : Moment) → reach_of moment ≤ moment.at
unfolding reach_of
reach-le moment = reach_by moment.at moment.is_pull

-- a frame that reaches less than an end is not past it
pub short : (moment : Moment) (end : ℕ) → reach_of moment < end → moment.at ≤ end
unfolding reach_of
short moment end lt = short_by moment.at moment.is_pull end lt

-- without buckets no end is crossed
pub no_ends : (base size : ℕ) (before : List Moment) (moment : Moment) → size ≤ 0
    → ends_at base size before moment ≡ []
no_ends base size before moment none =
    let none : 0 ≡ size = omega (arith, none) in subst (λ n. ends_at base n before moment ≡ []) none refl

-- there are buckets
pub some_size : (size : ℕ) → 0 < size → nat_lt 0 size ≡ true
some_size size some = grind (arith, nat_tests)

-- there are none
pub no_size : (size : ℕ) → size ≤ 0 → nat_lt 0 size ≡ false
no_size size none = grind (arith, nat_tests)
