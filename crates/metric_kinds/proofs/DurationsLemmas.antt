-- How the time of a key that is on grows: lemmas on `specs/Durations.antt`, for the producer of the longest.
use Rattle.std.proofs.Common.{◌≡◌, ℕ, ◌+◌, ◌-◌, Bool, true, false, not, if◌then◌else◌, cond, List, [], ◌∷◌, ◌++◌, reverse, length, drop, refl, ap, ◌∙◌, arith}
use Rattle.std.specs.List.{after_last, suffix_len, prefix_len}
use Rattle.std.proofs.lemmas.List.{length-append, reverse-append, drop_all, drop-append-le}
use Rattle.metric_kinds.specs.Runs.{time_so}
use Rattle.metric_kinds.specs.Durations.{KeyMoment, time_since_off}
use Rattle.metric_kinds.proofs.RunsLemmas.{time_so-push}

-- the elements at the end that pass no test, one more
no_suffix : {X : Type 0} (test : X → Bool) (xs : List X) (last : X) (passes : Bool) → test last ≡ passes
    → suffix_len (λ x. not (test x)) (xs ++ last ∷ [])
    ≡ (if passes then 0 else 1 + suffix_len (λ x. not (test x)) xs)
no_suffix {X} test xs last passes is =
    let other : X → Bool = λ x. not (test x) in
    ap (prefix_len other) (reverse-append xs (last ∷ []))
    ∙ ap (λ b. cond (not b) (1 + prefix_len other (reverse xs)) 0) is ∙ by_case passes (suffix_len other xs) where
      by_case : (passes : Bool) (n : ℕ) → cond (not passes) (1 + n) 0 ≡ (if passes then 0 else 1 + n)
      by_case true n = refl
      by_case false n = refl

-- what stands after the last that passes a test, one more: nothing if it passes, and else one more too
after_last-push : {X : Type 0} (test : X → Bool) (xs : List X) (last : X) (passes : Bool) → test last ≡ passes
    → after_last test (xs ++ last ∷ []) ≡ (if passes then [] else after_last test xs ++ last ∷ [])
after_last-push test xs last true is =
    drop_all (length (xs ++ last ∷ []) - suffix_len (λ x. not (test x)) (xs ++ last ∷ [])) (xs ++ last ∷ [])
    (omega (arith, no_suffix test xs last true is))
after_last-push {X} test xs last false is =
    let other : X → Bool = λ x. not (test x) in
    let behind = suffix_len other xs in
    let starts : length (xs ++ last ∷ []) - suffix_len other (xs ++ last ∷ []) ≡ length xs - behind =
    omega (arith, no_suffix test xs last false is, length-append xs (last ∷ [])) in
    ap (λ n. drop n (xs ++ last ∷ [])) starts
    ∙ drop-append-le (length xs - behind) xs (last ∷ []) (omega arith)

-- after a moment at which a key is off no time is counted
pub since_off-off : (moments : List KeyMoment) (now : KeyMoment) (end : ℕ) → now.is_on ≡ false
    → time_since_off (moments ++ now ∷ []) end ≡ 0
since_off-off moments now end off =
    ap (λ ms. time_so (λ (moment : KeyMoment). moment.at) (λ (moment : KeyMoment). moment.holds) ms end)
    (after_last-push (λ (moment : KeyMoment). not moment.is_on) moments now true (ap not off))

-- after one at which it is on, what lies between it and the end, if its condition is true, and all before
pub since_off-on : (moments : List KeyMoment) (now : KeyMoment) (end : ℕ) → now.is_on ≡ true
    → time_since_off (moments ++ now ∷ []) end
    ≡ time_since_off moments now.at + (if now.holds then end - now.at else 0)
since_off-on moments now end on =
    let off : KeyMoment → Bool = λ moment. not moment.is_on in
    ap (λ ms. time_so (λ (moment : KeyMoment). moment.at) (λ (moment : KeyMoment). moment.holds) ms end)
    (after_last-push off moments now false (ap not on))
    ∙ time_so-push (λ (moment : KeyMoment). moment.at) (λ (moment : KeyMoment). moment.holds)
    (after_last off moments) now end
