-- The ends that two frames cross one after the other are those that the later one crosses alone, if it covers the
-- other; and they are one bucket apart.
use Rattle.std.proofs.Common.{◌≡◌, ℕ, zero, suc, ◌+◌, ◌-◌, ◌*◌, ◌/◌, ◌<◌, ◌≤◌, Bool, true, false, not, ◌&&◌, ◌||◌, ◌==◌, cond, if◌then◌else◌, List, [], ◌∷◌, ◌++◌, length, filter, refl, sym, ap, ◌∙◌, arith, append-nil, ⊎_elim, div-mul-le_self}
use Rattle.std.specs.List.{list_any}
use Rattle.std.proofs.lemmas.Bool.{cases_Bool, cases_lt, false≢true}
use Rattle.std.proofs.lemmas.Bool.Decides.{nat_tests}
use Rattle.std.proofs.lemmas.List.Elements.{filter-append, filter_agree}
use Rattle.std.proofs.lemmas.List.Folds.{list_any-append}
use Rattle.std.proofs.lemmas.Nat.{le-div}
use Rattle.std.proofs.Math.Nat.{lt-div-mul-add}
use Rattle.bucket_meaning.specs.Ends.{Moment, crosses, ends_from, full_ends, ends_at}
use Rattle.bucket_meaning.proofs.EndsLemmas.{crosses-later, any_crosses-later, ends_from-split}
use Rattle.bucket_clock.specs.Clock.{last_time}
use Rattle.metric_producer.proofs.LaneReach.{no_ends}
use Rattle.metric_lane.specs.LaneJoining.{Covers}

-- a test that fails at all times after one at which it fails
abbrev Falls : (ℕ → Bool) → Type 0
Falls test = (end later : ℕ) → end ≤ later → test end ≡ false → test later ≡ false

-- the times that pass one test and not the other
abbrev passing : (ℕ → Bool) → (ℕ → Bool) → List ℕ → List ℕ
passing test other ends = filter (λ end. test end && not (other end)) ends

-- none do where the one fails at the first
none_pass : (test other : ℕ → Bool) → Falls test → (first size n : ℕ) → test first ≡ false
    → passing test other (ends_from first size n) ≡ []
none_pass test other falls first size zero fails = refl
none_pass test other falls first size (suc n) fails =
    ap (λ b. cond (b && not (other first)) (first ∷ passing test other (ends_from (first + size) size n))
    (passing test other (ends_from (first + size) size n))) fails
    ∙ none_pass test other falls (first + size) size n (falls first (first + size) (omega arith) fails)

-- one time more, by whether the earlier frame crosses it, the later does, and one before them did
one_more : (earlier later before : Bool) (end : ℕ) (all first second : List ℕ) → (earlier ≡ true → later ≡ true)
    → all ≡ first ++ second → (earlier ≡ false → first ≡ [])
    → cond (later && not before) (end ∷ all) all
    ≡ cond (earlier && not before) (end ∷ first) first ++ cond (later && not (before || earlier)) (end ∷ second) second
one_more true true true end all first second goes is none = is
one_more true true false end all first second goes is none = ap (λ ends. end ∷ ends) is
one_more true false before end all first second goes is none = absurd (false≢true (goes refl))
one_more false true true end all first second goes is none = is
one_more false true false end all first second goes is none =
    ap (λ ends. end ∷ ends) (is ∙ ap (λ ends. ends ++ second) (none refl))
    ∙ ap (λ ends. ends ++ (end ∷ second)) (sym (none refl))
one_more false false before end all first second goes is none = is

-- of these times those that the later test passes are those that the earlier one passes, and the others
parted : (earlier later before : ℕ → Bool) → Falls earlier → ((end : ℕ) → earlier end ≡ true → later end ≡ true)
    → (first size n : ℕ) → let ends = ends_from first size n in
    passing later before ends
    ≡ passing earlier before ends ++ passing later (λ end. before end || earlier end) ends
parted earlier later before falls goes first size zero = refl
parted earlier later before falls goes first size (suc n) =
    let ends = ends_from (first + size) size n in
    one_more (earlier first) (later first) (before first) first (passing later before ends)
    (passing earlier before ends) (passing later (λ end. before end || earlier end) ends) (goes first)
    (parted earlier later before falls goes (first + size) size n)
    (λ fails. none_pass earlier before falls (first + size) size n (falls first (first + size) (omega arith) fails))

-- Some ends are one bucket apart.
pub record AreApart (size : ℕ) (ends : List ℕ) : Type 0 where
  pub first : ℕ
  pub number : ℕ
  pub are : ends ≡ ends_from first size number

module _ (test other : ℕ → Bool) (falls : Falls test) (others_fall : Falls other) (size : ℕ) where
  -- from the first on that fails the other test, those that pass are one bucket apart
  record ApartFrom (first : ℕ) (ends : List ℕ) : Type 0 where
    number : ℕ
    are : ends ≡ ends_from first size number

  apart_here : (n first : ℕ) → other first ≡ false → ApartFrom first (passing test other (ends_from first size n))
  apart_here zero first fails = record { number = 0; are = refl }
  apart_here (suc n) first fails = ⊎_elim
      (λ (passes : test first ≡ true).
      let later = apart_here n (first + size) (others_fall first (first + size) (omega arith) fails) in
      let ends = passing test other (ends_from (first + size) size n) in
      record {
        number = suc later.number;
        are = ap (λ b. cond (b && not (other first)) (first ∷ ends) ends) passes
            ∙ ap (λ b. cond (not b) (first ∷ ends) ends) fails
            ∙ ap (λ l. first ∷ l) later.are;
      })
      (λ (stops : test first ≡ false).
      record { number = 0; are = none_pass test other falls first size (suc n) stops })
      (cases_Bool (test first))

  -- and so are those from any time on
  apart : (n first : ℕ) → AreApart size (passing test other (ends_from first size n))
  apart zero first = record { first = first; number = 0; are = refl }
  apart (suc n) first = ⊎_elim
      (λ (passed : other first ≡ true).
      let later = apart n (first + size) in
      let ends = passing test other (ends_from (first + size) size n) in
      record {
        first = later.first;
        number = later.number;
        are = skipped (test first) (other first) passed first ends ∙ later.are;
      })
      (λ (fails : other first ≡ false).
      let here = apart_here (suc n) first fails in
      record { first = first; number = here.number; are = here.are })
      (cases_Bool (other first))
    where
      skipped : (b c : Bool) → c ≡ true → (first : ℕ) (ends : List ℕ)
          → cond (b && not c) (first ∷ ends) ends ≡ ends
      skipped true c is first ends = ap (λ c. cond (not c) (first ∷ ends) ends) is
      skipped false c is first ends = refl

-- an end after a frame isn't crossed by it
pub beyond : (moment : Moment) (end : ℕ) → moment.at < end → crosses moment end ≡ false
beyond moment end after = grind (arith, nat_tests)

module _ (base size : ℕ) (sized : 0 < size) (other : ℕ → Bool) where
  -- what a frame crosses isn't more by looking at more times
  enough : (moment : Moment) (more : ℕ)
      → passing (crosses moment) other (ends_from (base + size) size ((moment.at - base) / size + more))
      ≡ passing (crosses moment) other (ends_from (base + size) size ((moment.at - base) / size))
  enough moment more =
      let n = (moment.at - base) / size in
      let test : ℕ → Bool = λ end. crosses moment end && not (other end) in
      let short : moment.at - base < n * size + size = lt-div-mul-add sized in
      let after : moment.at < (base + size) + n * size = omega (arith, short) in
      let rest = ends_from ((base + size) + n * size) size more in
      ap (filter test) (ends_from-split (base + size) size n more)
      ∙ filter-append test (ends_from (base + size) size n) rest
      ∙ ap (λ l. passing (crosses moment) other (ends_from (base + size) size n) ++ l)
      (none_pass (crosses moment) other (crosses-later moment) ((base + size) + n * size) size more
      (beyond moment ((base + size) + n * size) after))
      ∙ append-nil (passing (crosses moment) other (ends_from (base + size) size n))

-- where there are buckets, full ends are these
full_ends_are : (base size : ℕ) → 0 < size → (time : ℕ)
    → full_ends base size time ≡ ends_from (base + size) size ((time - base) / size)
full_ends_are base size sized time =
    let some_size : (size == 0) ≡ false = grind (arith, nat_tests) in
    ap (λ b. if b then [] else ends_from (base + size) size ((time - base) / size)) some_size

-- the frames before, as a test of an end
abbrev crossed_by : List Moment → ℕ → Bool
crossed_by before end = list_any (λ earlier. crosses earlier end) before

module _ (base size : ℕ) (before : List Moment) where
  -- what a frame crosses anew is one bucket apart
  pub ends_apart : (moment : Moment) → AreApart size (ends_at base size before moment)
  ends_apart moment = ⊎_elim
      (λ (sized : 0 < size).
      let is = apart (crosses moment) (crossed_by before) (crosses-later moment)
      (any_crosses-later before) size ((moment.at - base) / size) (base + size) in
      record {
        first = is.first;
        number = is.number;
        are = ap (passing (crosses moment) (crossed_by before)) (full_ends_are base size sized moment.at) ∙ is.are;
      })
      (λ (none : size ≤ 0).
      record { first = 0; number = 0; are = no_ends base size before moment none })
      (cases_lt 0 size)

  module _ (earlier later : Moment) where
    -- the frames before and one more
    one_before : (end : ℕ)
        → (crosses later end && not (crossed_by (before ++ earlier ∷ []) end))
        ≡ (crosses later end && not (crossed_by before end || crosses earlier end))
    one_before end =
        ap (λ b. crosses later end && not b) (list_any-append (λ m. crosses m end) before (earlier ∷ []))
        ∙ by (crossed_by before end) (crosses earlier end) (crosses later end)
      where
        by : (b c d : Bool) → (d && not (b || (c || false))) ≡ (d && not (b || c))
        by b true d = refl
        by b false d = refl

    -- the ends that a frame crosses are those that an earlier one crosses which it covers, and then its own
    pub ends_joined : Covers earlier later
        → ends_at base size before later
        ≡ ends_at base size before earlier ++ ends_at base size (before ++ earlier ∷ []) later
    ends_joined covers = ⊎_elim
        (λ (sized : 0 < size).
        let was = crossed_by before in
        let now : ℕ → Bool = λ end. was end || crosses earlier end in
        let n = (earlier.at - base) / size in
        let m = (later.at - base) / size in
        let all = ends_from (base + size) size m in
        let not_sooner = covers.not_sooner in
        let within : n * size ≤ earlier.at - base = div-mul-le_self (earlier.at - base) size in
        let fewer : n ≤ m = le-div n (later.at - base) size sized (omega (arith, within, not_sooner)) in
        let more : n + (m - n) ≡ m = omega (arith, fewer) in
        let first : passing (crosses earlier) was all ≡ ends_at base size before earlier =
        ap (λ k. passing (crosses earlier) was (ends_from (base + size) size k)) (sym more)
        ∙ enough base size sized was earlier (m - n)
        ∙ ap (passing (crosses earlier) was) (sym (full_ends_are base size sized earlier.at)) in
        let second : passing (crosses later) now all ≡ ends_at base size (before ++ earlier ∷ []) later =
        sym (filter_agree (λ end. crosses later end && not (crossed_by (before ++ earlier ∷ []) end))
        (λ end. crosses later end && not (now end)) one_before all)
        ∙ ap (passing (crosses later) (crossed_by (before ++ earlier ∷ [])))
        (sym (full_ends_are base size sized later.at)) in
        ap (passing (crosses later) was) (full_ends_are base size sized later.at)
        ∙ parted (crosses earlier) (crosses later) was (crosses-later earlier) covers.crosses_all (base + size) size m
        ∙ ap (λ l. l ++ passing (crosses later) now all) first
        ∙ ap (λ l. ends_at base size before earlier ++ l) second)
        (λ (none : size ≤ 0).
        no_ends base size before later none ∙ sym (no_ends base size (before ++ earlier ∷ []) later none)
        ∙ ap (λ l. l ++ ends_at base size (before ++ earlier ∷ []) later) (sym (no_ends base size before earlier none)))
        (cases_lt 0 size)

-- nothing passes a test that fails at each time after the base
none_after : (base : ℕ) (test : ℕ → Bool) → ((end : ℕ) → base < end → test end ≡ false) → (first size n : ℕ)
    → base < first → filter test (ends_from first size n) ≡ []
none_after base test fails first size zero after = refl
none_after base test fails first size (suc n) after =
    let later = filter test (ends_from (first + size) size n) in
    ap (λ b. cond b (first ∷ later) later) (fails first after)
    ∙ none_after base test fails (first + size) size n (omega (arith, after))

-- a frame crosses nothing where each end after the base that it crosses was crossed before
pub ends_none : (base size : ℕ) (before : List Moment) (moment : Moment)
    → ((end : ℕ) → base < end → crosses moment end ≡ true → list_any (λ earlier. crosses earlier end) before ≡ true)
    → ends_at base size before moment ≡ []
ends_none base size before moment were = ⊎_elim
    (λ (sized : 0 < size).
    ap (passing (crosses moment) (crossed_by before)) (full_ends_are base size sized moment.at)
    ∙ none_after base (λ end. crosses moment end && not (crossed_by before end))
    (λ end after. by (crossed_by before end) (crosses moment end) (were end after))
    (base + size) size ((moment.at - base) / size) (omega (arith, sized)))
    (λ (none : size ≤ 0). no_ends base size before moment none)
    (cases_lt 0 size)
  where
    by : (was now : Bool) → (now ≡ true → was ≡ true) → (now && not was) ≡ false
    by was false goes = refl
    by true true goes = refl
    by false true goes = sym (goes refl)

-- Some ends, and the next after them.
pub record GoOn (first : ℕ) (ends : List ℕ) (next size : ℕ) : Type 0 where
  pub last : last_time first ends ≡ first + length ends * size
  pub next_is : next ≡ (first + length ends * size) + size

first_is : (first size n end : ℕ) (ends : List ℕ) → ends_from first size n ≡ end ∷ ends → first ≡ end
first_is first size zero end ends is = absurd cc
first_is first size (suc n) end ends is = cc

-- ends that are one bucket apart go on so
pub go_on : (first size n end : ℕ) (ends : List ℕ) (next : ℕ) (later : List ℕ)
    → ends_from first size n ≡ end ∷ (ends ++ (next ∷ later)) → GoOn end ends next size
go_on first size zero end ends next later is = absurd cc
go_on first size (suc n) end [] next later is =
    let begins : first ≡ end = cc in
    let rest : ends_from (first + size) size n ≡ next ∷ later = cc in
    let goes = first_is (first + size) size n next later rest in
    record { last = omega arith; next_is = omega (arith, begins, goes) }
go_on first size (suc n) end (second ∷ ends) next later is =
    let begins : first ≡ end = cc in
    let rest : ends_from (first + size) size n ≡ second ∷ (ends ++ (next ∷ later)) = cc in
    let goes = first_is (first + size) size n second (ends ++ (next ∷ later)) rest in
    let on = go_on (first + size) size n second ends next later rest in
    let last = on.last in
    let next_end = on.next_is in
    record {
      last = omega (arith, begins, goes, last);
      next_is = omega (arith, begins, goes, next_end);
    }
