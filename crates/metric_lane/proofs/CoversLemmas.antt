-- Which frames cover which, and which frame stands for a run with one more, for callers.
use Rattle.std.proofs.Common.{⊎_elim, ◌⊎◌, inl, inr, ◌≤◌, ◌||◌, not, nat_lt, if◌then◌else◌, sym, subst, ◌≡◌, ℕ, ◌<◌, Bool, true, false, List, [], ◌∷◌, ◌++◌, refl, arith, append_assoc, append-nil}
use Rattle.std.specs.List.{AllByRecursion}
use Rattle.std.proofs.lemmas.Bool.{cases_Bool, cases_lt}
use Rattle.std.proofs.lemmas.Bool.Decides.{nat_tests}
use Rattle.bucket_meaning.specs.Ends.{Moment, crosses}
use Rattle.bucket_clock.specs.Clock.{frame_at}
use Rattle.metric_lane.specs.LaneJoining.{Covers, IsCoveredBy, StandsForRun, with_frame}

-- a frame at a time, by cases of what both are
crosses_by : (at time end : ℕ) (pull other : Bool) → at < time → crosses (frame_at at pull) end ≡ true
    → crosses (frame_at time other) end ≡ true
crosses_by at time end true true later is = grind (arith, nat_tests)
crosses_by at time end true false later is = grind (arith, nat_tests)
crosses_by at time end false true later is = grind (arith, nat_tests)
crosses_by at time end false false later is = grind (arith, nat_tests)

same_by : (at end : ℕ) (pull : Bool) → crosses (frame_at at pull) end ≡ true → crosses (frame_at at false) end ≡ true
same_by at end true is = grind (arith, nat_tests)
same_by at end false is = is

-- a frame covers each that came before its time
pub covers_earlier : (earlier later : Moment) → earlier.at < later.at → Covers earlier later
covers_earlier earlier later before = record {
  not_sooner = omega (arith, before);
  crosses_all = λ end is. crosses_by earlier.at later.at end earlier.is_pull later.is_pull before is;
}

-- one that is no pull covers each at its time
pub covers_same : (at : ℕ) (pull : Bool) → Covers (frame_at at pull) (frame_at at false)
covers_same at pull = record { not_sooner = omega arith; crosses_all = λ end is. same_by at end pull is }

-- each covers itself
pub covers_itself : (frame : Moment) → Covers frame frame
covers_itself frame = record { not_sooner = omega arith; crosses_all = λ end is. is }

-- and what is covered by one that is covered
pub covers_further : (first second third : Moment) → Covers first second → Covers second third → Covers first third
covers_further first second third one other =
    let sooner = one.not_sooner in
    let later = other.not_sooner in
    record {
      not_sooner = omega (arith, sooner, later);
      crosses_all = λ end is. other.crosses_all end (one.crosses_all end is);
    }

-- all of a run and one more
all_push : (P : Moment → Type 0) (run : List Moment) (next : Moment) → AllByRecursion P run → P next
    → AllByRecursion P (run ++ next ∷ [])
all_push P [] next all here = (here, tt)
all_push P (first ∷ run) next all here = (all.0, all_push P run next all.1 here)

-- what is covered by one is covered by another that covers it
all_further : (moment next : Moment) (run : List Moment) → Covers moment next
    → AllByRecursion (λ frame. Covers frame moment) run → AllByRecursion (λ frame. Covers frame next) run
all_further moment next [] covers all = tt
all_further moment next (first ∷ run) covers all =
    (covers_further first moment next all.0 covers, all_further moment next run covers all.1)

-- a frame that one of these covers is covered by one of these and more
covered_more : (frames more : List Moment) (moment : Moment) → IsCoveredBy frames moment
    → IsCoveredBy (frames ++ more) moment
covered_more [] more moment covered = absurd covered
covered_more (frame ∷ frames) more moment covered = ⊎_elim
    (λ (covers : Covers moment frame). inl covers)
    (λ (behind : IsCoveredBy frames moment). inr (covered_more frames more moment behind))
    covered

-- the last of some frames is covered by one of them
covered_last : (frames : List Moment) (moment : Moment) → IsCoveredBy (frames ++ moment ∷ []) moment
covered_last [] moment = inl (covers_itself moment)
covered_last (frame ∷ frames) moment = inr (covered_last frames moment)

-- a frame that isn't after the base stands for the empty run, where no frame came
pub stands_for_none : (base : ℕ) (moment : Moment) → moment.at ≤ base → StandsForRun base [] [] moment
stands_for_none base moment early = record { covers_all = tt; is_covered = inl early }

module _ (base : ℕ) (came run : List Moment) (moment : Moment) (stands : StandsForRun base came run moment) where
  -- once the run has come, it stands for the empty run after it
  pub stands_caught : StandsForRun base (came ++ run) [] moment
  stands_caught = record {
    covers_all = tt;
    is_covered = subst (λ l. (moment.at ≤ base) ⊎ IsCoveredBy l moment) (sym (append-nil (came ++ run)))
        stands.is_covered;
  }

  module _ (next : Moment) where
    -- a frame more stands for the run with it, if it covers the one that stood for the run
    stands_next : Covers moment next → StandsForRun base came (run ++ next ∷ []) next
    stands_next covers = record {
      covers_all = all_push (λ frame. Covers frame next) run next (all_further moment next run covers stands.covers_all)
          (covers_itself next);
      is_covered = inr (subst (λ l. IsCoveredBy l next) (append_assoc came run (next ∷ []))
          (covered_last (came ++ run) next));
    }

    -- and the one that stood for the run stands for it with one more that it covers
    stands_still : Covers next moment → StandsForRun base came (run ++ next ∷ []) moment
    stands_still covers = record {
      covers_all = all_push (λ frame. Covers frame moment) run next stands.covers_all covers;
      is_covered = ⊎_elim
          (λ (early : moment.at ≤ base). inl early)
          (λ (covered : IsCoveredBy (came ++ run) moment).
          inr (subst (λ l. IsCoveredBy l moment) (append_assoc came run (next ∷ []))
          (covered_more (came ++ run) (next ∷ []) moment covered)))
          stands.is_covered;
    }

-- a frame that is no pull covers one at its time, by what both are
covers_by : (at time : ℕ) (pull other : Bool) → at ≡ time → other ≡ false
    → Covers (frame_at at pull) (frame_at time other)
covers_by at time pull other same no_pull =
    subst (λ t. Covers (frame_at at pull) (frame_at t other)) same
    (subst (λ b. Covers (frame_at at pull) (frame_at at b)) (sym no_pull) (covers_same at pull))

-- and each covers a pull at its time
covers_pull : (at time : ℕ) (pull other : Bool) → time ≡ at → other ≡ true
    → Covers (frame_at time other) (frame_at at pull)
covers_pull at time false other same is_pull = covers_by time at other false same refl
covers_pull at time true other same is_pull =
    subst (λ t. Covers (frame_at time other) (frame_at t true)) same
    (subst (λ b. Covers (frame_at time other) (frame_at time b)) is_pull (covers_itself (frame_at time other)))

-- which frame stands for a run with one more
pub stands_pushed : (base : ℕ) (came run : List Moment) (moment next : Moment) → moment.at ≤ next.at
    → StandsForRun base came run moment → StandsForRun base came (run ++ next ∷ []) (with_frame moment next)
stands_pushed base came run moment next later stands =
    let all = run ++ next ∷ [] in
    let chosen : Bool → Moment = λ b. if b then next else moment in
    ⊎_elim
    (λ (after : moment.at < next.at).
    let test : (nat_lt moment.at next.at || not next.is_pull) ≡ true = grind (arith, nat_tests) in
    subst (λ b. StandsForRun base came all (chosen b)) (sym test)
    (stands_next base came run moment stands next (covers_earlier moment next after)))
    (λ (not_after : next.at ≤ moment.at).
    let same : moment.at ≡ next.at = omega (arith, later, not_after) in
    ⊎_elim
    (λ (pull : next.is_pull ≡ true).
    let test : (nat_lt moment.at next.at || not next.is_pull) ≡ false = grind (arith, nat_tests) in
    subst (λ b. StandsForRun base came all (chosen b)) (sym test)
    (stands_still base came run moment stands next
    (covers_pull moment.at next.at moment.is_pull next.is_pull (sym same) pull)))
    (λ (no_pull : next.is_pull ≡ false).
    let test : (nat_lt moment.at next.at || not next.is_pull) ≡ true = grind (arith, nat_tests) in
    subst (λ b. StandsForRun base came all (chosen b)) (sym test)
    (stands_next base came run moment stands next
    (covers_by moment.at next.at moment.is_pull next.is_pull same no_pull)))
    (cases_Bool next.is_pull))
    (cases_lt moment.at next.at)

-- and which one stands for the empty run after one more frame that has come
pub stands_seen : (base : ℕ) (came : List Moment) (moment next : Moment) → StandsForRun base came [] moment
    → moment.at ≤ next.at → StandsForRun base (came ++ next ∷ []) [] (with_frame moment next)
stands_seen base came moment next stands later =
    stands_caught base came (next ∷ []) (with_frame moment next)
    (stands_pushed base came [] moment next later stands)

-- worked cases: a frame at an end covers a pull there, which doesn't cover the frame: it leaves the end
not_by_a_pull : ¬ Covers (frame_at 10 false) (frame_at 10 true)
not_by_a_pull covers = absurd (false_true (covers.crosses_all 10 refl))
  where
    false_true : false ≡ true → ⊥
    false_true same = grind (arith, same)

-- the frame that stands so far, with the next ones
stands_at_an_end : with_frame (with_frame (with_frame (frame_at 7 true) (frame_at 10 false)) (frame_at 10 true))
    (frame_at 10 true) ≡ frame_at 10 false
stands_at_an_end = refl

-- of a frame before an end, a frame at it and two pulls there the second stands for all
run_at_an_end : StandsForRun 0 [] (frame_at 7 true ∷ frame_at 10 false ∷ frame_at 10 true ∷ frame_at 10 true ∷ [])
    (frame_at 10 false)
run_at_an_end = record {
  covers_all = (
    covers_earlier (frame_at 7 true) (frame_at 10 false) (omega arith),
    (covers_itself (frame_at 10 false), (covers_same 10 true, (covers_same 10 true, tt))),
  );
  is_covered = inr (inr (inl (covers_itself (frame_at 10 false))));
}

-- after a tick that came, a pull at its time is stood for by the tick
pull_after_a_tick : StandsForRun 0 (frame_at 10 false ∷ []) (frame_at 10 true ∷ []) (frame_at 10 false)
pull_after_a_tick = record {
  covers_all = (covers_same 10 true, tt);
  is_covered = inr (inl (covers_itself (frame_at 10 false)));
}

-- a frame before the base stands for the empty run, and a pull at the base, which has come, takes its place
before_the_base : StandsForRun 20 (frame_at 20 true ∷ []) [] (with_frame (frame_at 10 false) (frame_at 20 true))
before_the_base =
    stands_seen 20 [] (frame_at 10 false) (frame_at 20 true) (stands_for_none 20 (frame_at 10 false) (omega arith))
    (omega arith)

-- a pull doesn't stand for a run with a tick at its time
not_for_a_tick : ¬ StandsForRun 0 [] (frame_at 10 false ∷ []) (frame_at 10 true)
not_for_a_tick stands = not_by_a_pull stands.covers_all.0

-- nor does a frame after the base for a run before it, though it covers the run: it crosses more
not_from_later : ¬ StandsForRun 5 [] (frame_at 7 false ∷ []) (frame_at 10 false)
not_from_later stands = ⊎_elim
    (λ (early : 10 ≤ 5). absurd (omega (arith, early)))
    (λ (covered : IsCoveredBy (frame_at 7 false ∷ []) (frame_at 10 false)). ⊎_elim
    (λ (covers : Covers (frame_at 10 false) (frame_at 7 false)).
    let sooner = covers.not_sooner in absurd (omega (arith, sooner)))
    (λ (none : ⊥). absurd none)
    covered)
    stands.is_covered
