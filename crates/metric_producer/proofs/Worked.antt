-- Worked cases of the definitions, by computing.
use Rattle.std.proofs.Common.{◌≡◌, ℕ, ◌==◌, Bool, true, false, not, if◌then◌else◌, List, [], ◌∷◌, ◌++◌, refl, Option, Some, None, arith}
use Rattle.bucket_clock.specs.declared.crossings.Crossings.{Crossings}
use Rattle.bucket_clock.specs.Clock.{ends_of}
use Rattle.metric_producer.specs.Joining.{IsJoined}
use Rattle.metric_producer.specs.Calls.{Call, Got, Learned, Crossed, CutAt, Took, Demands, standing_of}
use Rattle.metric_producer.specs.Rules.{IsAdmitted}
use Rattle.metric_producer.specs.LaneCalls.{LaneStep, Logged, Reported, calls_of, event_asks, event_demands}

-- the calls of these cases, whose events are numbers
abbrev Calls : Type 0
Calls = List (Call ℕ (Unit {0}))

-- buckets of 10 from 3 on
abbrev in_buckets : Demands ℕ (Unit {0})
in_buckets = event_demands 3 10

-- a cut within the first bucket, an arrival at its end, a cut there, and a frame that crosses that end and two more
-- after all
abbrev calls : Calls
calls =
    Got 5 7 ∷ CutAt 7 ∷ Got 13 7 ∷ CutAt 13
    ∷ Crossed (record { start = 13; first_end = 13; full_buckets = 2; size = 10 }) ∷ Took ∷ []

far : standing_of in_buckets calls ≡ record { start = 33; next_end = 43; last = 33; owed = None }
far = refl

-- an arrival at the full end may come, but none past it, and none before the last time
at_end : IsAdmitted in_buckets calls (Got 43 7)
at_end = (
  record {
    timely = record {
      not_before = omega arith;
      from_start = omega arith;
      in_bucket = λ sized. omega arith;
      fits = omega arith;
    };
    taken = refl;
    settled = refl;
  },
  tt,
)

not_past : ¬ IsAdmitted in_buckets calls (Got 44 7)
not_past may = absurd (omega (arith, may.0.timely.in_bucket (omega arith)))

not_before : ¬ IsAdmitted in_buckets calls (Got 32 7)
not_before may = absurd (omega (arith, may.0.timely.not_before))

-- what a clock answers next may come, and nothing else
next_end : IsAdmitted in_buckets calls (Crossed (record { start = 33; first_end = 43; full_buckets = 0; size = 10 }))
next_end = (
  record {
    sized = omega arith;
    moment = record { at = 45; is_pull = false };
    not_before = omega arith;
    fits = omega arith;
    answer = record { start = refl; first_end = refl; size = refl; reached = refl; beyond = refl; moved = refl };
    settled = refl;
  },
  tt,
)

not_later : ¬ IsAdmitted in_buckets calls (Crossed (record { start = 33; first_end = 53; full_buckets = 0; size = 10 }))
not_later may = absurd (omega (arith, may.0.answer.first_end))

-- where a condition has to follow each event, it comes next and at the same time
abbrev in_pairs : Demands ℕ (Unit {0})
in_pairs = record { base = 0; size = 0; is_paired = true; takes = λ event. event == 2; tells = λ calls now. true }

abbrev one_event : Calls
one_event = Got 5 2 ∷ []

abbrev learned_at : ℕ → Call ℕ (Unit {0})
learned_at at = Learned at tt

followed : IsAdmitted in_pairs one_event (learned_at 5)
followed = (
  record {
    timely = record {
      not_before = omega arith;
      from_start = omega arith;
      in_bucket = λ sized. absurd (omega (arith, sized));
      fits = omega arith;
    };
    owed = refl;
  },
  refl,
)

not_at_another_time : ¬ IsAdmitted in_pairs one_event (learned_at 6)
not_at_another_time may = absurd (omega (arith, may.0.owed))

not_by_an_event : ¬ IsAdmitted in_pairs one_event (Got 5 2)
not_by_an_event may = absurd (some_none may.0.settled)
  where
    some_none : {at : ℕ} → Some at ≡ None → ⊥
    some_none same = grind (arith, same)

-- an event that the producer doesn't take may not come
not_another_event : ¬ IsAdmitted in_pairs (one_event ++ learned_at 5 ∷ []) (Got 5 3)
not_another_event may = absurd (false_true may.0.taken)
  where
    false_true : false ≡ true → ⊥
    false_true same = grind (arith, same)

-- without buckets there is no cut
abbrev no_call : Calls
no_call = []

no_cut : ¬ IsAdmitted in_pairs no_call (CutAt 5)
no_cut may = absurd (omega (arith, may.0.sized))

-- the steps of these cases
abbrev Steps : Type 0
Steps = List (LaneStep (Option ℕ))

abbrev frame : ℕ → Option ℕ → LaneStep (Option ℕ)
frame at event = Logged (record { at = at; is_pull = false }) event

abbrev pull : ℕ → LaneStep (Option ℕ)
pull at = Logged (record { at = at; is_pull = true }) None

-- a pull at the full end crosses nothing, the report there cuts, and the next frame there crosses the end after all
abbrev steps : Steps
steps =
    frame 5 (Some 7) ∷ pull 13 ∷ Reported 13 true ∷ frame 13 (Some 7) ∷ Reported 13 false ∷ frame 34 None ∷ []

abbrev in_order : Calls
in_order =
    Got 5 7 ∷ CutAt 13 ∷ Took ∷ Crossed (record { start = 13; first_end = 13; full_buckets = 0; size = 10 })
    ∷ Got 13 7 ∷ Took ∷ Crossed (record { start = 13; first_end = 23; full_buckets = 1; size = 10 }) ∷ []

made : calls_of in_buckets event_asks steps ≡ in_order
made = refl

-- without buckets there is no crossing and no cut
abbrev without : Calls
without = Got 5 7 ∷ Took ∷ []

made_without : calls_of (event_demands 3 0) event_asks (frame 5 (Some 7) ∷ frame 34 None ∷ Reported 34 true ∷ [])
    ≡ without
made_without = refl

-- A producer that is told changes: a truth is told that isn't the one that was told last, and the first is true.
abbrev last_truth : Bool → List (Call ℕ Bool) → Bool
last_truth truth [] = truth
last_truth truth (Learned at now ∷ calls) = last_truth now calls
last_truth truth (_ ∷ calls) = last_truth truth calls

abbrev changes : Demands ℕ Bool
changes = record {
  base = 0;
  size = 0;
  is_paired = false;
  takes = λ event. true;
  tells = λ calls now. if last_truth false calls then not now else now;
}

abbrev began : List (Call ℕ Bool)
began = Got 5 7 ∷ Learned 5 true ∷ []

-- an end may be told after a beginning, but no second beginning
ended : IsAdmitted changes began (Learned 6 false)
ended = (
  record {
    timely = record {
      not_before = omega arith;
      from_start = omega arith;
      in_bucket = λ sized. absurd (omega (arith, sized));
      fits = omega arith;
    };
    owed = tt;
  },
  refl,
)

begun_again : ¬ IsAdmitted changes began (Learned 6 true)
begun_again may = absurd (false_true may.1)
  where
    false_true : false ≡ true → ⊥
    false_true same = grind (arith, same)

-- A crossing of 13, and one of 23, 33 and 43 after it, are one of all four; one that leaves an end out isn't.
abbrev to_13 : Crossings
to_13 = record { start = 3; first_end = 13; full_buckets = 0; size = 10 }

abbrev from_13_to_43 : Crossings
from_13_to_43 = record { start = 13; first_end = 23; full_buckets = 2; size = 10 }

abbrev to_43 : Crossings
to_43 = record { start = 3; first_end = 13; full_buckets = 3; size = 10 }

both : IsJoined to_13 from_13_to_43 to_43
both = record {
  follows = refl;
  next_end = refl;
  same_size = refl;
  start = refl;
  first_end = refl;
  size = refl;
  full_buckets = refl;
}

ends_of_both : ends_of (Some to_43) ≡ ends_of (Some to_13) ++ ends_of (Some from_13_to_43)
ends_of_both = refl

not_without_23 : ¬ IsJoined to_13 (record from_13_to_43 { first_end = 33 }) to_43
not_without_23 made = absurd (omega (arith, made.next_end))
