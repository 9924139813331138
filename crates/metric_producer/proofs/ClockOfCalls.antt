-- After all calls that are admitted a clock knows their crossings and cuts, and its answers are their crossings.
use Rattle.std.proofs.Common.{if◌then◌else◌, ◌≡◌, ℕ, suc, ◌+◌, ◌-◌, ◌*◌, ◌/◌, ◌<◌, ◌≤◌, false, List, [], ◌∷◌, ◌++◌, Option, Some, None, nat_le, refl, sym, ap, subst, ◌∙◌, arith, append_assoc}
use Rattle.std.proofs.lemmas.Bool.Decides.{nat_tests}
use Rattle.std.proofs.lemmas.List.{append-nil}
use Rattle.std.proofs.Math.Nat.{mul-div_cancel}
use Rattle.bucket_meaning.specs.Ends.{Moment, crosses, ends_from}
use Rattle.bucket_clock.specs.declared.crossings.Crossings.{Crossings}
use Rattle.bucket_clock.specs.Sound.{Times, times}
use Rattle.bucket_clock.specs.Clock.{Told, Saw, Cut, frame_at, boundaries, boundaries_at, last_time, ClockStandsFor, Answers, ends_of, last_end}
use Rattle.bucket_clock.proofs.ClockLemmas.{some_made, cut_made}
use Rattle.metric_producer.specs.Calls.{Call, Got, Learned, Crossed, CutAt, Took, Demands, Standing, standing_from, standing_of, first_standing, clock_at, crossed_to}
use Rattle.metric_producer.specs.Rules.{IsAnswer, IsAdmitted, AreAdmitted}
use Rattle.metric_producer.specs.LaneCalls.{told_of, crossing, crossing_of, handed_on}
use Rattle.metric_producer.proofs.RuleLemmas.{MayComeAll, may_come}
use Rattle.metric_producer.proofs.LaneReach.{length-ends_from}

-- a frame crosses the ends up to its time
crosses_at : (at end : ℕ) → 0 < end → crosses (frame_at at false) end ≡ nat_le end at
crosses_at at end some = grind (arith, nat_tests)

module _ {Event After : Type 0} (demands : Demands Event After) (sized : 0 < demands.size) where
  -- what every standing of admitted calls keeps
  pub record IsWithin (standing : Standing) : Type 0 where
    pub from_start : standing.start ≤ standing.last
    pub to_end : standing.last ≤ standing.next_end
    pub some_end : 0 < standing.next_end
    pub bucket : standing.next_end ≤ standing.start + demands.size

  -- a crossing is what the clock answers to a frame at its last end
  pub crossed_by : (standing : Standing) (crossings : Crossings) (told : List Told) → IsWithin standing
      → IsAnswer demands standing crossings
      → ClockStandsFor (clock_at demands standing) told
      → (ends_of (Some crossings) ≡ boundaries_at demands.base demands.size told
      (Saw (frame_at (last_end crossings) false)))
      × ClockStandsFor (clock_at demands (crossed_to demands standing crossings))
      (told ++ Saw (frame_at (last_end crossings) false) ∷ [])
  crossed_by standing crossings told within may stands =
      let n = crossings.full_buckets in
      let first : crossings.first_end ≡ standing.next_end = may.answer.first_end in
      let size : crossings.size ≡ demands.size = may.answer.size in
      let last_is : last_end crossings ≡ standing.next_end + n * demands.size = ap (λ e. e + n * crossings.size) first
      ∙ ap (λ k. standing.next_end + n * k) size in
      let count : (last_end crossings - standing.next_end) / demands.size ≡ n =
      ap (λ k. k / demands.size) (omega (arith, last_is)) ∙ mul-div_cancel n sized in
      let long : standing.next_end ≤ last_end crossings = omega (arith, last_is) in
      let made = some_made (clock_at demands standing) (frame_at (last_end crossings) false) sized within.bucket
      (omega (arith, within.from_start, within.to_end, long)) (last_end crossings) within.some_end
      (crosses_at (last_end crossings)) long told stands in
      let end_is : standing.next_end + ((last_end crossings - standing.next_end) / demands.size) * demands.size
      ≡ last_end crossings =
      ap (λ k. standing.next_end + k * demands.size) count ∙ sym last_is in
      let next_is : (standing.next_end +
      ((last_end crossings - standing.next_end) / demands.size) * demands.size) + demands.size
      ≡ last_end crossings + crossings.size =
      ap (λ k. k + demands.size) end_is ∙ ap (λ k. last_end crossings + k) (sym size) in (
        ap (λ k. ends_from k crossings.size (suc n)) first ∙ ap (λ k. ends_from standing.next_end k (suc n)) size
            ∙ ap (λ k. ends_from standing.next_end demands.size (suc k)) (sym count) ∙ made.0,
        subst (λ start. ClockStandsFor (times demands.base demands.size start (last_end crossings + crossings.size))
            (told ++ Saw (frame_at (last_end crossings) false) ∷ [])) end_is
            (subst (λ end. ClockStandsFor (times demands.base demands.size
            (standing.next_end + ((last_end crossings - standing.next_end) / demands.size) * demands.size) end)
            (told ++ Saw (frame_at (last_end crossings) false) ∷ [])) next_is made.1),
      )

  -- such a clock was told of these calls, and the standing keeps what it has to
  pub record ClockKnows (standing : Standing) (told : List Told) : Type 0 where
    pub within : IsWithin standing
    pub stands : ClockStandsFor (clock_at demands standing) told

  -- such a clock knows further calls that may come
  clock_from : (calls : List (Call Event After)) (standing : Standing) (told : List Told)
      → ClockKnows standing told → MayComeAll demands standing calls
      → ClockKnows (standing_from demands standing calls) (told ++ told_of calls)
  clock_from [] standing told known may = subst (λ l. ClockKnows standing l) (sym (append-nil told)) known
  clock_from (Got at event ∷ calls) standing told known may =
      clock_from calls (record standing { last = at; owed = if demands.is_paired then Some at else None }) told
      (record {
        within = record {
          from_start = may.0.timely.from_start;
          to_end = may.0.timely.in_bucket sized;
          some_end = known.within.some_end;
          bucket = known.within.bucket;
        };
        stands = known.stands;
      }) may.1
  clock_from (Learned at now ∷ calls) standing told known may =
      clock_from calls (record standing { last = at; owed = None }) told
      (record {
        within = record {
          from_start = may.0.timely.from_start;
          to_end = may.0.timely.in_bucket sized;
          some_end = known.within.some_end;
          bucket = known.within.bucket;
        };
        stands = known.stands;
      }) may.1
  clock_from (Crossed crossings ∷ calls) standing told known may =
      let size : crossings.size ≡ demands.size = may.0.answer.size in
      let made = crossed_by standing crossings told known.within may.0 known.stands in
      subst (λ l. ClockKnows (standing_from demands (crossed_to demands standing crossings) calls) l)
      (append_assoc told (Saw (frame_at (last_end crossings) false) ∷ []) (told_of calls))
      (clock_from calls (crossed_to demands standing crossings)
      (told ++ Saw (frame_at (last_end crossings) false) ∷ [])
      (record {
        within = record {
          from_start = omega arith;
          to_end = omega arith;
          some_end = omega (arith, sized, size);
          bucket = omega (arith, size);
        };
        stands = made.1;
      }) may.1)
  clock_from (CutAt at ∷ calls) standing told known may =
      let next : Standing = record standing { start = at; last = at } in
      let bucket : next.next_end ≤ next.start + demands.size =
      omega (arith, may.0.timely.from_start, known.within.bucket) in
      let start : next.start ≤ next.last = omega arith in
      subst (λ l. ClockKnows (standing_from demands next calls) l) (append_assoc told (Cut at ∷ []) (told_of calls))
      (clock_from calls next (told ++ Cut at ∷ [])
      (record {
        within = record {
          from_start = start;
          to_end = may.0.timely.in_bucket sized;
          some_end = known.within.some_end;
          bucket = bucket;
        };
        stands = (cut_made (clock_at demands standing) at told known.stands).1;
      }) may.1)
  clock_from (Took ∷ calls) standing told known may = clock_from calls standing told known may.1

  -- and it knows that there was none
  first_clock : ClockKnows (first_standing demands) []
  first_clock = record {
    within = record {
      from_start = omega arith;
      to_end = omega arith;
      some_end = omega (arith, sized);
      bucket = omega arith;
    };
    stands = record {
      start = refl;
      next_end = record {
        passed = 0;
        at = omega arith;
        uncrossed = refl;
        crossed = λ i within. absurd (omega (arith, within));
      };
    };
  }

  -- after admitted calls there is a clock that was told of the same crossings and cuts
  pub a_clock : (calls : List (Call Event After)) → AreAdmitted demands [] calls
      → ClockKnows (standing_of demands calls) (told_of calls)
  a_clock calls all = clock_from calls (first_standing demands) [] first_clock (may_come demands [] calls all)

  -- a crossing that may come next is what that clock answers to the next frame that crosses an end
  pub is_answer : (calls : List (Call Event After)) (crossings : Crossings)
      → AreAdmitted demands [] calls
      → IsAdmitted demands calls (Crossed crossings)
      → ends_of (Some crossings) ≡ boundaries_at demands.base demands.size (told_of calls)
      (Saw (frame_at (last_end crossings) false))
  is_answer calls crossings all may = (crossed_by (standing_of demands calls) crossings (told_of calls)
      (a_clock calls all).within may.0 (a_clock calls all).stands).0

-- what a clock answers is the crossing that the definition names
pub handed_on_is : {Event After : Type 0} (old new : Times) (told : List Told) (moment : Moment)
    (answer : Option Crossings) → ClockStandsFor old told → Answers old moment answer new
    → ends_of answer ≡ boundaries_at old.base old.size told (Saw moment)
    → let calls : List (Call Event After) = handed_on answer in calls ≡ crossing old.base old.size told moment
handed_on_is old new told moment None stands answers made =
    ap (λ ends. crossing_of (last_time old.base (boundaries old.base old.size told)) old.size ends) made
handed_on_is old new told moment (Some crossings) stands answers made =
    ap (λ n. Crossed (record {
      start = crossings.start;
      first_end = crossings.first_end;
      full_buckets = n;
      size = crossings.size;
    }) ∷ [])
    (sym (length-ends_from (crossings.first_end + crossings.size) crossings.size crossings.full_buckets))
    ∙ ap (λ start. crossing_of start crossings.size (ends_of (Some crossings))) (answers.start ∙ stands.start)
    ∙ ap (λ size. crossing_of (last_time old.base (boundaries old.base old.size told)) size
    (ends_of (Some crossings))) answers.size
    ∙ ap (λ ends. crossing_of (last_time old.base (boundaries old.base old.size told)) old.size ends) made
