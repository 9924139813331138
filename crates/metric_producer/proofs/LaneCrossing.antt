-- What a frame crosses, and what a kind of metric asks at it, may come.
use Rattle.std.proofs.Common.{◌≡◌, ℕ, suc, ◌+◌, ◌-◌, ◌*◌, ◌/◌, ◌<◌, ◌≤◌, Bool, true, false, List, [], ◌∷◌, ◌++◌, Option, Some, None, if◌then◌else◌, refl, sym, ap, subst, ◌∙◌, arith, ⊎_elim}
use Rattle.std.proofs.lemmas.Bool.{cases_lt, le-leb, lt-leb}
use Rattle.std.proofs.Math.Nat.{div-mul-le_self, lt-div-mul-add}
use Rattle.bucket_meaning.specs.Limits.{time_limit}
use Rattle.bucket_meaning.specs.Ends.{Moment, ends_from}
use Rattle.bucket_clock.specs.Sound.{times}
use Rattle.bucket_clock.specs.Clock.{moments_told, boundaries, last_time, ClockStandsFor}
use Rattle.bucket_clock.proofs.ClockLemmas.{none_made, some_made}
use Rattle.metric_producer.specs.Calls.{Call, Got, Learned, Crossed, CutAt, Took, Demands, Standing, standing_from, clock_at}
use Rattle.metric_producer.specs.LaneCalls.{LaneStep, Logged, told_by, crossing, crossing_of, TellsNext, IsFollowed, AreAskedAt}
use Rattle.metric_producer.proofs.RuleLemmas.{MayComeAll}
use Rattle.metric_producer.proofs.LaneReach.{told_by-frame, length-ends_from, reach_of, reaches, reach-le, short, no_ends}

module _ {Event After : Type 0} (demands : Demands Event After) where
  -- what holds of the calls that these steps made
  pub record IsAlong {News : Type 0} (before : List (LaneStep News)) (last : ℕ) (standing : Standing) : Type 0 where
    pub settled : standing.owed ≡ None
    pub not_before : standing.last ≤ last
    pub from_start : standing.start ≤ last
    pub fits : last < time_limit
    pub in_bucket : 0 < demands.size → last ≤ standing.next_end
    pub some_end : 0 < demands.size → 0 < standing.next_end
    pub bucket : standing.next_end ≤ standing.start + demands.size
    pub stands : 0 < demands.size → ClockStandsFor (clock_at demands standing) (told_by before)

  -- these calls may come, and lead to a standing of which the same holds
  pub record Goes {News : Type 0} (before : List (LaneStep News)) (last : ℕ) (standing : Standing)
      (calls : List (Call Event After)) : Type 0 where
    pub may : MayComeAll demands standing calls
    pub along : IsAlong before last (standing_from demands standing calls)

  -- asked calls keep the part, and owe nothing in the end
  pub record HasAsked (start next_end at : ℕ) (standing : Standing) : Type 0 where
    pub start_is : standing.start ≡ start
    pub end_is : standing.next_end ≡ next_end
    pub not_before : standing.last ≤ at
    pub settled : standing.owed ≡ None

  -- the condition that is owed is told next, at the time of its event
  unfoldable pub Owes : Option ℕ → ℕ → List (Call Event After) → Type 0
  Owes None at calls = Unit {0}
  Owes (Some event_at) at calls = (at ≡ event_at) × TellsNext demands calls

  -- an event owes its condition where that has to follow
  pub owes_by : (b : Bool) (time at : ℕ) (calls : List (Call Event After)) → time ≡ at
      → IsFollowed demands b calls
      → Owes (if b then Some time else None) at calls
  unfolding Owes
  owes_by true time at calls e followed = (sym e, followed)
  owes_by false time at calls e followed = tt

  -- what a kind asks at a frame may come
  pub asked_come : (start next_end last : ℕ) (owed : Option ℕ) (at : ℕ)
      (calls : List (Call Event After))
      → AreAskedAt demands at calls → Owes owed at calls → last ≤ at → start ≤ at
      → (0 < demands.size → at ≤ next_end) → at < time_limit
      → MayComeAll demands (record { start = start; next_end = next_end; last = last; owed = owed }) calls
      × HasAsked start next_end at (standing_from demands
      (record { start = start; next_end = next_end; last = last; owed = owed }) calls)
  unfolding Owes
  asked_come start next_end last None at [] asked owes le from within fits =
      (tt, record { start_is = refl; end_is = refl; not_before = le; settled = refl })
  asked_come start next_end last (Some event_at) at [] asked owes le from within fits = absurd owes.1
  asked_come start next_end last None at (Got time event ∷ calls) asked owes le from within fits =
      let rest = asked_come start next_end time (if demands.is_paired then Some time else None) at calls asked.3
      (owes_by demands.is_paired time at calls asked.0 asked.2) (omega (arith, asked.0)) from within fits in (
        (
          record {
            timely = record {
              not_before = omega (arith, asked.0);
              from_start = omega (arith, asked.0);
              in_bucket = λ sized. omega (arith, asked.0, within sized);
              fits = omega (arith, asked.0);
            };
            taken = asked.1;
            settled = refl;
          },
          rest.0,
        ),
        rest.1,
      )
  asked_come start next_end last (Some event_at) at (Got time event ∷ calls) asked owes le from within fits =
      absurd owes.1
  asked_come start next_end last None at (Learned time now ∷ calls) asked owes le from within fits =
      let rest = asked_come start next_end time None at calls asked.1 tt (omega (arith, asked.0)) from within fits in (
        (
          record {
            timely = record {
              not_before = omega (arith, asked.0);
              from_start = omega (arith, asked.0);
              in_bucket = λ sized. omega (arith, asked.0, within sized);
              fits = omega (arith, asked.0);
            };
            owed = tt;
          },
          rest.0,
        ),
        rest.1,
      )
  asked_come start next_end last (Some event_at) at (Learned time now ∷ calls) asked owes le from within fits =
      let rest = asked_come start next_end time None at calls asked.1 tt (omega (arith, asked.0)) from within fits in (
        (
          record {
            timely = record {
              not_before = omega (arith, asked.0);
              from_start = omega (arith, asked.0);
              in_bucket = λ sized. omega (arith, asked.0, within sized);
              fits = omega (arith, asked.0);
            };
            owed = omega (arith, asked.0, owes.0);
          },
          rest.0,
        ),
        rest.1,
      )
  asked_come start next_end last owed at (Crossed crossings ∷ calls) asked owes le from within fits = absurd asked
  asked_come start next_end last owed at (CutAt time ∷ calls) asked owes le from within fits = absurd asked
  asked_come start next_end last owed at (Took ∷ calls) asked owes le from within fits = absurd asked

  module _ {News : Type 0} (before : List (LaneStep News)) (last : ℕ) (standing : Standing)
      (along : IsAlong before last standing) where
    module _ (moment : Moment) (news : News) (le : last ≤ moment.at) (fits : moment.at < time_limit) where
      -- without buckets nothing is crossed
      unsized_goes : demands.size ≤ 0
          → Goes (before ++ Logged moment news ∷ []) moment.at standing
          (crossing demands.base demands.size (told_by before) moment)
      unsized_goes none =
          subst (λ ends. Goes (before ++ Logged moment news ∷ []) moment.at standing
          (crossing_of (last_time demands.base
          (boundaries demands.base demands.size (told_by before))) demands.size ends))
          (sym (no_ends demands.base demands.size (moments_told (told_by before)) moment none))
          (record {
            may = tt;
            along = record {
              settled = along.settled;
              not_before = omega (arith, along.not_before);
              from_start = omega (arith, along.from_start);
              fits = fits;
              in_bucket = λ sized. absurd (omega (arith, none, sized));
              some_end = λ sized. absurd (omega (arith, none, sized));
              bucket = along.bucket;
              stands = λ sized. absurd (omega (arith, none, sized));
            };
          })

      module _ (sized : 0 < demands.size) where
        -- a frame that reaches no full end crosses none
        none_goes : reach_of moment < standing.next_end
            → Goes (before ++ Logged moment news ∷ []) moment.at standing
            (crossing demands.base demands.size (told_by before) moment)
        none_goes less =
            let made = none_made (clock_at demands standing) moment sized along.bucket
            (omega (arith, along.from_start)) (reach_of moment) (along.some_end sized) (reaches moment) less
            (told_by before) (along.stands sized) in
            subst (λ ends. Goes (before ++ Logged moment news ∷ []) moment.at standing
            (crossing_of (last_time demands.base
            (boundaries demands.base demands.size (told_by before))) demands.size ends))
            made.0
            (record {
              may = tt;
              along = record {
                settled = along.settled;
                not_before = omega (arith, along.not_before);
                from_start = omega (arith, along.from_start);
                fits = fits;
                in_bucket = λ _. short moment standing.next_end less;
                some_end = along.some_end;
                bucket = along.bucket;
                stands = λ _. subst (λ told. ClockStandsFor (clock_at demands standing) told)
                    (sym (told_by-frame before moment news)) made.1;
              };
            })

        -- a frame that reaches the full end crosses it, and all that it reaches
        some_goes : standing.next_end ≤ reach_of moment
            → Goes (before ++ Logged moment news ∷ []) moment.at standing
            (crossing demands.base demands.size (told_by before) moment)
        some_goes enough =
            let full = (reach_of moment - standing.next_end) / demands.size in
            let end = standing.next_end + full * demands.size in
            let some_end = along.some_end sized in
            let in_bucket = along.in_bucket sized in
            let within = reach-le moment in
            let made = some_made (clock_at demands standing) moment sized along.bucket
            (omega (arith, along.from_start)) (reach_of moment) some_end (reaches moment) enough
            (told_by before) (along.stands sized) in
            let front : full * demands.size ≤ reach_of moment - standing.next_end =
            div-mul-le_self (reach_of moment - standing.next_end) demands.size in
            let back : reach_of moment - standing.next_end < full * demands.size + demands.size =
            lt-div-mul-add sized in
            let is : Crossed (record {
              start = standing.start;
              first_end = standing.next_end;
              full_buckets = full;
              size = demands.size;
            }) ∷ [] ≡ crossing demands.base demands.size (told_by before) moment =
            ap (λ n. Crossed (record {
              start = standing.start;
              first_end = standing.next_end;
              full_buckets = n;
              size = demands.size;
            }) ∷ []) (sym (length-ends_from (standing.next_end + demands.size) demands.size full))
            ∙ ap (λ start. crossing_of start demands.size (ends_from standing.next_end demands.size (suc full)))
            ((along.stands sized).start)
            ∙ ap (λ ends. crossing_of (last_time demands.base
            (boundaries demands.base demands.size (told_by before))) demands.size ends) made.0 in
            subst (λ calls. Goes (before ++ Logged moment news ∷ []) moment.at standing calls) is
            (record {
              may = (
                record {
                  sized = sized;
                  moment = moment;
                  not_before = omega (arith, along.not_before);
                  fits = fits;
                  answer = record {
                    start = refl;
                    first_end = refl;
                    size = refl;
                    reached = reaches moment end (omega (arith, some_end))
                        ∙ le-leb end (reach_of moment) (omega (arith, front, enough));
                    beyond = reaches moment (end + demands.size) (omega (arith, some_end))
                        ∙ lt-leb (end + demands.size) (reach_of moment) (omega (arith, back, enough));
                    moved = refl;
                  };
                  settled = along.settled;
                },
                tt,
              );
              along = record {
                settled = along.settled;
                not_before = omega (arith, front, enough, within);
                from_start = omega (arith, front, enough, within);
                fits = fits;
                in_bucket = λ _. short moment (end + demands.size) (omega (arith, back, enough));
                some_end = λ _. omega (arith, some_end);
                bucket = omega arith;
                stands = λ _. subst (λ told. ClockStandsFor
                    (times demands.base demands.size end (end + demands.size)) told)
                    (sym (told_by-frame before moment news)) made.1;
              };
            })

      -- what a frame crosses may come
      pub crossing_goes : Goes (before ++ Logged moment news ∷ []) moment.at standing
          (crossing demands.base demands.size (told_by before) moment)
      crossing_goes = ⊎_elim
          (λ (sized : 0 < demands.size). ⊎_elim
          (λ (less : reach_of moment < standing.next_end). none_goes sized less)
          (λ (enough : standing.next_end ≤ reach_of moment). some_goes sized enough)
          (cases_lt (reach_of moment) standing.next_end))
          (λ (none : demands.size ≤ 0). unsized_goes none)
          (cases_lt 0 demands.size)
