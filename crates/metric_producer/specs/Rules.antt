-- Which calls a producer may get after which: one rule for every kind of metric.
use Rattle.std.specs.Prelude.{◌≡◌, ℕ, ◌<◌, ◌≤◌, true, List, [], ◌∷◌, ◌++◌, Option, Some, None}
use Rattle.bucket_meaning.specs.Limits.{time_limit}
use Rattle.bucket_meaning.specs.Ends.{Moment}
use Rattle.bucket_clock.specs.declared.crossings.Crossings.{Crossings}
use Rattle.bucket_clock.specs.Clock.{CrossesEnds}
use Rattle.metric_producer.specs.Calls.{Call, Got, Learned, Crossed, CutAt, Took, Demands, Standing, clock_at, crossed_to, standing_of}

-- the condition that is told now is the one that was owed, if any was
abbrev pub IsOwed : Option ℕ → ℕ → Type 0
IsOwed None at = Unit {0}
IsOwed (Some event_at) at = at ≡ event_at

module _ {Event After : Type 0} (demands : Demands Event After) where
  -- A time may come now: times don't fall, and where there are buckets none is past the full end of the open part.
  pub record IsTimely (standing : Standing) (at : ℕ) : Type 0 where
    pub not_before : standing.last ≤ at
    pub from_start : standing.start ≤ at
    pub in_bucket : 0 < demands.size → at ≤ standing.next_end
    pub fits : at < time_limit

  -- A crossing may come now: some frame, not before the calls so far, makes the clock answer it.
  pub record IsAnswer (standing : Standing) (crossings : Crossings) : Type 0 where
    pub sized : 0 < demands.size
    pub moment : Moment
    pub not_before : standing.last ≤ moment.at
    pub fits : moment.at < time_limit
    pub answer : CrossesEnds (clock_at demands standing) moment crossings
        (clock_at demands (crossed_to demands standing crossings))
    pub settled : standing.owed ≡ None

  -- An event may come now: no condition is owed, and the producer takes it.
  pub record IsEvent (standing : Standing) (at : ℕ) (event : Event) : Type 0 where
    pub timely : IsTimely standing at
    pub taken : demands.takes event ≡ true
    pub settled : standing.owed ≡ None

  -- A condition may be told now: at the time of the event that owes it, or on its own.
  pub record IsCondition (standing : Standing) (at : ℕ) : Type 0 where
    pub timely : IsTimely standing at
    pub owed : IsOwed standing.owed at

  -- A cut may come now: there are buckets, and no condition is owed.
  pub record IsCut (standing : Standing) (at : ℕ) : Type 0 where
    pub sized : 0 < demands.size
    pub timely : IsTimely standing at
    pub settled : standing.owed ≡ None

  -- the call may come now
  abbrev pub MayCome : Standing → Call Event After → Type 0
  MayCome standing (Got at event) = IsEvent standing at event
  MayCome standing (Learned at now) = IsCondition standing at
  MayCome standing (Crossed crossings) = IsAnswer standing crossings
  MayCome standing (CutAt at) = IsCut standing at
  MayCome standing Took = standing.owed ≡ None

  -- what a call tells may be told after these
  abbrev pub MayBeTold : List (Call Event After) → Call Event After → Type 0
  MayBeTold calls (Learned at now) = demands.tells calls now ≡ true
  MayBeTold calls _ = Unit {0}

  -- the call may come after these: where they led, and as what it tells may be told after them
  abbrev pub IsAdmitted : List (Call Event After) → Call Event After → Type 0
  IsAdmitted calls call = MayCome (standing_of demands calls) call × MayBeTold calls call

  -- each of the calls may come where it comes, after those before
  abbrev pub AreAdmitted : List (Call Event After) → List (Call Event After) → Type 0
  AreAdmitted before [] = Unit {0}
  AreAdmitted before (call ∷ calls) = IsAdmitted before call × AreAdmitted (before ++ call ∷ []) calls

  -- what each of the calls tells may be told after those before it
  abbrev pub AreTold : List (Call Event After) → List (Call Event After) → Type 0
  AreTold before [] = Unit {0}
  AreTold before (call ∷ calls) = MayBeTold before call × AreTold (before ++ call ∷ []) calls
