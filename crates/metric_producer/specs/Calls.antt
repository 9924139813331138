-- The calls of a producer, and how far they have come.
use Rattle.std.specs.Prelude.{ℕ, ◌+◌, Bool, List, [], ◌∷◌, Option, Some, None, if◌then◌else◌}
use Rattle.bucket_clock.specs.declared.crossings.Crossings.{Crossings}
use Rattle.bucket_clock.specs.Sound.{Times, times}
use Rattle.bucket_clock.specs.Clock.{last_end}

-- One call of a producer.
pub data Call (Event After : Type 0) : Type 0 where
  Got : (at : ℕ) → (event : Event) → Call Event After  -- an event came
  Learned : (at : ℕ) → (now : After) → Call Event After  -- what the condition is after a step
  Crossed : (crossings : Crossings) → Call Event After  -- a frame crossed ends of buckets
  CutAt : (at : ℕ) → Call Event After  -- a report cut the open part
  Took : Call Event After  -- the kept rows were handed out

-- What a producer asks of its calls: where its time begins; how long its buckets are, or 0 where it has none; whether
-- the condition has to follow each event; which events it takes; and which condition may be told after which calls, for
-- a producer that is told what changed, or nothing before an event has told it what stands at its beginning.
pub record Demands (Event After : Type 0) : Type 0 where
  pub base : ℕ
  pub size : ℕ
  pub is_paired : Bool
  pub takes : Event → Bool
  pub tells : List (Call Event After) → After → Bool

-- How far the calls have come: where the open part began, its full end, the time before which nothing more may come,
-- and the time of an event whose condition is still to be told.
pub record Standing : Type 0 where
  pub start : ℕ
  pub next_end : ℕ
  pub last : ℕ
  pub owed : Option ℕ

module _ {Event After : Type 0} (demands : Demands Event After) where
  -- before all calls
  abbrev pub first_standing : Standing
  first_standing = record {
    start = demands.base;
    next_end = demands.base + demands.size;
    last = demands.base;
    owed = None;
  }

  -- the clock that was told of the same crossings and cuts
  abbrev pub clock_at : Standing → Times
  clock_at standing = times demands.base demands.size standing.start standing.next_end

  -- after a crossing the open part begins at the last end that was crossed
  abbrev pub crossed_to : Standing → Crossings → Standing
  crossed_to standing crossings =
      let end = last_end crossings in
      record standing { start = end; next_end = end + crossings.size; last = end }

  -- after one more call: an event may owe its condition, and a cut keeps the full end
  abbrev pub after_call : Standing → Call Event After → Standing
  after_call standing (Got at event) =
      record standing { last = at; owed = if demands.is_paired then Some at else None }
  after_call standing (Learned at now) = record standing { last = at; owed = None }
  after_call standing (Crossed crossings) = crossed_to standing crossings
  after_call standing (CutAt at) = record standing { start = at; last = at }
  after_call standing Took = standing

  -- how far these calls have come, from a standing on
  abbrev pub standing_from : Standing → List (Call Event After) → Standing
  standing_from standing [] = standing
  standing_from standing (call ∷ calls) = standing_from (after_call standing call) calls

  -- how far these calls have come, from the beginning
  abbrev pub standing_of : List (Call Event After) → Standing
  standing_of calls = standing_from first_standing calls
