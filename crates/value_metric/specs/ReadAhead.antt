-- The intervals that end at the calls of a part are those that are read ahead from its start.
use Rattle.std.specs.Prelude.{◌≡◌, ℕ, List, [], ◌∷◌, ◌++◌, Option}
use Rattle.sd_base.specs.Outputs.{outputs_after}
use Rattle.metric_producer.specs.Calls.{Learned}
use Rattle.metric_kinds.specs.Diffs.{KeyedInts}
use Rattle.metric_kinds.specs.Intervals.{Interval, Seen, intervals_of}
use Rattle.value_metric.specs.PulledValues.{PulledValueCall, is_truth, last_found, seen_after_calls}
use Rattle.value_metric.specs.CallIntervals.{starts_at, ended_by_condition, ended_at_boundary, ended_at_next}

-- the interval that ends at a call which is no boundary
abbrev pub ended_by_call : List PulledValueCall → PulledValueCall → List (Interval (Option KeyedInts))
ended_by_call before (Learned at now) =
    ended_by_condition before (record { holds = is_truth now; found = last_found before })
ended_by_call before _ = []

-- what ends at these calls, after others, and at a boundary after them
abbrev pub ended_in : List PulledValueCall → List PulledValueCall → List (Interval (Option KeyedInts))
ended_in before calls = outputs_after ended_by_call before calls ++ ended_at_boundary (before ++ calls)

-- what is seen after each of these calls, with others before them
abbrev pub seen_at_calls : List PulledValueCall → List PulledValueCall → List (Seen (Option KeyedInts))
seen_at_calls before calls = outputs_after (λ before call. seen_after_calls (before ++ call ∷ []) ∷ []) before calls

-- no part begins at these calls
abbrev pub StartNone : List PulledValueCall → Type 0
StartNone [] = Unit {0}
StartNone (call ∷ calls) = (starts_at call ≡ []) × StartNone calls

-- what ends in the part that these calls began is read ahead from what is seen there
abbrev pub IsReadAhead : List PulledValueCall → List PulledValueCall → Type 0
IsReadAhead begun calls = ended_in begun calls ≡ intervals_of (seen_after_calls begun ∷ seen_at_calls begun calls)

-- In each part what ends is what is read ahead: in the first one, in one that a crossing or a cut began, and in full
-- buckets without calls.
pub record AreReadAhead : Type 0 where
  pub first_part : (calls : List PulledValueCall) → StartNone calls → IsReadAhead [] calls
  pub later_part : (before calls : List PulledValueCall) (boundary : PulledValueCall) (start : ℕ) (starts : List ℕ)
      → starts_at boundary ≡ start ∷ starts → StartNone calls → IsReadAhead (before ++ boundary ∷ []) calls
  pub empty_part : (before : List PulledValueCall) → ended_at_next before ≡ intervals_of (seen_after_calls before ∷ [])
