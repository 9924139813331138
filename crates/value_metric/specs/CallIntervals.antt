-- The intervals of a metric of pulled values, by the calls of its producer. One begins where a part begins, if the
-- condition is true there, and where the condition is told to have become true. It ends where the condition is told not
-- to be true, or where the part ends. A pull alone begins none and ends none.
use Rattle.std.specs.Prelude.{ℕ, not, ◌&&◌, List, [], ◌∷◌, ◌++◌, map, Option, Some, None, if◌then◌else◌}
use Rattle.std.specs.List.{last_or}
use Rattle.sd_base.specs.Outputs.{outputs}
use Rattle.bucket_clock.specs.Clock.{ends_of}
use Rattle.metric_producer.specs.Calls.{Crossed, CutAt}
use Rattle.metric_kinds.specs.Diffs.{KeyedInts}
use Rattle.metric_kinds.specs.Intervals.{Interval, Seen, open_after, ended_with, ended_at_moment}
use Rattle.value_metric.specs.PulledValues.{PulledValueCall, last_found, is_told_true, seen_after_calls}

-- where parts begin at a call: at the ends of buckets that it crosses, or at its cut
abbrev pub starts_at : PulledValueCall → List ℕ
starts_at (Crossed crossings) = ends_of (Some crossings)
starts_at (CutAt at) = at ∷ []
starts_at _ = []

-- the intervals that begin with parts at a call: each finds what the calls before have left
abbrev pub begun_at_boundaries : List PulledValueCall → PulledValueCall → List (Option KeyedInts)
begun_at_boundaries before call =
    if is_told_true before then map (λ start. last_found before) (starts_at call) else []

-- the interval that begins where a call makes the condition true
abbrev pub begun_by_call : List PulledValueCall → PulledValueCall → List (Option KeyedInts)
begun_by_call before call =
    let after = before ++ call ∷ [] in
    if is_told_true after && not (is_told_true before) then last_found after ∷ [] else []

-- all intervals that have begun, in order, each with what was found at its beginning
abbrev pub begun_by_calls : List PulledValueCall → List (Option KeyedInts)
begun_by_calls calls = outputs (λ before call. begun_at_boundaries before call ++ begun_by_call before call) calls

-- the interval that is open after these calls: while the condition is true, the last that has begun
abbrev pub open_by_calls : List PulledValueCall → Option (Option KeyedInts)
open_by_calls calls = if is_told_true calls then last_or None (begun_by_calls calls) else None

-- the interval that ends where a condition is told that isn't true
abbrev pub ended_by_condition : List PulledValueCall → Seen (Option KeyedInts) → List (Interval (Option KeyedInts))
ended_by_condition before now = ended_at_moment (open_by_calls before) now

-- the interval that ends at a boundary after these calls
abbrev pub ended_at_boundary : List PulledValueCall → List (Interval (Option KeyedInts))
ended_at_boundary calls = ended_with (open_by_calls calls) (last_found calls)

-- the interval that ends at a boundary, if there was one already after these calls: it began with that part
abbrev pub ended_at_next : List PulledValueCall → List (Interval (Option KeyedInts))
ended_at_next calls = ended_with (open_after None (seen_after_calls calls)) (last_found calls)
