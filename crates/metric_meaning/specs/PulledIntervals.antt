-- The intervals of a pulled metric. One begins where a part of the metric's time begins, if the condition is true
-- there, and at an atom after which the condition has become true. It ends at the next atom after which the condition
-- isn't true, or where the part ends.
use Rattle.std.specs.Prelude.{ℕ, nat_lt, Bool, not, ◌&&◌, List, [], ◌∷◌, ◌++◌, map, Option, None, if◌then◌else◌}
use Rattle.std.specs.List.{last_or}
use Rattle.sd_base.specs.Outputs.{outputs, outputs_after}
use Rattle.metric_kinds.specs.Intervals.{Interval, Seen, open_after, ended_with, ended_at_moment}
use Rattle.metric_meaning.specs.Histories.{What, Logged, Reported, Step}
use Rattle.metric_meaning.specs.StepMarks.{crossed_at}

-- What a pulled metric watches: where its time begins, how long its buckets are, whether its condition is true after
-- some steps, and what it finds then in the last snapshot.
pub record Watch (S : Type 0) : Type 0 where
  pub base : ℕ
  pub size : ℕ
  pub holds : List Step → Bool
  pub found : List Step → S

module _ {S : Type 0} (watch : Watch S) where
  -- what is seen after these steps; a boundary sees what the steps before it left
  abbrev pub seen_after : List Step → Seen S
  seen_after steps = record { holds = watch.holds steps; found = watch.found steps }

  -- what is seen after each of these steps, with others before them
  abbrev pub all_seen : List Step → List Step → List (Seen S)
  all_seen before steps = outputs_after (λ before step. seen_after (before ++ step ∷ []) ∷ []) before steps

  -- where parts begin at a step, before it acts: at the ends of buckets that its frame crosses, or at its report's cut
  abbrev pub part_starts : List Step → Step → List ℕ
  part_starts before step = of_what step.what where
    of_what : What → List ℕ
    of_what (Logged frame) = crossed_at watch.base watch.size before step
    of_what (Reported include_current) = if include_current && nat_lt 0 watch.size then step.at ∷ [] else []

  -- whether the condition has become true at a step: it is, and wasn't before; one that is true at the installation
  -- hasn't become so
  abbrev pub becomes_true : List Step → Step → Bool
  becomes_true before step = watch.holds (before ++ step ∷ []) && not (watch.holds before)

  -- the interval that begins after these steps, if one does, by what is found at its beginning
  abbrev pub begun_if : Bool → List Step → List S
  begun_if begins steps = if begins then watch.found steps ∷ [] else []

  -- the intervals that begin with parts at a step: each finds what the steps before have left
  abbrev pub begun_with_parts : List Step → Step → List S
  begun_with_parts before step =
      if watch.holds before then map (λ start. watch.found before) (part_starts before step) else []

  -- the interval that begins by what a step does to the condition
  abbrev pub begun_by_step : List Step → Step → List S
  begun_by_step before step = begun_if (becomes_true before step) (before ++ step ∷ [])

  -- all intervals that have begun, in order; the first part begins at the installation
  abbrev pub all_begun : List Step → List S
  all_begun steps =
      begun_if (watch.holds []) []
      ++ outputs (λ before step. begun_with_parts before step ++ begun_by_step before step) steps

  -- the interval that is open after these steps: while the condition is true, the last that has begun
  abbrev pub open_interval : List Step → Option S
  open_interval steps = if watch.holds steps then last_or None (all_begun steps) else None

  -- the interval that is open at a step before it acts, one that begins with a part there included
  abbrev pub open_before : List Step → Step → Option S
  open_before before step =
      if watch.holds before then last_or None (all_begun before ++ begun_with_parts before step) else None

  -- the interval that ends by what a step does to the condition
  abbrev pub ended_by_step : List Step → Step → List (Interval S)
  ended_by_step before step = ended_at_moment (open_before before step) (seen_after (before ++ step ∷ []))

  -- the interval that ends at a boundary after these steps
  abbrev pub ended_by_boundary : List Step → List (Interval S)
  ended_by_boundary steps = ended_with (open_interval steps) (watch.found steps)

  -- the interval that ends at a boundary, if there was one already after these steps: it began with that part
  abbrev pub ended_again : List Step → List (Interval S)
  ended_again steps = ended_with (open_after None (seen_after steps)) (watch.found steps)
