-- Worked calls of a producer of sums, by computing.
use Rattle.std.proofs.Common.{◌≡◌, ℕ, pos, false, List, [], ◌∷◌, ◌++◌, Some, None, refl}
use Rattle.atom_record.specs.declared.value.Value.TheVariants.{Int}
use Rattle.atom_record.specs.declared.value.Leaf.TheVariants.{One}
use Rattle.bucket_meaning.specs.Meaning.{report_by}
use Rattle.bucket_meaning.specs.Kept.{Taken}
use Rattle.predicate_state.specs.declared.event.PredEvent.{PredEvent}
use Rattle.predicate_state.specs.declared.event.PredEvent.TheVariants.{Start, Stop}
use Rattle.predicate_state.specs.declared.truth.Truth.{Truth}
use Rattle.predicate_state.specs.declared.truth.Truth.TheVariants.{False, Unknown, True}
use Rattle.predicate_state.specs.PredicateTable.{LeafKey}
use Rattle.metric_producer.specs.Calls.{Got, Learned, Crossed, CutAt}
use Rattle.metric_producer.specs.declared.row.Row.{Row}
use Rattle.metric_producer.specs.Collecting.{calls_mean}
use Rattle.duration_metric.specs.declared.change.InnerChange.{InnerChange}
use Rattle.duration_metric.specs.InnerKeys.{DurationCall, told_truth}
use Rattle.duration_metric.specs.SumCalls.{sum_collecting}

-- a key with one number
abbrev leaves : ℕ → LeafKey
leaves number = One (Int (pos number)) ∷ []

-- an event acts on such a key at a time
abbrev got : ℕ → PredEvent → ℕ → DurationCall
got at event number = Got at (record { event = event; key = leaves number })

-- changes are told at a time
abbrev told : ℕ → List InnerChange → DurationCall
told at changes = Learned at (record { changes = changes })

-- the key at a place has a truth and counts for a key
abbrev change : ℕ → Truth → ℕ → InnerChange
change place truth number =
    record { place = place; truth = truth; out = record { dims = leaves number; slices = [] } }

-- a frame crosses an end, and so many full buckets of 10 after it
abbrev cross : ℕ → ℕ → DurationCall
cross end more = Crossed (record { start = 0; first_end = end; full_buckets = more; size = 10 })

-- a row of a key in a part
abbrev row : ℕ → ℕ → ℕ → ℕ → Row ℕ
row number start end value =
    record { key = record { dims = leaves number; slices = [] }; start = start; end = end; value = value }

-- what is shown: rows, and how many were dropped
abbrev shown : List (Row ℕ) → ℕ → Taken (Row ℕ)
shown rows dropped = record { rows = rows; not_kept = 0; dropped = dropped; missing = 0 }

-- what a report shows after these calls, where so many inner keys are kept, and as many keys are admitted
abbrev after_calls : ℕ → List DurationCall → Taken (Row ℕ)
after_calls bound calls = report_by (calls_mean sum_collecting)
    (record { base = 0; size = 10; spec = record { nesting = false; unknown = false; bound = bound; leaves = 1 } })
    calls

-- a key is active from 5 on
abbrev from_five : List DurationCall
from_five = got 5 Start 7 ∷ told 5 (change 0 True 9 ∷ []) ∷ []

-- each of the buckets that are crossed has its own time
a_jump : after_calls 2 (from_five ++ cross 10 2 ∷ [])
    ≡ shown (row 9 0 10 5 ∷ row 9 10 20 10 ∷ row 9 20 30 10 ∷ []) 0
a_jump = refl

-- a run of no length takes the place of its part, and an inner key that finds no room is dropped, too
no_room : after_calls 1
    (got 1 Start 7 ∷ told 1 (change 0 True 9 ∷ []) ∷ got 1 Stop 7 ∷ told 1 [] ∷ got 2 Start 8
    ∷ told 2 (change 0 True 5 ∷ []) ∷ got 3 Start 6 ∷ told 3 [] ∷ cross 10 0 ∷ [])
    ≡ shown [] 2
no_room = refl

-- an output key goes over to another inner key in one step, without a break
goes_over : after_calls 3
    (got 1 Start 7 ∷ told 1 (change 0 True 9 ∷ []) ∷ got 2 Start 8 ∷ told 2 (change 1 Unknown 5 ∷ [])
    ∷ got 4 Stop 7 ∷ told 4 (change 0 True 9 ∷ []) ∷ CutAt 6 ∷ [])
    ≡ shown (row 9 0 6 5 ∷ []) 0
goes_over = refl

-- a place closes up; a key that came again was told nothing
abbrev two_keys : List DurationCall
two_keys = got 1 Start 7 ∷ told 1 (change 0 True 7 ∷ []) ∷ got 2 Start 8 ∷ told 2 (change 1 False 8 ∷ [])
    ∷ got 3 Stop 7 ∷ told 3 [] ∷ got 4 Start 7 ∷ []

closes_up : told_truth (record { nesting = false; unknown = false; bound = 3; leaves = 1 }) two_keys 0 ≡ Some False
closes_up = refl

comes_again : told_truth (record { nesting = false; unknown = false; bound = 3; leaves = 1 }) two_keys 1 ≡ None
comes_again = refl
