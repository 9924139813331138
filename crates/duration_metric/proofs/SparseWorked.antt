-- Worked calls of a producer of longest durations, by computing.
use Rattle.std.proofs.Common.{◌≡◌, ℕ, pos, true, false, Bool, List, [], ◌∷◌, ◌++◌, refl}
use Rattle.atom_record.specs.declared.value.Value.TheVariants.{Int}
use Rattle.atom_record.specs.declared.value.Leaf.TheVariants.{One}
use Rattle.bucket_meaning.specs.Meaning.{report_by}
use Rattle.bucket_meaning.specs.Kept.{Taken}
use Rattle.predicate_state.specs.declared.event.PredEvent.{PredEvent}
use Rattle.predicate_state.specs.declared.event.PredEvent.TheVariants.{Start, Stop, StopAll}
use Rattle.predicate_state.specs.declared.truth.Truth.{Truth}
use Rattle.predicate_state.specs.declared.truth.Truth.TheVariants.{False, True}
use Rattle.predicate_state.specs.PredicateTable.{LeafKey}
use Rattle.metric_producer.specs.Calls.{Got, Learned, Crossed, Took}
use Rattle.metric_producer.specs.declared.row.Row.{Row}
use Rattle.metric_producer.specs.Collecting.{calls_mean}
use Rattle.duration_metric.specs.declared.change.InnerChange.{InnerChange}
use Rattle.duration_metric.specs.InnerKeys.{DurationCall}
use Rattle.duration_metric.specs.SparseCalls.{sparse_collecting}

-- a key with one number
abbrev leaves : ℕ → LeafKey
leaves number = One (Int (pos number)) ∷ []

-- an event acts on such a key at a time
abbrev got : ℕ → PredEvent → ℕ → DurationCall
got at event number = Got at (record { event = event; key = leaves number })

-- changes are told at a time
abbrev told : ℕ → List InnerChange → DurationCall
told at changes = Learned at (record { changes = changes })

-- the key at a place has a truth and counts for a key
abbrev change : ℕ → Truth → ℕ → InnerChange
change place truth number =
    record { place = place; truth = truth; out = record { dims = leaves number; slices = [] } }

-- a frame crosses an end, and so many full buckets of 10 after it
abbrev cross : ℕ → ℕ → DurationCall
cross end more = Crossed (record { start = 0; first_end = end; full_buckets = more; size = 10 })

-- a row of a key in a part
abbrev row : ℕ → ℕ → ℕ → ℕ → Row ℕ
row number start end value =
    record { key = record { dims = leaves number; slices = [] }; start = start; end = end; value = value }

-- what is shown: rows, and how many were dropped
abbrev shown : List (Row ℕ) → ℕ → Taken (Row ℕ)
shown rows dropped = record { rows = rows; not_kept = 0; dropped = dropped; missing = 0 }

-- what a report shows after these calls, where unlisted keys are unknown or not, so many inner keys are kept, and as
-- many keys are admitted
abbrev after_calls : Bool → ℕ → List DurationCall → Taken (Row ℕ)
after_calls unknown bound calls = report_by (calls_mean sparse_collecting)
    (record { base = 0; size = 10; spec = record { nesting = false; unknown = unknown; bound = bound; leaves = 1 } })
    calls

-- an inner key is started, and its condition and its output key are told
abbrev on : ℕ → ℕ → ℕ → Truth → ℕ → List DurationCall
on at place number truth out = got at Start number ∷ told at (change place truth out ∷ []) ∷ []

-- it is stopped, and nothing is told
abbrev off : ℕ → ℕ → List DurationCall
off at number = got at Stop number ∷ told at [] ∷ []

-- a time arrives whole where the inner key goes off, and nowhere before
where_it_goes_off : after_calls false 2 (on 2 0 7 True 9 ++ (cross 10 1 ∷ (off 23 7 ++ cross 30 0 ∷ [])))
    ≡ shown (row 9 20 30 21 ∷ []) 0
where_it_goes_off = refl

-- the times count in which the condition was true, over all buckets
while_true : after_calls false 2
    (on 2 0 7 False 9 ++ told 3 (change 0 True 9 ∷ []) ∷ told 7 (change 0 False 9 ∷ []) ∷ cross 10 0
    ∷ told 11 (change 0 True 9 ∷ []) ∷ (off 16 7 ++ cross 20 0 ∷ []))
    ≡ shown (row 9 10 20 9 ∷ []) 0
while_true = refl

-- a time up to a stop counts under the condition before it
up_to_the_stop : after_calls true 2
    (on 1 0 7 True 9 ++ got 4 Stop 7 ∷ told 4 (change 0 False 9 ∷ []) ∷ cross 10 0 ∷ [])
    ≡ shown (row 9 0 10 3 ∷ []) 0
up_to_the_stop = refl

-- the longest of two times is shown
the_longest : after_calls false 2
    (on 1 0 7 True 9 ++ on 2 1 8 True 9 ++ off 4 7 ++ off 9 8 ++ cross 10 0 ∷ [])
    ≡ shown (row 9 0 10 7 ∷ []) 0
the_longest = refl

-- a key that is on at a report doesn't arrive
not_yet : after_calls false 2 (on 1 0 7 True 9 ++ cross 10 0 ∷ []) ≡ shown [] 0
not_yet = refl

-- a key that comes again begins anew
comes_again : after_calls false 2 (on 1 0 7 True 9 ++ off 6 7 ++ on 7 0 7 True 9 ++ off 9 7 ++ cross 10 0 ∷ [])
    ≡ shown (row 9 0 10 5 ∷ []) 0
comes_again = refl

-- no time arrives, too: it takes a place, and its row is left out
no_time : after_calls false 1 (on 1 0 7 False 9 ++ off 3 7 ++ on 4 0 8 True 5 ++ off 6 8 ++ cross 10 0 ∷ [])
    ≡ shown [] 1
no_time = refl

-- keys that are stopped at once arrive in inner order
all_at_once : after_calls false 2
    (on 1 0 7 True 1 ++ off 2 7 ++ on 3 0 7 True 5 ++ on 4 1 8 True 6 ++ got 5 StopAll 0 ∷ told 5 [] ∷ cross 10 0 ∷ [])
    ≡ shown (row 1 0 10 1 ∷ row 5 0 10 2 ∷ []) 1
all_at_once = refl

-- a place closes up after a key left
closes_up : after_calls false 2
    (on 1 0 7 True 5 ++ on 2 1 8 True 6 ++ off 3 7 ++ told 4 (change 0 False 6 ∷ []) ∷ (off 9 8 ++ cross 10 0 ∷ []))
    ≡ shown (row 5 0 10 2 ∷ row 6 0 10 2 ∷ []) 0
closes_up = refl

-- inner keys that find no room are lost in the stretch in which they come
lost_keys : after_calls false 1
    (on 1 0 7 True 5 ++ off 2 8 ++ got 3 Start 8 ∷ told 3 [] ∷ Took ∷ got 4 Start 9 ∷ told 4 [] ∷ [])
    ≡ shown [] 1
lost_keys = refl
