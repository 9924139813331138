-- Worked calls of a producer of counts, by computing.
use Rattle.std.proofs.Common.{◌≡◌, ℕ, pos, Bool, true, false, List, [], ◌∷◌, refl}
use Rattle.atom_record.specs.declared.value.Value.TheVariants.{Int}
use Rattle.atom_record.specs.declared.value.Leaf.TheVariants.{One}
use Rattle.atom_record.specs.declared.value.MetricKey.{MetricKey}
use Rattle.bucket_meaning.specs.Meaning.{report_by}
use Rattle.bucket_meaning.specs.Kept.{Taken}
use Rattle.metric_producer.specs.Calls.{Got, Crossed, CutAt, Took}
use Rattle.metric_producer.specs.declared.row.CountCell.{CountCell}
use Rattle.metric_producer.specs.declared.row.Row.{Row}
use Rattle.metric_producer.specs.Collecting.{calls_mean}
use Rattle.count_metric.specs.Counting.{CountCall, count_collecting}
use Rattle.count_metric.specs.CountStands.{overflow_row}

-- a key with one number
abbrev key : ℕ → MetricKey
key number = record { dims = One (Int (pos number)) ∷ []; slices = [] }

-- such a key comes at a time
abbrev of : ℕ → ℕ → CountCall
of at number = Got at (key number)

-- a frame crosses an end, and so many full buckets of 10 after it
abbrev cross : ℕ → ℕ → CountCall
cross end more = Crossed (record { start = 0; first_end = end; full_buckets = more; size = 10 })

-- a row of a key in a part
abbrev row : ℕ → ℕ → ℕ → ℕ → Row CountCell
row number start end count =
    record { key = key number; start = start; end = end; value = record { number = count; overflow = false } }

-- the overflow row of a part
abbrev overflow : ℕ → ℕ → ℕ → Row CountCell
overflow start end count = overflow_row start end count

-- what is shown: rows, and how many were dropped
abbrev shown : List (Row CountCell) → ℕ → Taken (Row CountCell)
shown rows dropped = record { rows = rows; not_kept = 0; dropped = dropped; missing = 0 }

-- what a report shows after these calls, where a part admits two keys, and what found no room is gathered or not
abbrev after_calls : Bool → List CountCall → Taken (Row CountCell)
after_calls gathers calls =
    report_by (calls_mean count_collecting) (record { base = 0; size = 10; bound = 2; overflow = gathers }) calls

-- two keys are admitted, and two arrivals of a third are dropped
abbrev first_bucket : List CountCall
first_bucket = of 1 1 ∷ of 2 2 ∷ of 3 3 ∷ of 4 1 ∷ of 5 3 ∷ cross 10 0 ∷ []

-- which shows the two keys' rows
guardrail : after_calls false first_bucket ≡ shown (row 1 0 10 2 ∷ row 2 0 10 1 ∷ []) 2
guardrail = refl

-- in the next bucket the third comes first
the_next_bucket : after_calls false (of 5 3 ∷ cross 10 0 ∷ Took ∷ of 11 3 ∷ of 12 1 ∷ of 13 2 ∷ cross 20 0 ∷ [])
    ≡ shown (row 3 10 20 1 ∷ row 1 10 20 1 ∷ []) 1
the_next_bucket = refl

-- full buckets without arrivals have no row
a_jump : after_calls false (of 0 1 ∷ cross 10 3 ∷ of 45 2 ∷ CutAt 46 ∷ [])
    ≡ shown (row 1 0 10 1 ∷ row 2 40 46 1 ∷ []) 0
a_jump = refl

-- the two arrivals of the third key are one row more, where they are gathered, and are dropped all the same
overflow_row_of_the_third : after_calls true first_bucket ≡ shown (row 1 0 10 2 ∷ row 2 0 10 1 ∷ overflow 0 10 2 ∷ []) 2
overflow_row_of_the_third = refl

-- a cut closes its part with such a row, and what found no room is counted anew after it, as after an end; full buckets
-- without arrivals have no such row either
gathered_by_part :
    after_calls true (of 1 1 ∷ of 2 2 ∷ of 3 3 ∷ CutAt 4 ∷ of 5 3 ∷ of 6 1 ∷ of 7 2 ∷ of 8 4 ∷ cross 10 2 ∷ of 31 1
    ∷ CutAt 32 ∷ [])
    ≡ shown (row 1 0 4 1 ∷ row 2 0 4 1 ∷ overflow 0 4 1 ∷ row 3 4 10 1 ∷ row 1 4 10 1 ∷ overflow 4 10 2 ∷ row 1 30 32 1
    ∷ []) 3
gathered_by_part = refl
