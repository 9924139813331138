-- Worked calls of a producer of pushed values, by computing.
use Rattle.std.proofs.Common.{◌≡◌, ℕ, ℤ, pos, negsuc, ◌-◌, ◌^◌, List, [], ◌∷◌, refl}
use Rattle.atom_record.specs.declared.value.Value.TheVariants.{Int}
use Rattle.atom_record.specs.declared.value.Leaf.TheVariants.{One}
use Rattle.atom_record.specs.declared.value.MetricKey.{MetricKey}
use Rattle.bucket_meaning.specs.Meaning.{report_by}
use Rattle.bucket_meaning.specs.Kept.{Taken}
use Rattle.config_types.specs.declared.metric.Aggregation.{Aggregation}
use Rattle.config_types.specs.declared.metric.Aggregation.TheVariants.{Sum, Min, Max}
use Rattle.metric_producer.specs.Calls.{Got, Crossed, CutAt}
use Rattle.metric_producer.specs.declared.row.Row.{Row}
use Rattle.metric_producer.specs.Collecting.{calls_mean}
use Rattle.value_metric.specs.PushedValues.{PushedCall, pushed_collecting}

-- a key with one number
abbrev key : ℕ → MetricKey
key number = record { dims = One (Int (pos number)) ∷ []; slices = [] }

-- an integer of such a key comes at a time
abbrev of : ℕ → ℕ → ℤ → PushedCall
of at number integer = Got at (record { key = key number; value = integer })

-- a frame crosses an end, and so many full buckets of 10 after it
abbrev cross : ℕ → ℕ → PushedCall
cross end more = Crossed (record { start = 0; first_end = end; full_buckets = more; size = 10 })

-- a row of a key in a part
abbrev row : ℕ → ℕ → ℕ → ℤ → Row ℤ
row number start end value = record { key = key number; start = start; end = end; value = value }

-- what is shown: rows, and how many were dropped
abbrev shown : List (Row ℤ) → ℕ → Taken (Row ℤ)
shown rows dropped = record { rows = rows; not_kept = 0; dropped = dropped; missing = 0 }

-- what a report shows after these calls, where a part admits two keys
abbrev after_calls : Aggregation → List PushedCall → Taken (Row ℤ)
after_calls aggregation calls = report_by (calls_mean pushed_collecting)
    (record { base = 0; size = 10; bound = 2; aggregation = aggregation }) calls

-- three integers of a key, and those of a third key, which are dropped
abbrev first_bucket : List PushedCall
first_bucket =
    of 1 1 (negsuc 4) ∷ of 2 2 (pos 3) ∷ of 3 3 (pos 9) ∷ of 4 1 (negsuc 7) ∷ of 5 1 (negsuc 0) ∷ cross 10 0 ∷ []

-- their sum, the least and the greatest
sums : after_calls Sum first_bucket ≡ shown (row 1 0 10 (negsuc 13) ∷ row 2 0 10 (pos 3) ∷ []) 1
sums = refl

least : after_calls Min first_bucket ≡ shown (row 1 0 10 (negsuc 7) ∷ row 2 0 10 (pos 3) ∷ []) 1
least = refl

greatest : after_calls Max first_bucket ≡ shown (row 1 0 10 (negsuc 0) ∷ row 2 0 10 (pos 3) ∷ []) 1
greatest = refl

-- a sum is whole until its row is made, and one of 0 is shown
whole_sums : after_calls Sum (of 1 1 (pos (2 ^ 63 - 1)) ∷ of 2 1 (pos 1) ∷ of 3 2 (pos 1) ∷ of 4 2 (negsuc 0)
    ∷ CutAt 5 ∷ []) ≡ shown (row 1 0 5 (pos (2 ^ 63 - 1)) ∷ row 2 0 5 (pos 0) ∷ []) 0
whole_sums = refl

-- full buckets without integers have no row
a_jump : after_calls Sum (of 0 1 (pos 5) ∷ cross 10 3 ∷ of 45 2 (pos 6) ∷ CutAt 46 ∷ [])
    ≡ shown (row 1 0 10 (pos 5) ∷ row 2 40 46 (pos 6) ∷ []) 0
a_jump = refl
