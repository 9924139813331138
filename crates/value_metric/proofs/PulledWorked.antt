-- Worked calls of a producer of pulled values, by computing.
use Rattle.std.proofs.Common.{◌≡◌, ℕ, ℤ, pos, negsuc, true, false, List, [], ◌∷◌, Some, None, refl}
use Rattle.atom_record.specs.declared.value.Value.TheVariants.{Int}
use Rattle.atom_record.specs.declared.value.Leaf.TheVariants.{One}
use Rattle.atom_record.specs.declared.value.MetricKey.{MetricKey}
use Rattle.bucket_meaning.specs.Meaning.{report_by}
use Rattle.bucket_meaning.specs.Kept.{Taken}
use Rattle.config_types.specs.declared.metric.Aggregation.TheVariants.{Sum, Min, Max}
use Rattle.config_types.specs.declared.metric.Direction.TheVariants.{Increasing, Decreasing, Any}
use Rattle.config_types.specs.declared.parameters.DiffSpec.{DiffSpec}
use Rattle.predicate_state.specs.declared.truth.Truth.{Truth}
use Rattle.predicate_state.specs.declared.truth.Truth.TheVariants.{False, Unknown, True}
use Rattle.metric_producer.specs.Calls.{Got, Learned, Crossed, CutAt}
use Rattle.metric_producer.specs.declared.row.Row.{Row}
use Rattle.metric_producer.specs.Collecting.{calls_mean}
use Rattle.value_metric.specs.declared.keyed_int.KeyedInt.{KeyedInt}
use Rattle.value_metric.specs.PulledValues.{PulledValueCall}
use Rattle.value_metric.specs.PulledCollecting.{pulled_collecting}

-- a key with one number
abbrev key : ℕ → MetricKey
key number = record { dims = One (Int (pos number)) ∷ []; slices = [] }

-- an integer of such a key
abbrev of : ℕ → ℤ → KeyedInt
of number integer = record { key = key number; value = integer }

-- a pull gave these integers, or failed
abbrev pull : ℕ → List KeyedInt → PulledValueCall
pull at integers = Got at (record { found = Some integers })

abbrev failed : ℕ → PulledValueCall
failed at = Got at (record { found = None })

-- a condition is told
abbrev told : ℕ → Truth → PulledValueCall
told at now = Learned at now

-- a frame crosses an end, and so many full buckets of 10 after it
abbrev cross : ℕ → ℕ → PulledValueCall
cross end more = Crossed (record { start = 0; first_end = end; full_buckets = more; size = 10 })

-- a row of a key in a part
abbrev row : ℕ → ℕ → ℕ → ℤ → Row ℤ
row number start end value = record { key = key number; start = start; end = end; value = value }

-- what is shown: rows, how many were dropped, and how many snapshots were missing
abbrev shown : List (Row ℤ) → ℕ → ℕ → Taken (Row ℤ)
shown rows dropped missing = record { rows = rows; not_kept = 0; dropped = dropped; missing = missing }

-- values that rise, of which zeros are shown
abbrev rising : DiffSpec
rising = record { agg = Sum; direction = Increasing; abs_reset = false; skip_zero = false; zero_base = false }

-- what a report shows after these calls, where a part admits two keys
abbrev after_calls : DiffSpec → List PulledValueCall → Taken (Row ℤ)
after_calls spec calls = report_by (calls_mean pulled_collecting)
    (record { base = 0; size = 10; bound = 2; spec = spec }) calls

-- a pull at the very end of a bucket belongs to it
before_the_end :
    after_calls rising
    (pull 0 (of 1 (pos 100) ∷ []) ∷ told 0 True ∷ pull 10 (of 1 (pos 130) ∷ []) ∷ cross 10 0 ∷ [])
    ≡ shown (row 1 0 10 (pos 30) ∷ []) 0 0
before_the_end = refl

-- and after its crossing to the next
after_the_end :
    after_calls rising
    (pull 0 (of 1 (pos 100) ∷ []) ∷ told 0 True ∷ cross 10 0 ∷ pull 10 (of 1 (pos 130) ∷ []) ∷ cross 20 0 ∷ [])
    ≡ shown (row 1 0 10 (pos 0) ∷ row 1 10 20 (pos 30) ∷ []) 0 0
after_the_end = refl

-- a failed pull leaves no snapshot, at the end of one interval and at the beginning of the next
failing : after_calls (record rising { skip_zero = true })
    (pull 0 (of 1 (pos 100) ∷ []) ∷ told 0 True ∷ pull 10 (of 1 (pos 130) ∷ []) ∷ cross 10 0 ∷ failed 20 ∷ cross 20 0
    ∷ pull 30 (of 1 (pos 90) ∷ []) ∷ cross 30 0 ∷ pull 40 (of 1 (pos 95) ∷ []) ∷ cross 40 0 ∷ [])
    ≡ shown (row 1 0 10 (pos 30) ∷ row 1 30 40 (pos 5) ∷ []) 0 2
failing = refl

-- a value that falls was reset: the whole value counts where that is asked for, and else there is no difference
abbrev resetting : List PulledValueCall
resetting =
    pull 0 (of 1 (pos 100) ∷ []) ∷ told 0 True ∷ pull 10 (of 1 (pos 130) ∷ []) ∷ cross 10 0
    ∷ pull 20 (of 1 (pos 90) ∷ []) ∷ cross 20 0 ∷ []

with_absolute_value : after_calls (record rising { abs_reset = true }) resetting
    ≡ shown (row 1 0 10 (pos 30) ∷ row 1 10 20 (pos 90) ∷ []) 0 0
with_absolute_value = refl

without_absolute_value : after_calls rising resetting ≡ shown (row 1 0 10 (pos 30) ∷ []) 0 0
without_absolute_value = refl

falling : after_calls (record rising { direction = Decreasing }) resetting ≡ shown (row 1 10 20 (pos 40) ∷ []) 0 0
falling = refl

-- three intervals in one part: what is pulled between them counts in none, and not to know ends one
abbrev three : List PulledValueCall
three =
    pull 0 (of 1 (pos 0) ∷ []) ∷ told 0 True ∷ pull 1 (of 1 (pos 5) ∷ []) ∷ told 2 Unknown ∷ pull 3 (of 1 (pos 50) ∷ [])
    ∷ told 4 True ∷ pull 5 (of 1 (pos 52) ∷ []) ∷ told 6 False ∷ pull 7 (of 1 (pos 100) ∷ []) ∷ told 8 True
    ∷ pull 9 (of 1 (pos 113) ∷ []) ∷ told 9 True ∷ cross 10 0 ∷ []

sums : after_calls rising three ≡ shown (row 1 0 10 (pos 20) ∷ []) 0 0
sums = refl

least : after_calls (record rising { agg = Min }) three ≡ shown (row 1 0 10 (pos 2) ∷ []) 0 0
least = refl

greatest : after_calls (record rising { agg = Max }) three ≡ shown (row 1 0 10 (pos 13) ∷ []) 0 0
greatest = refl

-- the integers of a key are summed, keys come as they stand at the end, and a new key has no difference, or one from 0
abbrev keys_change : List PulledValueCall
keys_change =
    pull 0 (of 7 (pos 3) ∷ of 8 (pos 1) ∷ []) ∷ told 0 True
    ∷ pull 5 (of 8 (pos 4) ∷ of 9 (pos 2) ∷ of 8 (pos 2) ∷ []) ∷ CutAt 9 ∷ []

a_new_key : after_calls rising keys_change ≡ shown (row 8 0 9 (pos 5) ∷ []) 0 0
a_new_key = refl

a_new_key_from_0 : after_calls (record rising { zero_base = true }) keys_change
    ≡ shown (row 8 0 9 (pos 5) ∷ row 9 0 9 (pos 2) ∷ []) 0 0
a_new_key_from_0 = refl

-- in each full bucket of a jump each key has a 0, which takes a place, or a snapshot is missed
a_jump : after_calls (record rising { direction = Any })
    (pull 0 (of 1 (pos 5) ∷ []) ∷ told 0 True ∷ pull 3 (of 1 (pos 1) ∷ of 2 (pos 6) ∷ of 3 (pos 7) ∷ [])
    ∷ cross 10 1 ∷ [])
    ≡ shown (row 1 0 10 (negsuc 3) ∷ row 1 10 20 (pos 0) ∷ row 2 10 20 (pos 0) ∷ []) 1 0
a_jump = refl

without_a_snapshot : after_calls rising (failed 0 ∷ told 0 True ∷ cross 10 2 ∷ []) ≡ shown [] 0 3
without_a_snapshot = refl
