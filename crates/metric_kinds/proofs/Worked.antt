-- Worked cases of the kinds of metric, by computing.
use Rattle.std.proofs.Common.{◌≡◌, ℕ, ℤ, pos, negsuc, ◌-◌, ◌^◌, true, false, List, [], ◌∷◌, Some, None, refl}
use Rattle.atom_record.specs.declared.atom.Atom.{Atom}
use Rattle.atom_record.specs.declared.value.Value.TheVariants.{Int, Long, Bool}
use Rattle.atom_record.specs.declared.value.Leaf.TheVariants.{One, Many}
use Rattle.atom_record.specs.declared.value.MetricKey.{MetricKey}
use Rattle.bucket_meaning.specs.Marks.{Mark, Ends, Came, Missed, Asked}
use Rattle.bucket_meaning.specs.Rows.{report}
use Rattle.config_types.specs.declared.metric.Aggregation.TheVariants.{Sum, Min, Max}
use Rattle.metric_producer.specs.declared.row.CountCell.{CountCell}
use Rattle.metric_producer.specs.declared.row.Row.{Row}
use Rattle.metric_kinds.specs.Counts.{no_key, count_kind}
use Rattle.metric_kinds.specs.Values.{integer_at, aggregate_of, value_kind}
use Rattle.metric_kinds.specs.Gauges.{gauge_kind}
use Rattle.metric_kinds.specs.Events.{EventAtom, event_key, event_kind}

-- integers are Int and Long, and stand alone at their leaf
an_integer : integer_at (One (Long (negsuc 0))) ≡ Some (negsuc 0)
an_integer = refl

no_integer : integer_at (One (Bool true)) ≡ None
no_integer = refl

no_list_of_integers : integer_at (Many (Int (pos 1) ∷ [])) ≡ None
no_list_of_integers = refl

-- the ends of a number of 128 bits, step by step
past_the_greatest : aggregate_of Sum (pos (2 ^ 127 - 1) ∷ pos 1 ∷ negsuc 0 ∷ []) ≡ pos (2 ^ 127 - 2)
past_the_greatest = refl

past_the_least : aggregate_of Sum (negsuc (2 ^ 127 - 1) ∷ negsuc 0 ∷ pos 1 ∷ []) ≡ negsuc (2 ^ 127 - 2)
past_the_least = refl

-- a key of a number
abbrev key : ℕ → MetricKey
key n = record { dims = One (Int (pos n)) ∷ []; slices = [] }

-- a key is counted
abbrev counted : ℕ → Mark (MetricKey × ℕ)
counted n = Came (key n, 1)

-- the row of a key that was counted
abbrev count : ℕ → ℕ → ℕ → ℕ → Row CountCell
count n start end number =
    record { key = key n; start = start; end = end; value = record { number = number; overflow = false } }

-- an overflow row
abbrev overflow : ℕ → ℕ → ℕ → Row CountCell
overflow start end number =
    record { key = no_key; start = start; end = end; value = record { number = number; overflow = true } }

-- the arrivals of keys that found no room are one row of their part, the last, and are dropped all the same; a part
-- in which each key found room has no such row
spilled : report (count_kind true) 1 0 (counted 1 ∷ counted 2 ∷ counted 3 ∷ counted 1 ∷ counted 3 ∷ Ends 10
    ∷ counted 2 ∷ counted 2 ∷ Ends 20 ∷ counted 1 ∷ counted 2 ∷ Ends 30 ∷ [])
    ≡ record {
      rows = count 1 0 10 2 ∷ overflow 0 10 3 ∷ count 2 10 20 2 ∷ count 1 20 30 1 ∷ overflow 20 30 1 ∷ [];
      not_kept = 0;
      dropped = 4;
      missing = 0;
    }
spilled = refl

-- a metric that doesn't gather them drops as many, and shows none
not_gathered : report (count_kind false) 1 0 (counted 1 ∷ counted 2 ∷ counted 3 ∷ counted 1 ∷ Ends 10 ∷ [])
    ≡ record { rows = count 1 0 10 2 ∷ []; not_kept = 0; dropped = 2; missing = 0 }
not_gathered = refl

-- the row of the empty key stands beside the overflow row
beside_the_empty_key : report (count_kind true) 1 0 (Came (no_key, 1) ∷ counted 2 ∷ counted 3 ∷ Ends 10 ∷ [])
    ≡ record {
      rows =
          record { key = no_key; start = 0; end = 10; value = record { number = 1; overflow = false } }
          ∷ overflow 0 10 2 ∷ [];
      not_kept = 0;
      dropped = 2;
      missing = 0;
    }
beside_the_empty_key = refl

-- an integer of a key arrives
abbrev came : ℕ → ℤ → Mark (MetricKey × ℤ)
came n integer = Came (key n, integer)

-- a row of a key
abbrev row : ℕ → ℕ → ℕ → ℤ → Row ℤ
row n start end value = record { key = key n; start = start; end = end; value = value }

-- a sum of 0 isn't shown where zeros are hidden, but its key took the one place: the other key was dropped
hidden_zero : report (value_kind Sum true) 1 0 (came 1 (pos 3) ∷ came 2 (pos 5) ∷ came 1 (negsuc 2) ∷ Ends 10
    ∷ came 2 (pos 5) ∷ Ends 20 ∷ [])
    ≡ record { rows = row 2 10 20 (pos 5) ∷ []; not_kept = 0; dropped = 1; missing = 0 }
hidden_zero = refl

-- where they aren't, it is
shown_zero : report (value_kind Sum false) 1 0 (came 1 (pos 3) ∷ came 1 (negsuc 2) ∷ Ends 10 ∷ [])
    ≡ record { rows = row 1 0 10 (pos 0) ∷ []; not_kept = 0; dropped = 0; missing = 0 }
shown_zero = refl

-- what is hidden is the aggregate of a row, and no arrival: the least of 0 and 3 is hidden, and the greatest isn't
least_zero : report (value_kind Min true) 1 0 (came 1 (pos 3) ∷ came 1 (pos 0) ∷ Ends 10 ∷ [])
    ≡ record { rows = []; not_kept = 0; dropped = 0; missing = 0 }
least_zero = refl

greatest_above_zero : report (value_kind Max true) 1 0 (came 1 (pos 0) ∷ came 1 (pos 3) ∷ Ends 10 ∷ [])
    ≡ record { rows = row 1 0 10 (pos 3) ∷ []; not_kept = 0; dropped = 0; missing = 0 }
greatest_above_zero = refl

-- a sum is exact until its row is made: past 64 bits it is shown as their end
ends_of_64_bits : report (value_kind Sum true) 2 0
    (came 1 (pos (2 ^ 63)) ∷ came 2 (negsuc (2 ^ 64)) ∷ came 1 (pos 1) ∷ came 2 (pos (2 ^ 64)) ∷ Ends 10 ∷ [])
    ≡ record {
      rows = row 1 0 10 (pos (2 ^ 63 - 1)) ∷ row 2 0 10 (negsuc 0) ∷ [];
      not_kept = 0;
      dropped = 0;
      missing = 0;
    }
ends_of_64_bits = refl

-- an atom of an id
abbrev atom : ℕ → Atom
atom id = record { id = id; fields = [] }

-- two samples of a key, and a third that is left out; the other key is dropped; where a snapshot was missing is counted
two_samples : report (gauge_kind 2) 1 0
    (Came (key 1, atom 7) ∷ Came (key 2, atom 7) ∷ Came (key 1, atom 8) ∷ Missed ∷ Came (key 1, atom 9) ∷ Ends 10 ∷ [])
    ≡ record {
      rows = record { key = key 1; start = 0; end = 10; value = atom 7 ∷ atom 8 ∷ [] } ∷ [];
      not_kept = 0;
      dropped = 1;
      missing = 1;
    }
two_samples = refl

-- an event and when it came
abbrev event : ℕ → EventAtom
event at = record { at = at; atom = atom 7 }

-- its row
abbrev shown_event : ℕ → Row (List Atom)
shown_event at = record { key = record { dims = []; slices = [] }; start = at; end = at; value = atom 7 ∷ [] }

-- events at one time are rows of their own, which begin and end at it; none is dropped, and none is shown twice
events_apart : report event_kind 1 0
    (Came (event_key, event 2) ∷ Ends 2 ∷ Asked ∷ Came (event_key, event 4) ∷ Ends 4 ∷ Came (event_key, event 4)
    ∷ Ends 4 ∷ []) ≡ record { rows = shown_event 4 ∷ shown_event 4 ∷ []; not_kept = 0; dropped = 0; missing = 0 }
events_apart = refl
