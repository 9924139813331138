-- Durations by key: how the rows of a part are made, where times are summed and where the longest is shown.
use Rattle.std.specs.Prelude.{ℕ, ◌==◌, max, Bool, not, List, [], ◌∷◌, map, fold, sum, if◌then◌else◌}
use Rattle.std.specs.List.{after_last}
use Rattle.std.specs.Cmp.Lexicographic.{pointwise}
use Rattle.std.proofs.Common.{refl}
use Rattle.atom_record.specs.declared.value.MetricKey.{MetricKey}
use Rattle.bucket_meaning.specs.Guard.{arrival_key}
use Rattle.bucket_meaning.specs.Marks.{Mark, Came, Edges}
use Rattle.bucket_meaning.specs.Rows.{Kind, not_shown}
use Rattle.metric_producer.specs.declared.row.Row.{Row}
use Rattle.metric_kinds.specs.Keys.{is_same_key}
use Rattle.metric_kinds.specs.Counts.{row_weight}
use Rattle.metric_kinds.specs.Runs.{Active, time_so, runs, run_keys, run_keys-are}

-- the row of a time; no time has none
abbrev pub duration_row : ℕ → ℕ → MetricKey → ℕ → List (Row ℕ)
duration_row start end key time =
    if time == 0 then [] else record { key = key; start = start; end = end; value = time } ∷ []

-- a metric that sums times: what comes is the list of active keys, wherever it changes; each run arrives where it
-- begins, and a key's row has the sum of its runs
abbrev pub sum_kind : Kind (Active MetricKey) MetricKey ℕ (Row ℕ)
sum_kind = record {
  same = is_same_key;
  arrivals = runs is_same_key;
  keys = run_keys is_same_key;
  keys_are = run_keys-are is_same_key;
  row = λ start end key lengths. duration_row start end key (sum lengths);
  others = not_shown;
  weight = row_weight;
}

-- what comes where the active keys were these and are those from a time on: nothing, if they are the same in order
abbrev pub turned : ℕ → List MetricKey → List MetricKey → List (Mark (Active MetricKey))
turned at before now =
    if pointwise is_same_key before now then [] else Came (record { at = at; keys = now }) ∷ []

-- at a boundary nothing is closed, and the next part begins with the keys that are active there
abbrev pub active_edges : List MetricKey → Edges (Active MetricKey)
active_edges keys = record {
  closing = λ at. [];
  closing_again = λ at. [];
  opening = λ at. Came (record { at = at; keys = keys }) ∷ [];
}

-- the longest of some times
abbrev pub longest : List ℕ → ℕ
longest times = fold max 0 times

-- a metric that shows the longest time: what arrives is a key with a time, and a key's row has the longest
abbrev pub longest_kind : Kind (MetricKey × ℕ) MetricKey ℕ (Row ℕ)
longest_kind = record {
  same = is_same_key;
  arrivals = λ came end. came;
  keys = λ came. map arrival_key came;
  keys_are = λ came end. refl;
  row = λ start end key times. duration_row start end key (longest times);
  others = not_shown;
  weight = row_weight;
}

-- A key of the predicate that a duration times, after a step: when that was, whether the key was on, and whether its
-- condition was true.
pub record KeyMoment : Type 0 where
  pub at : ℕ
  pub is_on : Bool
  pub holds : Bool

-- for how long, up to a time, a key that is on had a true condition since it was last off
abbrev pub time_since_off : List KeyMoment → ℕ → ℕ
time_since_off moments end =
    time_so (λ (moment : KeyMoment). moment.at) (λ (moment : KeyMoment). moment.holds)
    (after_last (λ (moment : KeyMoment). not moment.is_on) moments) end
