-- What the inner keys of a longest duration stand for, and what an event makes of them.
use Rattle.std.specs.Prelude.{◌≡◌, ℕ, ◌+◌, ◌-◌, ◌<◌, ◌≤◌, nat_lt, Bool, false, List, [], ◌∷◌, ◌++◌, map, slice_get, Option, Some, None, if◌then◌else◌}
use Rattle.std.specs.List.{AllByRecursion, IsDistinct}
use Rattle.atom_record.specs.declared.value.MetricKey.{MetricKey}
use Rattle.bucket_meaning.specs.Guard.{is_among}
use Rattle.bucket_meaning.specs.Kept.{count_in_u64}
use Rattle.bucket_meaning.specs.Marks.{Mark, Came, Lost}
use Rattle.config_types.specs.declared.parameters.PredSpec.{PredSpec}
use Rattle.dim_table.specs.Table.{keys}
use Rattle.predicate_state.specs.PredicateStates.{PredicateState, count_after_start, with_new_key, state_after}
use Rattle.predicate_state.specs.declared.event.PredEvent.{PredEvent}
use Rattle.predicate_state.specs.PredicateTable.{LeafKey, same_leaves}
use Rattle.metric_producer.specs.Calls.{Got, Learned}
use Rattle.duration_metric.specs.declared.change.InnerEvent.{InnerEvent}
use Rattle.duration_metric.specs.declared.change.InnerDelta.{InnerDelta}
use Rattle.duration_metric.specs.declared.inner.Known.{Known}
use Rattle.duration_metric.specs.declared.sparse_keys.SparseEntry.{SparseEntry}
use Rattle.duration_metric.specs.declared.sparse_keys.SparseKeys.{SparseKeys}
use Rattle.duration_metric.specs.declared.sparse_keys.Turn.{Turn}
use Rattle.duration_metric.specs.declared.sparse_keys.Turn.TheVariants as turns
use Rattle.duration_metric.specs.InnerKeys.{DurationCall, inner_state, inner_keys, last_known}
use Rattle.duration_metric.specs.Tallies.{known_key}
use Rattle.duration_metric.specs.SparseCalls.{is_told_timed, arrival_for, is_on, running_time, sparse_comes}

-- the time of an entry up to an end
abbrev pub entry_time : SparseEntry → ℕ → ℕ
entry_time entry end = entry.time + (if is_told_timed entry.known then end - entry.since else 0)

-- a row as its key and its count
abbrev pub entry_count : LeafKey × SparseEntry → LeafKey × ℕ
entry_count row = (row.0, row.1.count)

-- what is known of these keys, as of those of a predicate
abbrev pub sparse_state : SparseKeys → PredicateState LeafKey
sparse_state it = record { unknown = it.unknown; counts = map entry_count it.table.rows; dropped = it.table.dropped }

-- An entry is that of a key after these calls, none of which came after a time: it has what was told last of the key
-- and, while the key is on, its time.
pub record EntryStands (spec : PredSpec) (calls : List DurationCall) (last : ℕ) (key : LeafKey) (entry : SparseEntry)
    : Type 0 where
  pub known_is : entry.known ≡ last_known spec calls key
  pub since_within : entry.since ≤ last
  pub time_within : entry.time ≤ entry.since
  pub time_is : 0 < entry.count → (end : ℕ) → last ≤ end → running_time spec calls end key ≡ entry_time entry end

-- a row has the entry of its key
abbrev pub RowStands : PredSpec → List DurationCall → ℕ → LeafKey × SparseEntry → Type 0
RowStands spec calls last row = EntryStands spec calls last row.0 row.1

-- nothing is known of keys that aren't listed, and keys that aren't on have no time
pub record OthersStand (spec : PredSpec) (calls : List DurationCall) : Type 0 where
  pub unlisted : (key : LeafKey) → is_among same_leaves key (inner_keys spec calls) ≡ false
      → last_known spec calls key ≡ None
  pub off : (key : LeafKey) → is_on spec calls key ≡ false → (end : ℕ) → running_time spec calls end key ≡ 0

-- The keys are kept as the spec says, and are the inner keys after these calls, each with its entry.
pub record KeysStand (it : SparseKeys) (spec : PredSpec) (calls : List DurationCall) (last : ℕ) : Type 0 where
  pub spec_is : it.spec ≡ spec
  pub bound_is : it.table.bound ≡ spec.bound
  pub state_is : sparse_state it ≡ inner_state spec calls
  pub distinct : IsDistinct same_leaves (keys it.table)
  pub rows_are : AllByRecursion (RowStands spec calls last) it.table.rows
  pub others_are : OthersStand spec calls

-- an entry's time up to an end, in a number of 64 bits
abbrev pub saved_time : SparseEntry → ℕ → ℕ
saved_time entry end = count_in_u64 (entry_time entry end)

-- what a row brings whose key goes off at a time
abbrev pub entry_marks : ℕ → SparseEntry → List (Mark (MetricKey × ℕ))
entry_marks at entry = if nat_lt 0 entry.count then arrival_for entry.known (saved_time entry at) else []

-- the marks of a row whose key leaves at a time
abbrev pub row_marks : ℕ → LeafKey × SparseEntry → List (Mark (MetricKey × ℕ))
row_marks at row = entry_marks at row.1

-- the output key that was told of a row, if there is one
abbrev pub found_told : Option (LeafKey × SparseEntry) → List MetricKey
found_told None = []
found_told (Some row) = known_key row.1.known

-- what a turn brings, where these rows are left
abbrev pub turn_marks : List (LeafKey × SparseEntry) → Turn → List (Mark (MetricKey × ℕ))
turn_marks rows turns.Stays = []
turn_marks rows turns.Lost = Lost ∷ []
turn_marks rows (turns.Off key time) = Came (key, time) ∷ []
turn_marks rows (turns.OffAt place time) = map (λ key. Came (key, time)) (found_told (slice_get rows place))

-- an entry with another count; one that goes on begins anew
abbrev pub started_entry : Bool → ℕ → SparseEntry → SparseEntry
started_entry nesting at entry =
    if nat_lt 0 entry.count
    then record entry { count = count_after_start nesting entry.count }
    else record entry { count = count_after_start nesting entry.count; time = 0; since = at }

-- an entry of which something is told; how its condition was before counts up to then
abbrev pub told_entry : ℕ → Known → SparseEntry → SparseEntry
told_entry at known entry = record entry { known = Some known; time = saved_time entry at; since = at }

-- a new entry
abbrev pub fresh_entry : ℕ → ℕ → SparseEntry
fresh_entry count at = record { count = count; known = None; time = 0; since = at }

-- before any call, whenever that is
abbrev pub IsOfNoCalls : SparseKeys → PredSpec → Type 0
IsOfNoCalls it spec = (last : ℕ) → KeysStand it spec [] last

-- whatever calls the old one stood for, at a later time the new one stands for an event more, which brings these marks
abbrev pub TakesKeyEvent : SparseKeys → SparseKeys → ℕ → InnerEvent → List (Mark (MetricKey × ℕ)) → Type 0
TakesKeyEvent old new at event marks =
    (spec : PredSpec) (calls : List DurationCall) (last : ℕ) → KeysStand old spec calls last → last ≤ at
    → KeysStand new spec (calls ++ Got at event ∷ []) at × (sparse_comes spec calls at event ≡ marks)

-- a new key is listed with a count, or finds no room: by any event that does so
abbrev pub ListsKey : SparseKeys → SparseKeys → ℕ → LeafKey → ℕ → List (Mark (MetricKey × ℕ)) → Type 0
ListsKey old new at key count marks =
    (event : PredEvent)
    → state_after same_leaves old.spec (sparse_state old) event key
    ≡ with_new_key old.spec.bound (sparse_state old) key count
    → TakesKeyEvent old new at (record { event = event; key = key }) marks

-- whatever calls the old one stood for, at a later time the new one stands for a condition more
abbrev pub LearnsDelta : SparseKeys → SparseKeys → ℕ → InnerDelta → Type 0
LearnsDelta old new at delta =
    (spec : PredSpec) (calls : List DurationCall) (last : ℕ) → KeysStand old spec calls last → last ≤ at
    → KeysStand new spec (calls ++ Learned at delta ∷ []) at
