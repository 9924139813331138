-- What starts and stops make of the inner keys of a longest duration, by what the code finds.
use Rattle.std.proofs.Common.{subst, ◌≡◌, ℕ, zero, suc, ◌+◌, ◌^◌, ◌<◌, ◌≤◌, ◌==◌, nat_lt, Bool, true, false, not, ◌&&◌, if◌then◌else◌, List, [], ◌∷◌, ◌++◌, map, length, slice_get, position, Option, Some, None, ◌⊎◌, inl, inr, ⊎_elim, refl, sym, ap, ◌∙◌, append_assoc, append-nil, arith}
use Rattle.std.specs.List.{flat_map}
use Rattle.std.specs.Map.{keys_of, values_of, lookup}
use Rattle.std.proofs.lemmas.Bool.{lt-ltb, le-ltb}
use Rattle.std.proofs.lemmas.Grind.{flat_map-append}
use Rattle.std.proofs.lemmas.List.{length-map}
use Rattle.std.proofs.lemmas.Option.{same_Some, none-some}
use Rattle.atom_record.specs.declared.value.MetricKey.{MetricKey}
use Rattle.bucket_meaning.specs.Kept.{count_in_u64}
use Rattle.bucket_meaning.specs.Marks.{Mark, Came, Lost}
use Rattle.config_types.specs.declared.parameters.PredSpec.{PredSpec}
use Rattle.dim_table.specs.declared.answer.Admit.{Admit}
use Rattle.dim_table.specs.declared.answer.Admit.TheVariants.{At, Full}
use Rattle.dim_table.specs.Table.{Table, keys, IsThere, IsNew, Admits, set_value_at, with_value_at, without}
use Rattle.dim_table.proofs.KeyLemmas.{Contains-from_place, missing}
use Rattle.predicate_state.specs.declared.event.PredEvent.{PredEvent}
use Rattle.predicate_state.specs.declared.event.PredEvent.TheVariants.{Start, Stop, StopAll}
use Rattle.predicate_state.specs.PredicateStates.{PredicateState, count_after_start, count_after_stop, with_new_key, with_key_count, without_key, state_after, state_after_start, state_after_stop}
use Rattle.predicate_state.specs.PredicateTable.{LeafKey, same_leaves}
use Rattle.predicate_state.proofs.KeyCountLemmas.{lookup_absent, value_at_position}
use Rattle.metric_producer.specs.Calls.{Got, Learned}
use Rattle.duration_metric.specs.declared.change.InnerEvent.{InnerEvent}
use Rattle.duration_metric.specs.declared.change.InnerChange.{InnerChange}
use Rattle.duration_metric.specs.declared.inner.Known.{Known}
use Rattle.duration_metric.specs.declared.sparse_books.SparseBooks.{SparseBooks}
use Rattle.duration_metric.specs.declared.sparse_keys.SparseEntry.{SparseEntry}
use Rattle.duration_metric.specs.declared.sparse_keys.SparseKeys.{SparseKeys}
use Rattle.duration_metric.specs.InnerKeys.{known_by}
use Rattle.duration_metric.specs.SparseCalls.{arrival_for, sparse_comes}
use Rattle.duration_metric.specs.SparseEntries.{entry_count, sparse_state, KeysStand, found_told, entry_marks, row_marks, started_entry, told_entry, fresh_entry, TakesKeyEvent, ListsKey, LearnsDelta}
use Rattle.duration_metric.specs.Tallies.{known_key}
use Rattle.duration_metric.specs.SparseBooksStand.{TakesLongestMarks}
use Rattle.duration_metric.proofs.SparseRowLemmas.{Row, same_decides, keys_counted}
use Rattle.duration_metric.proofs.SparseStepLemmas.{left_by, marks_are, recounted, passes, starts}
use Rattle.duration_metric.proofs.SparseEventLemmas.{takes_nothing, looked_up, takes_set, takes_left, takes_added, takes_away, takes_all}
use Rattle.duration_metric.proofs.SparseToldLemmas.{row_of_value, tells_none, tells_there, tells_nowhere}
use Rattle.duration_metric.proofs.SparseBooksLemmas.{then_more}

-- the row of a key at a place
row_of_key : (rows : List Row) (place : ℕ) (key : LeafKey) → slice_get (keys_of rows) place ≡ Some key
    → (entry : SparseEntry) × (slice_get rows place ≡ Some (key, entry))
row_of_key [] place key at = absurd (cc)
row_of_key (first ∷ rows) zero key at =
    let is : first.0 ≡ key = cc in (first.1, ap (λ k. Some (k, first.1)) is)
row_of_key (first ∷ rows) (suc place) key at = row_of_key rows place key at

-- its entry is the value there
pub value_of_row : (rows : List Row) (place : ℕ) (row : Row) → slice_get rows place ≡ Some row
    → slice_get (values_of rows) place ≡ Some row.1
value_of_row [] place row at = absurd (cc)
value_of_row (first ∷ rows) zero row at = let is : first ≡ row = cc in ap (λ (r : Row). Some r.1) is
value_of_row (first ∷ rows) (suc place) row at = value_of_row rows place row at

-- the row at a key's place is the key's
pub own_row : (rows : List Row) (place : ℕ) (key : LeafKey) (row : Row) → Some row ≡ slice_get rows place
    → slice_get (keys_of rows) place ≡ Some key → slice_get rows place ≡ Some (key, row.1)
own_row rows place key row at own =
    let there = row_of_key rows place key own in
    let is : row ≡ (key, there.0) = same_Some row (key, there.0) (at ∙ there.1) in
    there.1 ∙ ap (λ (r : Row). Some (key, r.1)) (sym is)

-- a row whose value was written
row_set : (rows : List Row) (place : ℕ) (key : LeafKey) (was now : SparseEntry) → slice_get rows place ≡ Some (key, was)
    → slice_get (set_value_at rows place now) place ≡ Some (key, now)
row_set [] place key was now at = absurd (none-some (key, was) at)
row_set (first ∷ rows) zero key was now at =
    ap (λ (r : Row). Some (r.0, now)) (same_Some first (key, was) at)
row_set (first ∷ rows) (suc place) key was now at = row_set rows place key was now at

-- another count leaves what was told
pub told_after : (old new : Table LeafKey SparseEntry) (place : ℕ) (key : LeafKey) (entry : SparseEntry) (count : ℕ)
    → slice_get old.rows place ≡ Some (key, entry) → new ≡ with_value_at old place (record entry { count = count })
    → found_told (slice_get new.rows place) ≡ known_key entry.known
told_after old new place key entry count there is =
    ap (λ (t : Table LeafKey SparseEntry). found_told (slice_get t.rows place)) is
    ∙ ap found_told (row_set old.rows place key entry (record entry { count = count }) there)

-- a time arrives for the key that was told
pub arrival_told : (known : Option Known) (time : ℕ)
    → map (λ key. Came (key, time)) (known_key known) ≡ arrival_for known time
arrival_told None time = refl
arrival_told (Some known) time = refl

-- the entry that a look-up finds is that of the row at the key's place
pub own_entry : (rows : List Row) (place : ℕ) (key : LeafKey) (entry gone : SparseEntry)
    → position (same_leaves key) (keys_of rows) ≡ Some place → slice_get rows place ≡ Some (key, entry)
    → Some gone ≡ lookup (same_leaves key) rows → gone ≡ entry
own_entry rows place key entry gone found there is =
    same_Some gone entry (is ∙ sym (value_at_position (same_leaves key) rows place (key, entry) found there))

-- and there is one
pub found_entry : (rows : List Row) (place : ℕ) (key : LeafKey) (entry : SparseEntry)
    → position (same_leaves key) (keys_of rows) ≡ Some place → slice_get rows place ≡ Some (key, entry)
    → None ≡ lookup (same_leaves key) rows → ⊥
found_entry rows place key entry found there none =
    none-some entry (none ∙ sym (value_at_position (same_leaves key) rows place (key, entry) found there))

-- a start counts one more
started_count : (nesting : Bool) (at : ℕ) (entry : SparseEntry)
    → (started_entry nesting at entry).count ≡ count_after_start nesting entry.count
started_count nesting at entry = by (nat_lt 0 entry.count) where
  by : (b : Bool)
      → (if b then record entry { count = count_after_start nesting entry.count }
      else record entry { count = count_after_start nesting entry.count; time = 0; since = at }).count
      ≡ count_after_start nesting entry.count
  by true = refl
  by false = refl

-- and makes it above 0
started_above : (nesting : Bool) (count : ℕ) → nat_lt 0 (count_after_start nesting count) ≡ true
started_above true count = lt-ltb 0 (count_in_u64 (count + 1)) (omega arith)
started_above false count = refl

-- what stays on brings nothing
stays_on : {M : Type 0} (b now : Bool) (brought : List M) → now ≡ true → (if b && not now then brought else []) ≡ []
stays_on true true brought is = refl
stays_on false true brought is = refl
stays_on b false brought is = absurd (cc)

-- a stop of what is on makes it off
turns_off : {M : Type 0} (b : Bool) (brought : List M)
    → (if b && true then brought else []) ≡ (if b then brought else [])
turns_off true brought = refl
turns_off false brought = refl

-- a stop leaves above 0 only what was
stopped_from : (nesting : Bool) (count : ℕ) → 0 < count_after_stop nesting count → 0 < count
stopped_from true count above = omega (arith, above)
stopped_from false count above = absurd (omega (arith, above))

module _ (old : SparseKeys) (at : ℕ) (key : LeafKey) where
  abbrev starting : InnerEvent
  starting = record { event = Start; key = key }

  abbrev stopping : InnerEvent
  stopping = record { event = Stop; key = key }

  -- a listed key is started
  pub started : (place : ℕ) (table : Table LeafKey SparseEntry)
      → position (same_leaves key) (keys old.table) ≡ Some place → slice_get (keys old.table) place ≡ Some key
      → ((entry : SparseEntry) → slice_get (values_of old.table.rows) place ≡ Some entry
      → table ≡ with_value_at old.table place (started_entry old.spec.nesting at entry))
      → TakesKeyEvent old (record old { table = table }) at starting []
  started place table found at_key written =
      let row = row_of_key old.table.rows place key at_key in
      let entry = row.0 in
      let there = row.1 in
      let more = started_entry old.spec.nesting at entry in
      let is = written entry (value_of_row old.table.rows place (key, entry) there) in
      subst (λ t. TakesKeyEvent old (record old { table = t }) at starting []) (sym is)
      (takes_set old at starting place (key, entry) found there more []
      (ap (state_after_start same_leaves old.spec (sparse_state old) key)
      (looked_up old at starting place (key, entry) found there)
      ∙ ap (with_key_count same_leaves (sparse_state old) key) (sym (started_count old.spec.nesting at entry)))
      (λ spec calls last has later is_row on.
      starts spec calls last at starting key entry old.spec.nesting is_row later has.others_are on)
      (λ spec calls last has later is_row. stays_on (nat_lt 0 entry.count) (nat_lt 0 more.count)
      (left_by spec calls at key)
      (ap (nat_lt 0) (started_count old.spec.nesting at entry) ∙ started_above old.spec.nesting entry.count)))

  -- A listed key is stopped, whose row stands at a place.
  module _ (place : ℕ) (entry : SparseEntry) (found : position (same_leaves key) (keys old.table) ≡ Some place)
      (there : slice_get old.table.rows place ≡ Some (key, entry)) where
    -- what a stop does by the look-up
    stop_is : state_after same_leaves old.spec (sparse_state old) Stop key
        ≡ state_after_stop same_leaves old.spec (sparse_state old) key (Some entry.count)
    stop_is =
        ap (state_after_stop same_leaves old.spec (sparse_state old) key)
        (looked_up old at stopping place (key, entry) found there)

    -- it stays listed with a count
    set_is : (less : ℕ) → less ≡ count_after_stop old.spec.nesting entry.count
        → (less == 0 && not old.unknown) ≡ false
        → state_after same_leaves old.spec (sparse_state old) Stop key
        ≡ with_key_count same_leaves (sparse_state old) key less
    set_is less is stays_listed =
        stop_is
        ∙ ap (λ n. if n == 0 && not old.unknown then without_key same_leaves (sparse_state old) key
        else with_key_count same_leaves (sparse_state old) key n) (sym is)
        ∙ ap (λ b. if b then without_key same_leaves (sparse_state old) key
        else with_key_count same_leaves (sparse_state old) key less) stays_listed

    -- it stays on
    pub stays_started : (less : ℕ) (table : Table LeafKey SparseEntry)
        → less ≡ count_after_stop old.spec.nesting entry.count → 0 < less
        → table ≡ with_value_at old.table place (record entry { count = less })
        → TakesKeyEvent old (record old { table = table }) at stopping []
    stays_started less table is above written =
        subst (λ t. TakesKeyEvent old (record old { table = t }) at stopping []) (sym written)
        (takes_set old at stopping place (key, entry) found there (record entry { count = less }) []
        (set_is less is (apart less old.unknown above))
        (λ spec calls last has later is_row on.
        passes spec calls (Got at stopping) at refl last key (record entry { count = less }) refl
        (recounted spec calls last key entry less
        (λ positive. stopped_from old.spec.nesting entry.count (subst (λ n. 0 < n) is positive)) is_row) later)
        (λ spec calls last has later is_row. stays_on (nat_lt 0 entry.count) (nat_lt 0 less)
        (left_by spec calls at key) (lt-ltb 0 less above))) where
          apart : (less : ℕ) (unknown : Bool) → 0 < less → (less == 0 && not unknown) ≡ false
          apart less unknown above = grind (arith, above)

    -- it goes off, and stays listed
    pub stops_listed : (table : Table LeafKey SparseEntry) (marks : List (Mark (MetricKey × ℕ))) → at < 2 ^ 64
        → 0 ≡ count_after_stop old.spec.nesting entry.count → old.unknown ≡ true
        → table ≡ with_value_at old.table place (record entry { count = 0 }) → marks ≡ entry_marks at entry
        → TakesKeyEvent old (record old { table = table }) at stopping marks
    stops_listed table marks fits is unknown written marks_is =
        subst (λ t. TakesKeyEvent old (record old { table = t }) at stopping marks) (sym written)
        (takes_set old at stopping place (key, entry) found there (record entry { count = 0 }) marks
        (set_is 0 is (ap not unknown))
        (λ spec calls last has later is_row on.
        passes spec calls (Got at stopping) at refl last key (record entry { count = 0 }) refl
        (recounted spec calls last key entry 0 (λ positive. absurd (omega (arith, positive))) is_row) later)
        (λ spec calls last has later is_row. turns_off (nat_lt 0 entry.count) (left_by spec calls at key)
        ∙ marks_are spec calls last at stopping key entry is_row later fits ∙ sym marks_is))

    -- it goes off, and leaves
    pub stops_gone : (table : Table LeafKey SparseEntry) (marks : List (Mark (MetricKey × ℕ))) → at < 2 ^ 64
        → 0 ≡ count_after_stop old.spec.nesting entry.count → old.unknown ≡ false
        → table ≡ without same_leaves old.table key → marks ≡ entry_marks at entry
        → TakesKeyEvent old (record old { table = table }) at stopping marks
    stops_gone table marks fits is known written marks_is =
        subst (λ t. TakesKeyEvent old (record old { table = t }) at stopping marks) (sym written)
        (subst (TakesKeyEvent old (record old { table = without same_leaves old.table key }) at stopping) (sym marks_is)
        (takes_left old at stopping place (key, entry) found there fits refl
        (stop_is
        ∙ ap (λ n. if n == 0 && not old.unknown then without_key same_leaves (sparse_state old) key
        else with_key_count same_leaves (sparse_state old) key n) (sym is)
        ∙ ap (λ b. if not b then without_key same_leaves (sparse_state old) key
        else with_key_count same_leaves (sparse_state old) key 0) known)))

  -- A key that isn't listed.
  module _ (absent : position (same_leaves key) (keys old.table) ≡ None) where
    -- a look-up finds none
    unfound : lookup (same_leaves key) (sparse_state old).counts ≡ None
    unfound =
        lookup_absent (same_leaves key) (map entry_count old.table.rows)
        (ap (position (same_leaves key)) (keys_counted old.table.rows) ∙ absent)

    -- a start lists it
    pub start_lists : state_after same_leaves old.spec (sparse_state old) Start key
        ≡ with_new_key old.spec.bound (sparse_state old) key 1
    start_lists = ap (state_after_start same_leaves old.spec (sparse_state old) key) unfound

    -- a stop lists it where it might have been started before
    pub stop_lists : old.unknown ≡ true → state_after same_leaves old.spec (sparse_state old) Stop key
        ≡ with_new_key old.spec.bound (sparse_state old) key 0
    stop_lists unknown =
        ap (state_after_stop same_leaves old.spec (sparse_state old) key) unfound
        ∙ ap (λ b. if b then with_new_key old.spec.bound (sparse_state old) key 0 else sparse_state old) unknown

    -- and does nothing where not
    pub stop_nothing : old.unknown ≡ false → TakesKeyEvent old old at stopping []
    stop_nothing known =
        takes_nothing old at stopping
        (ap (state_after_stop same_leaves old.spec (sparse_state old) key) unfound
        ∙ ap (λ b. if b then with_new_key old.spec.bound (sparse_state old) key 0 else sparse_state old) known)

    -- there is room
    room_is : (count : ℕ) (marks : List (Mark (MetricKey × ℕ))) (event : PredEvent)
        → state_after same_leaves old.spec (sparse_state old) event key
        ≡ with_new_key old.spec.bound (sparse_state old) key count
        → length old.table.rows < old.table.bound → [] ≡ marks
        → TakesKeyEvent old
        (record old { table = record old.table { rows = old.table.rows ++ (key, fresh_entry count at) ∷ [] } })
        at (record { event = event; key = key }) marks
    room_is count marks event acts room none spec calls last has later =
        let within : length (map entry_count old.table.rows) < old.spec.bound =
        omega (
          arith,
          length-map old.table.rows entry_count,
          has.bound_is,
          ap (λ (s : PredSpec). s.bound) has.spec_is,
          room,
        ) in
        subst (λ ms. KeysStand (record old {
          table = record old.table {
            rows = old.table.rows ++ (key, fresh_entry count at) ∷ [];
          };
        })
        spec (calls ++ Got at (record { event = event; key = key }) ∷ []) at
        × (sparse_comes spec calls at (record { event = event; key = key }) ≡ ms)) none
        (takes_added old at (record { event = event; key = key }) count
        (missing same_leaves same_decides (keys old.table) key absent)
        (acts ∙ ap (λ b. if b then record (sparse_state old) { counts = (sparse_state old).counts ++ (key, count) ∷ [] }
        else record (sparse_state old) { dropped = count_in_u64 ((sparse_state old).dropped + 1) })
        (lt-ltb (length (map entry_count old.table.rows)) old.spec.bound within))
        spec calls last has later)

    -- there is none
    full_is : (count dropped : ℕ) (marks : List (Mark (MetricKey × ℕ))) (event : PredEvent)
        → state_after same_leaves old.spec (sparse_state old) event key
        ≡ with_new_key old.spec.bound (sparse_state old) key count
        → length old.table.rows ≡ old.table.bound → dropped ≡ count_in_u64 (old.table.dropped + 1)
        → ((dropped ≡ old.table.dropped) × (marks ≡ [])) ⊎ ((dropped ≡ old.table.dropped + 1) × (marks ≡ Lost ∷ []))
        → TakesKeyEvent old (record old { table = record old.table { dropped = dropped } })
        at (record { event = event; key = key }) marks
    full_is count dropped marks event acts full is counts spec calls last has later =
        let past : old.spec.bound ≤ length (map entry_count old.table.rows) =
        omega (
          arith,
          length-map old.table.rows entry_count,
          has.bound_is,
          ap (λ (s : PredSpec). s.bound) has.spec_is,
          full,
        ) in
        takes_away old at (record { event = event; key = key }) dropped marks
        (acts ∙ ap (λ b. if b then record (sparse_state old) { counts = (sparse_state old).counts ++ (key, count) ∷ [] }
        else record (sparse_state old) { dropped = count_in_u64 ((sparse_state old).dropped + 1) })
        (le-ltb (length (map entry_count old.table.rows)) old.spec.bound past)
        ∙ ap (λ n. let s : PredicateState LeafKey = record (sparse_state old) { dropped = n } in s) (sym is))
        counts spec calls last has later

    -- it is listed, or counted as lost
    pub listed_or_lost : (count : ℕ) (table : Table LeafKey SparseEntry) (answer : Admit)
        (marks : List (Mark (MetricKey × ℕ))) → old.table.dropped < 2 ^ 64
        → Admits old.table table key (fresh_entry count at) answer
        → ((table.dropped ≤ old.table.dropped) × (marks ≡ []))
        ⊎ ((old.table.dropped < table.dropped) × (marks ≡ Lost ∷ []))
        → ListsKey old (record old { table = table }) at key count marks
    listed_or_lost count table (At place) marks fits admits counts event acts = ⊎_elim
        (λ (there : IsThere old.table table key place).
        absurd (missing same_leaves same_decides (keys old.table) key absent
        (Contains-from_place (keys old.table) place key there.at)))
        (λ (added : IsNew old.table table key (fresh_entry count at) place).
        let same : table.dropped ≡ old.table.dropped =
        ap (λ (t : Table LeafKey SparseEntry). t.dropped) added.added in
        let none : [] ≡ marks = elim counts [
          | inl few ↦ sym few.1
          | inr more ↦ absurd (omega (arith, same, more.0))
        ] in
        subst (λ t. TakesKeyEvent old (record old { table = t }) at (record { event = event; key = key }) marks)
        (sym added.added) (room_is count marks event acts added.room none))
        admits
    listed_or_lost count table Full marks fits admits counts event acts =
        let is : table.dropped ≡ count_in_u64 (old.table.dropped + 1) =
        ap (λ (t : Table LeafKey SparseEntry). t.dropped) admits.added in
        let now : table ≡ record old.table { dropped = table.dropped } =
        admits.added ∙ ap (λ n. let t : Table LeafKey SparseEntry = record old.table { dropped = n } in t) (sym is) in
        subst (λ t. TakesKeyEvent old (record old { table = t }) at (record { event = event; key = key }) marks)
        (sym now)
        (full_is count table.dropped marks event acts admits.full is (elim counts [
          | inl few ↦ inl (omega (arith, is, few.0, fits), few.1)
          | inr more ↦ inr (omega (arith, is, more.0, fits), more.1)
        ]))

-- all keys are stopped
pub stops_all : (old : SparseKeys) (at : ℕ) (key : LeafKey) (table : Table LeafKey SparseEntry) → at < 2 ^ 64
    → table ≡ record old.table { rows = [] }
    → TakesKeyEvent old (record old { unknown = false; table = table }) at (record { event = StopAll; key = key })
    (flat_map (row_marks at) old.table.rows)
stops_all old at key table fits written =
    subst (λ t. TakesKeyEvent old (record old { unknown = false; table = t }) at (record { event = StopAll; key = key })
    (flat_map (row_marks at) old.table.rows)) (sym written)
    (takes_all old at (record { event = StopAll; key = key }) fits refl)

-- no change tells nothing
pub learns_none : (it : SparseKeys) (at : ℕ) → LearnsDelta it it at (record { changes = [] })
learns_none it at spec calls last has later = tells_none spec calls at it last has later

-- one change more
pub learns_next : (old mid : SparseKeys) (at : ℕ) (table : Table LeafKey SparseEntry) (done : List InnerChange)
    (change : InnerChange) → at < 2 ^ 64 → LearnsDelta old mid at (record { changes = done })
    → ((entry : SparseEntry) → slice_get (values_of mid.table.rows) change.place ≡ Some entry
    → table ≡ with_value_at mid.table change.place (told_entry at (known_by change) entry))
    → (slice_get (values_of mid.table.rows) change.place ≡ None → table ≡ mid.table)
    → LearnsDelta old (record mid { table = table }) at (record { changes = done ++ change ∷ [] })
learns_next old mid at table done change fits learns there nowhere spec calls last has in_time =
    by (learns spec calls last has in_time) (slice_get (values_of mid.table.rows) change.place) refl where
      by : KeysStand mid spec (calls ++ Learned at (record { changes = done }) ∷ []) at
          → (value : Option SparseEntry) → slice_get (values_of mid.table.rows) change.place ≡ value
          → KeysStand (record mid { table = table }) spec
          (calls ++ Learned at (record { changes = done ++ change ∷ [] }) ∷ []) at
      by before None is =
          subst (λ t. KeysStand (record mid { table = t }) spec
          (calls ++ Learned at (record { changes = done ++ change ∷ [] }) ∷ []) at) (sym (nowhere is))
          (tells_nowhere spec calls at done change mid before is)
      by before (Some entry) is =
          let row = row_of_value mid.table.rows change.place entry is in
          subst (λ t. KeysStand (record mid { table = t }) spec
          (calls ++ Learned at (record { changes = done ++ change ∷ [] }) ∷ []) at) (sym (there entry is))
          (tells_there spec calls at done change mid before (row.0, entry) fits row.1)

-- one row more was put down
pub notes_next : (at : ℕ) (old mid new : SparseBooks) (all done rest later : List Row) (row : Row)
    → all ≡ done ++ rest → TakesLongestMarks old mid (flat_map (row_marks at) done) → rest ≡ row ∷ later
    → TakesLongestMarks mid new (row_marks at row)
    → (so_far : List Row) × (all ≡ so_far ++ later) × TakesLongestMarks old new (flat_map (row_marks at) so_far)
notes_next at old mid new all done rest later row split noted first one = (
  done ++ row ∷ [],
  split ∙ ap (λ l. done ++ l) first ∙ sym (append_assoc done (row ∷ []) later),
  subst (TakesLongestMarks old new)
      (ap (λ l. flat_map (row_marks at) done ++ l) (sym (append-nil (row_marks at row)))
      ∙ sym (flat_map-append (row_marks at) done (row ∷ [])))
      (then_more old mid new (flat_map (row_marks at) done) (row_marks at row) noted one),
)
