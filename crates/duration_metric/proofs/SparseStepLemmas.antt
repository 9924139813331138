-- The inner keys of a longest duration, once one more call has come.
use Rattle.std.proofs.Common.{◌≡◌, ℕ, ◌+◌, ◌-◌, ◌^◌, ◌<◌, ◌≤◌, nat_lt, Bool, true, false, not, if◌then◌else◌, List, [], ◌∷◌, ◌++◌, map, filter, replicate, length, slice_get, Option, Some, None, refl, sym, ap, ◌∙◌, arith}
use Rattle.std.specs.List.{AllByRecursion, IsDistinct, flat_map, last_or}
use Rattle.std.specs.Map.{keys_of}
use Rattle.std.specs.Option.{option_map, option_map_or, option_and_then}
use Rattle.std.proofs.lemmas.Bool.{lt-ltb, ltb-true}
use Rattle.std.proofs.lemmas.List.{length-map}
use Rattle.std.proofs.lemmas.Option.{slice_get-map}
use Rattle.atom_record.specs.declared.value.MetricKey.{MetricKey}
use Rattle.bucket_meaning.specs.Guard.{is_among}
use Rattle.bucket_meaning.specs.Marks.{Mark, Lost}
use Rattle.config_types.specs.declared.parameters.PredSpec.{PredSpec}
use Rattle.dim_table.specs.Table.{keys}
use Rattle.predicate_state.specs.PredicateStates.{PredicateState, count_after_start, state_after}
use Rattle.predicate_state.specs.PredicateTable.{LeafKey, same_leaves}
use Rattle.metric_producer.specs.Calls.{Got}
use Rattle.duration_metric.specs.declared.change.InnerEvent.{InnerEvent}
use Rattle.duration_metric.specs.declared.inner.Known.{Known}
use Rattle.duration_metric.specs.declared.sparse_keys.SparseEntry.{SparseEntry}
use Rattle.duration_metric.specs.declared.sparse_keys.SparseKeys.{SparseKeys}
use Rattle.duration_metric.specs.InnerKeys.{DurationCall, says, inner_state, inner_keys, inner_lost, told_to, last_known, told_truth, was_told}
use Rattle.duration_metric.specs.SparseCalls.{turn_times, is_told_timed, arrival_for, running_keys, is_on, running_time, keys_gone, sparse_comes}
use Rattle.duration_metric.specs.SparseEntries.{entry_time, saved_time, entry_count, sparse_state, EntryStands, RowStands, OthersStand, KeysStand, entry_marks, started_entry}
use Rattle.duration_metric.proofs.SparseKnownLemmas.{state_got, known-unlisted, known-listed, time-off, time-on}
use Rattle.duration_metric.proofs.SparseRowLemmas.{Row, all_at, all_map, all_both, on_keys, keys_counted, rows_listed, rows_on, IsOnAsCounted, brings, gone_rows}

-- a time goes on
goes_on : (b : Bool) (time since at end : ℕ) → since ≤ at → at ≤ end
    → (time + (if b then at - since else 0)) + (if b then end - at else 0) ≡ time + (if b then end - since else 0)
goes_on true time since at end first second = omega (arith, first, second)
goes_on false time since at end first second = omega arith

-- an entry's time is no longer than what has passed
within : (b : Bool) (time since at : ℕ) → time ≤ since → since ≤ at → time + (if b then at - since else 0) ≤ at
within true time since at first second = omega (arith, first, second)
within false time since at first second = omega (arith, first, second)

-- an entry's time fits
pub saved_is : (entry : SparseEntry) (at : ℕ) → entry.time ≤ entry.since → entry.since ≤ at → at < 2 ^ 64
    → saved_time entry at ≡ entry_time entry at
saved_is entry at first second fits =
    let most = within (is_told_timed entry.known) entry.time entry.since at first second in omega (arith, most, fits)

-- and no more than the time at which it is asked for
pub saved_within : (entry : SparseEntry) (at : ℕ) → entry.time ≤ entry.since → entry.since ≤ at
    → saved_time entry at ≤ at
saved_within entry at first second =
    let most = within (is_told_timed entry.known) entry.time entry.since at first second in omega (arith, most)

module _ (spec : PredSpec) (calls : List DurationCall) where
  -- the keys of an object that knows what these calls tell
  pub keys_are : (it : SparseKeys) → sparse_state it ≡ inner_state spec calls
      → inner_keys spec calls ≡ keys_of it.table.rows
  keys_are it is =
      ap (λ (s : PredicateState LeafKey). keys_of s.counts) (sym is) ∙ keys_counted it.table.rows

  -- those of them that are on
  pub on_are : (it : SparseKeys) → sparse_state it ≡ inner_state spec calls
      → running_keys spec calls ≡ on_keys (map entry_count it.table.rows)
  on_are it is = ap (λ (s : PredicateState LeafKey). on_keys s.counts) (sym is)

  -- each of its rows is on as its count says
  pub all_counted : (it : SparseKeys) → sparse_state it ≡ inner_state spec calls
      → IsDistinct same_leaves (keys it.table)
      → AllByRecursion (IsOnAsCounted (λ key. arrival_for None 0) (is_on spec calls)) it.table.rows
  all_counted it is distinct =
      all_map (λ (row : Row). is_among same_leaves row.0 (on_keys (map entry_count it.table.rows))
      ≡ nat_lt 0 row.1.count)
      (IsOnAsCounted (λ key. arrival_for None 0) (is_on spec calls)) it.table.rows
      (λ row on. ap (is_among same_leaves row.0) (on_are it is) ∙ on) (rows_on it.table.rows distinct)

  -- each of its keys is listed
  pub all_listed : (it : SparseKeys) → sparse_state it ≡ inner_state spec calls
      → AllByRecursion (λ (row : Row). is_among same_leaves row.0 (inner_keys spec calls) ≡ true) it.table.rows
  all_listed it is =
      all_map (λ (row : Row). is_among same_leaves row.0 (keys_of it.table.rows) ≡ true)
      (λ (row : Row). is_among same_leaves row.0 (inner_keys spec calls) ≡ true) it.table.rows
      (λ row listed. ap (is_among same_leaves row.0) (keys_are it is) ∙ listed) (rows_listed it.table.rows)

  -- an entry with another count, which is above 0 only where it was
  pub recounted : (last : ℕ) (key : LeafKey) (entry : SparseEntry) (count : ℕ) → (0 < count → 0 < entry.count)
      → EntryStands spec calls last key entry → EntryStands spec calls last key (record entry { count = count })
  recounted last key entry count was is = record {
    known_is = is.known_is;
    since_within = is.since_within;
    time_within = is.time_within;
    time_is = λ positive. is.time_is (was positive);
  }

-- a call at a time that may turn keys on or off
module _ (spec : PredSpec) (calls : List DurationCall) (call : DurationCall) (at : ℕ)
    (turns : turn_times call ≡ at ∷ []) where
  -- what a row is to be then, by whether its key is listed and on
  abbrev pub Becomes : Row → Type 0
  Becomes row =
      is_among same_leaves row.0 (inner_keys spec (calls ++ call ∷ [])) ≡ true
      → is_on spec (calls ++ call ∷ []) row.0 ≡ nat_lt 0 row.1.count
      → RowStands spec (calls ++ call ∷ []) at row

  -- an entry of which nothing was told goes on
  pub passes : (last : ℕ) (key : LeafKey) (entry : SparseEntry) → told_to spec key calls call ≡ []
      → EntryStands spec calls last key entry → last ≤ at → Becomes (key, entry)
  passes last key entry none is later listed on =
      let known_now : last_known spec (calls ++ call ∷ []) key ≡ entry.known =
      known-listed spec calls call key listed ∙ ap (last_or (last_known spec calls key)) none ∙ sym is.known_is in
      record {
        known_is = sym known_now;
        since_within = omega (arith, is.since_within, later);
        time_within = is.time_within;
        time_is = λ positive end reached.
            time-on spec calls call key at end turns (on ∙ lt-ltb 0 entry.count positive)
            ∙ ap (λ n. n + (if is_told_timed (last_known spec (calls ++ call ∷ []) key) then end - at else 0))
            (is.time_is positive at later)
            ∙ ap (λ k. entry_time entry at + (if is_told_timed k then end - at else 0)) known_now
            ∙ goes_on (is_told_timed entry.known) entry.time entry.since at end (omega (arith, is.since_within, later))
            reached;
      }

  -- an entry of a key that wasn't on begins
  pub begins : (key : LeafKey) (count : ℕ) (known : Option Known) → told_to spec key calls call ≡ []
      → known ≡ last_known spec calls key → is_on spec calls key ≡ false → OthersStand spec calls
      → Becomes (key, record { count = count; known = known; time = 0; since = at })
  begins key count known none is off others listed on =
      let known_now : last_known spec (calls ++ call ∷ []) key ≡ known =
      known-listed spec calls call key listed ∙ ap (last_or (last_known spec calls key)) none ∙ sym is in
      record {
        known_is = sym known_now;
        since_within = omega arith;
        time_within = omega arith;
        time_is = λ positive end reached.
            time-on spec calls call key at end turns (on ∙ lt-ltb 0 count positive)
            ∙ ap (λ n. n + (if is_told_timed (last_known spec (calls ++ call ∷ []) key) then end - at else 0))
            (others.off key off at)
            ∙ ap (λ k. 0 + (if is_told_timed k then end - at else 0)) known_now;
      }

  -- nothing is known of other keys
  pub others_after : OthersStand spec (calls ++ call ∷ [])
  others_after = record {
    unlisted = λ key none. known-unlisted spec calls call key none;
    off = λ key none end. time-off spec calls call key at end turns none;
  }

  -- an object that knows what all these calls tell
  pub turned : (old new : SparseKeys) (last : ℕ) → KeysStand old spec calls last → new.spec ≡ old.spec
      → new.table.bound ≡ old.table.bound → sparse_state new ≡ inner_state spec (calls ++ call ∷ [])
      → IsDistinct same_leaves (keys new.table) → AllByRecursion Becomes new.table.rows
      → KeysStand new spec (calls ++ call ∷ []) at
  turned old new last has same_spec same_bound state distinct become = record {
    spec_is = same_spec ∙ has.spec_is;
    bound_is = same_bound ∙ has.bound_is;
    state_is = state;
    distinct = distinct;
    rows_are =
        all_both (IsOnAsCounted (λ key. arrival_for None 0) (is_on spec (calls ++ call ∷ [])))
        (λ (row : Row). is_on spec (calls ++ call ∷ []) row.0 ≡ nat_lt 0 row.1.count
        → RowStands spec (calls ++ call ∷ []) at row)
        (RowStands spec (calls ++ call ∷ []) at) new.table.rows (λ row on becomes. becomes on)
        (all_counted spec (calls ++ call ∷ []) new state distinct)
        (all_both (λ (row : Row). is_among same_leaves row.0 (inner_keys spec (calls ++ call ∷ [])) ≡ true) Becomes
        (λ (row : Row). is_on spec (calls ++ call ∷ []) row.0 ≡ nat_lt 0 row.1.count
        → RowStands spec (calls ++ call ∷ []) at row) new.table.rows (λ row listed becomes. becomes listed)
        (all_listed spec (calls ++ call ∷ []) new state) become);
    others_are = others_after;
  }

-- what a key brings that goes off after these calls
abbrev pub left_by : PredSpec → List DurationCall → ℕ → LeafKey → List (Mark (MetricKey × ℕ))
left_by spec calls at key = arrival_for (last_known spec calls key) (running_time spec calls at key)

-- An event.
module _ (spec : PredSpec) (calls : List DurationCall) (last at : ℕ) (event : InnerEvent) where
  -- a row of a key that goes off brings what its entry says
  pub marks_are : (key : LeafKey) (entry : SparseEntry) → EntryStands spec calls last key entry → last ≤ at
      → at < 2 ^ 64 → (if nat_lt 0 entry.count then left_by spec calls at key else []) ≡ entry_marks at entry
  marks_are key entry is later fits = by (nat_lt 0 entry.count) refl where
    by : (b : Bool) → nat_lt 0 entry.count ≡ b
        → (if b then left_by spec calls at key else [])
        ≡ (if b then arrival_for entry.known (saved_time entry at) else [])
    by true positive =
        ap (λ k. arrival_for k (running_time spec calls at key)) (sym is.known_is)
        ∙ ap (arrival_for entry.known) (is.time_is (ltb-true 0 entry.count positive) at later
        ∙ sym (saved_is entry at is.time_within (omega (arith, is.since_within, later)) fits))
    by false positive = refl

  -- a key that is started again
  pub starts : (key : LeafKey) (entry : SparseEntry) (nesting : Bool) → EntryStands spec calls last key entry
      → last ≤ at → OthersStand spec calls → is_on spec calls key ≡ nat_lt 0 entry.count
      → Becomes spec calls (Got at event) at refl (key, started_entry nesting at entry)
  starts key entry nesting is later others on = by (nat_lt 0 entry.count) refl where
    more : ℕ
    more = count_after_start nesting entry.count

    by : (b : Bool) → nat_lt 0 entry.count ≡ b
        → Becomes spec calls (Got at event) at refl
        (key, if b then record entry { count = more } else record entry { count = more; time = 0; since = at })
    by true positive =
        passes spec calls (Got at event) at refl last key (record entry { count = more }) refl
        (recounted spec calls last key entry more (λ p. ltb-true 0 entry.count positive) is) later
    by false zero =
        begins spec calls (Got at event) at refl key more entry.known refl is.known_is (on ∙ zero) others

  -- what an event brings, by what was lost and what went off
  pub comes_by : (old : SparseKeys) → KeysStand old spec calls last → (lost gone : List (Mark (MetricKey × ℕ)))
      → inner_lost spec calls at event ≡ lost
      → flat_map (brings (left_by spec calls at) (is_on spec (calls ++ Got at event ∷ []))) old.table.rows ≡ gone
      → sparse_comes spec calls at event ≡ lost ++ gone
  comes_by old has lost gone is_lost is_gone =
      let on = is_on spec (calls ++ Got at event ∷ []) in
      ap (λ l. l ++ flat_map (left_by spec calls at) (keys_gone spec calls (Got at event))) is_lost
      ∙ ap (λ l. lost ++ flat_map (left_by spec calls at) (filter (λ key. not (on key)) l))
      (on_are spec calls old has.state_is)
      ∙ ap (λ l. lost ++ l) (gone_rows (left_by spec calls at) on old.table.rows ∙ is_gone)

  -- nothing is lost where no key was turned away
  pub none_lost : {X : Type 0} (old new : ℕ) → (inner_state spec calls).dropped ≡ old
      → (inner_state spec (calls ++ Got at event ∷ [])).dropped ≡ new → new ≡ old
      → inner_lost spec {X = X} calls at event ≡ []
  none_lost {X} old new was is same =
      let none : (inner_state spec (calls ++ Got at event ∷ [])).dropped - (inner_state spec calls).dropped ≡ 0 =
      omega (arith, was, is, same) in
      ap (λ n. replicate n Lost) none

  -- one is lost where the count of those that were turned away rises
  pub one_lost : {X : Type 0} (old new : ℕ) → (inner_state spec calls).dropped ≡ old
      → (inner_state spec (calls ++ Got at event ∷ [])).dropped ≡ new → new ≡ old + 1
      → inner_lost spec {X = X} calls at event ≡ Lost ∷ []
  one_lost {X} old new was is more =
      let one : (inner_state spec (calls ++ Got at event ∷ [])).dropped - (inner_state spec calls).dropped ≡ 1 =
      omega (arith, was, is, more) in
      ap (λ n. replicate n Lost) one

  -- what an event makes of an object, by its parts
  pub takes_by : (old new : SparseKeys) → KeysStand old spec calls last → new.spec ≡ old.spec
      → new.table.bound ≡ old.table.bound
      → sparse_state new ≡ state_after same_leaves old.spec (sparse_state old) event.event event.key
      → IsDistinct same_leaves (keys new.table)
      → AllByRecursion (Becomes spec calls (Got at event) at refl) new.table.rows
      → (lost gone : List (Mark (MetricKey × ℕ)))
      → ((inner_state spec calls).dropped ≡ old.table.dropped
      → (inner_state spec (calls ++ Got at event ∷ [])).dropped ≡ new.table.dropped
      → inner_lost spec calls at event ≡ lost)
      → (AllByRecursion (IsOnAsCounted (left_by spec calls at) (is_on spec (calls ++ Got at event ∷ [])))
      new.table.rows
      → flat_map (brings (left_by spec calls at) (is_on spec (calls ++ Got at event ∷ []))) old.table.rows ≡ gone)
      → KeysStand new spec (calls ++ Got at event ∷ []) at × (sparse_comes spec calls at event ≡ lost ++ gone)
  takes_by old new has same_spec same_bound acts distinct become lost gone is_lost is_gone =
      let state : sparse_state new ≡ inner_state spec (calls ++ Got at event ∷ []) =
      acts ∙ ap (λ s. state_after same_leaves s (sparse_state old) event.event event.key) has.spec_is
      ∙ ap (λ s. state_after same_leaves spec s event.event event.key) has.state_is
      ∙ sym (state_got spec calls at event) in (
        turned spec calls (Got at event) at refl old new last has same_spec same_bound state distinct become,
        comes_by old has lost gone
            (is_lost (ap (λ (s : PredicateState LeafKey). s.dropped) (sym has.state_is))
            (ap (λ (s : PredicateState LeafKey). s.dropped) (sym state)))
            (is_gone (all_counted spec (calls ++ Got at event ∷ []) new state distinct)),
      )

  -- each row of an object goes on
  pub all_pass : (old : SparseKeys) → KeysStand old spec calls last → last ≤ at
      → AllByRecursion (Becomes spec calls (Got at event) at refl) old.table.rows
  all_pass old has later =
      all_map (RowStands spec calls last) (Becomes spec calls (Got at event) at refl) old.table.rows
      (λ row is. passes spec calls (Got at event) at refl last row.0 row.1 refl is later) has.rows_are

-- What an object shows of its keys.
module _ (it : SparseKeys) (spec : PredSpec) (calls : List DurationCall) (last : ℕ)
    (has : KeysStand it spec calls last) where
  -- there are as many keys as rows
  pub len_is : length it.table.rows ≡ length (inner_keys spec calls)
  len_is = sym (length-map it.table.rows (λ (row : Row). row.0)) ∙ ap length (sym (keys_are spec calls it has.state_is))

  module _ (place : ℕ) where
    -- the key of a row is the inner key at its place
    pub key_is : (row : Row) → slice_get it.table.rows place ≡ Some row
        → Some row.0 ≡ slice_get (inner_keys spec calls) place
    key_is row there =
        sym (ap (λ ks. slice_get ks place) (keys_are spec calls it has.state_is)
        ∙ slice_get-map (λ (r : Row). r.0) it.table.rows place ∙ ap (option_map (λ (r : Row). r.0)) there)

    -- and what it was told last is what the calls told
    pub truth_is : (row : Row) → slice_get it.table.rows place ≡ Some row
        → option_map (λ (known : Known). known.truth) row.1.known ≡ told_truth spec calls place
    truth_is row there =
        let is = all_at (RowStands spec calls last) it.table.rows place row has.rows_are there in
        ap (option_map (λ (known : Known). known.truth)) is.known_is
        ∙ ap (option_and_then (λ key. option_map (λ (known : Known). known.truth) (last_known spec calls key)))
        (key_is row there)

    -- whether it was told something is as the calls say
    pub says_is : (row : Row) → slice_get it.table.rows place ≡ Some row → (now : Known)
        → says row.1.known now ≡ was_told spec calls place now
    says_is row there now =
        let is = all_at (RowStands spec calls last) it.table.rows place row has.rows_are there in
        ap (λ known. says known now) is.known_is
        ∙ ap (λ found. option_map_or (λ key. says (last_known spec calls key) now) found false) (key_is row there)

    -- where no row is, no key is
    pub no_key_is : slice_get it.table.rows place ≡ None → None ≡ slice_get (inner_keys spec calls) place
    no_key_is none =
        sym (ap (λ ks. slice_get ks place) (keys_are spec calls it has.state_is)
        ∙ slice_get-map (λ (r : Row). r.0) it.table.rows place ∙ ap (option_map (λ (r : Row). r.0)) none)

    -- and nothing was told
    pub says_nothing : slice_get it.table.rows place ≡ None → (now : Known) → false ≡ was_told spec calls place now
    says_nothing none now =
        ap (λ found. option_map_or (λ key. says (last_known spec calls key) now) found false) (no_key_is none)
