-- What each event makes of the inner keys of a longest duration.
use Rattle.std.proofs.Common.{subst, ◌≡◌, ℕ, ◌+◌, ◌^◌, ◌<◌, ◌≤◌, nat_lt, Bool, true, false, not, ◌&&◌, if◌then◌else◌, List, [], ◌∷◌, ◌++◌, map, filter, slice_get, position, Contains, Some, None, ◌⊎◌, inl, inr, cond, ◌||◌, refl, sym, ap, ◌∙◌, append-nil}
use Rattle.std.specs.List.{AllByRecursion, IsDistinct, flat_map, list_any}
use Rattle.std.specs.Map.{keys_of, lookup}
use Rattle.std.specs.Option.{option_map}
use Rattle.std.proofs.lemmas.List.{map-append}
use Rattle.std.proofs.lemmas.Option.{slice_get-map}
use Rattle.std.proofs.lemmas.Map.Made.{IsDistinct-keys_filter}
use Rattle.std.proofs.lemmas.Map.Keys.{IsDistinct-push}
use Rattle.metric_producer.proofs.KeysLemmas.{other_way}
use Rattle.duration_metric.proofs.SparseKnownLemmas.{state_got}
use Rattle.atom_record.specs.declared.value.MetricKey.{MetricKey}
use Rattle.bucket_meaning.specs.Guard.{is_among}
use Rattle.bucket_meaning.specs.Marks.{Mark, Lost}
use Rattle.config_types.specs.declared.parameters.PredSpec.{PredSpec}
use Rattle.dim_table.specs.Table.{keys, with_value_at, without, set_value_at}
use Rattle.dim_table.proofs.KeyLemmas.{keys_set_value_at, not_among, keys_of-push}
use Rattle.predicate_state.specs.PredicateStates.{PredicateState, with_key_count, without_key, state_after}
use Rattle.predicate_state.specs.PredicateTable.{LeafKey, same_leaves}
use Rattle.predicate_state.proofs.KeyCountLemmas.{value_at_position, set_at_position}
use Rattle.metric_producer.specs.Calls.{Got}
use Rattle.duration_metric.specs.declared.change.InnerEvent.{InnerEvent}
use Rattle.duration_metric.specs.declared.sparse_keys.SparseEntry.{SparseEntry}
use Rattle.duration_metric.specs.declared.sparse_keys.SparseKeys.{SparseKeys}
use Rattle.duration_metric.specs.InnerKeys.{DurationCall, inner_state, last_known}
use Rattle.duration_metric.specs.SparseCalls.{is_on}
use Rattle.duration_metric.specs.SparseEntries.{entry_count, sparse_state, RowStands, KeysStand, entry_marks, row_marks, fresh_entry, TakesKeyEvent}
use Rattle.duration_metric.proofs.SparseRowLemmas.{Row, same_decides, leaves_equiv, off_unlisted, all_at, keys_counted, or_false, all_push, all_front, all_filter, all_set, counts_set, counts_left, IsOnAsCounted, none_gone, gone_set, gone_left, all_gone}
use Rattle.duration_metric.proofs.SparseStepLemmas.{left_by, marks_are, Becomes, begins, takes_by, all_pass, none_lost, one_lost, keys_are, on_are, all_counted}

-- of no keys none stands twice
none_distinct : IsDistinct same_leaves []
unfolding IsDistinct
none_distinct = tt

-- a key that isn't among these equals none of them
not_any : (key : LeafKey) (ks : List LeafKey) → is_among same_leaves key ks ≡ false
    → list_any (same_leaves key) ks ≡ false
not_any key [] none = refl
not_any key (first ∷ ks) none =
    let both = or_false (same_leaves first key) (is_among same_leaves key ks) none in
    ap (λ b. b || list_any (same_leaves key) ks) (other_way same_leaves same_decides first key both.0)
    ∙ not_any key ks both.1

-- a key that is left out isn't among the others
left_out : (key : LeafKey) (rows : List Row)
    → is_among same_leaves key (keys_of (filter (λ (row : Row). not (same_leaves key row.0)) rows)) ≡ false
left_out key [] = refl
left_out key (row ∷ rows) = by (same_leaves key row.0) refl (left_out key rows) where
  others : List Row
  others = filter (λ (r : Row). not (same_leaves key r.0)) rows

  by : (b : Bool) → same_leaves key row.0 ≡ b → is_among same_leaves key (keys_of others) ≡ false
      → is_among same_leaves key (keys_of (cond (not b) (row ∷ others) others)) ≡ false
  by true alike none = none
  by false differ none =
      ap (λ b. b || is_among same_leaves key (keys_of others)) (other_way same_leaves same_decides key row.0 differ)
      ∙ none

-- what rows bring that all go off
rows_bring : (spec : PredSpec) (calls : List DurationCall) (last at : ℕ) (event : InnerEvent) → last ≤ at → at < 2 ^ 64
    → (rows : List Row) → AllByRecursion (RowStands spec calls last) rows
    → flat_map (λ (row : Row). if nat_lt 0 row.1.count then left_by spec calls at row.0 else []) rows
    ≡ flat_map (row_marks at) rows
rows_bring spec calls last at event later fits [] all = refl
rows_bring spec calls last at event later fits (row ∷ rows) all =
    ap (λ l. l ++ flat_map (λ (r : Row). if nat_lt 0 r.1.count then left_by spec calls at r.0 else []) rows)
    (marks_are spec calls last at event row.0 row.1 all.0 later fits)
    ∙ ap (λ l. row_marks at row ++ l) (rows_bring spec calls last at event later fits rows all.1)

module _ (old : SparseKeys) (at : ℕ) (event : InnerEvent) where
  -- nothing becomes of the keys
  pub takes_nothing : state_after same_leaves old.spec (sparse_state old) event.event event.key ≡ sparse_state old
      → TakesKeyEvent old old at event []
  takes_nothing acts spec calls last has later =
      takes_by spec calls last at event old old has refl refl (sym acts) has.distinct
      (all_pass spec calls last at event old has later) [] []
      (λ was is. none_lost spec calls last at event old.table.dropped old.table.dropped was is refl)
      (none_gone (left_by spec calls at) (is_on spec (calls ++ Got at event ∷ [])) old.table.rows)

  -- a key's row, by where its key stands
  module _ (place : ℕ) (row : Row) (found : position (same_leaves event.key) (keys old.table) ≡ Some place)
      (there : slice_get old.table.rows place ≡ Some row) where
    -- its key among the counts
    found_count : position (same_leaves event.key) (keys_of (map entry_count old.table.rows)) ≡ Some place
    found_count = ap (position (same_leaves event.key)) (keys_counted old.table.rows) ∙ found

    -- what a look-up finds
    pub looked_up : lookup (same_leaves event.key) (sparse_state old).counts ≡ Some row.1.count
    looked_up =
        sym (value_at_position (same_leaves event.key) (map entry_count old.table.rows) place
        (entry_count row) found_count
        (slice_get-map entry_count old.table.rows place ∙ ap (option_map entry_count) there))

    -- another entry is another count
    pub recounts : (entry : SparseEntry) (unknown : Bool)
        → (let given : PredicateState LeafKey = record {
          unknown = unknown;
          counts = map entry_count (set_value_at old.table.rows place entry);
          dropped = old.table.dropped;
        } in given)
        ≡ with_key_count same_leaves (record (sparse_state old) { unknown = unknown }) event.key entry.count
    recounts entry unknown =
        ap (λ (counts : List (LeafKey × ℕ)). let given : PredicateState LeafKey = record {
          unknown = unknown;
          counts = counts;
          dropped = old.table.dropped;
        } in given)
        (counts_set old.table.rows place entry
        ∙ set_at_position (same_leaves event.key) (map entry_count old.table.rows) place entry.count found_count)

    -- the row gets another entry
    pub takes_set : (entry : SparseEntry) (marks : List (Mark (MetricKey × ℕ)))
        → state_after same_leaves old.spec (sparse_state old) event.event event.key
        ≡ with_key_count same_leaves (sparse_state old) event.key entry.count
        → ((spec : PredSpec) (calls : List DurationCall) (last : ℕ) → KeysStand old spec calls last → last ≤ at
        → RowStands spec calls last row → is_on spec calls row.0 ≡ nat_lt 0 row.1.count
        → Becomes spec calls (Got at event) at refl (row.0, entry))
        → ((spec : PredSpec) (calls : List DurationCall) (last : ℕ) → KeysStand old spec calls last → last ≤ at
        → RowStands spec calls last row
        → (if nat_lt 0 row.1.count && not (nat_lt 0 entry.count) then left_by spec calls at row.0 else []) ≡ marks)
        → TakesKeyEvent old (record old { table = with_value_at old.table place entry }) at event marks
    takes_set entry marks acts becomes brought spec calls last has later =
        let is = all_at (RowStands spec calls last) old.table.rows place row has.rows_are there in
        let on = all_at (IsOnAsCounted (left_by spec calls at) (is_on spec calls)) old.table.rows place row
        (all_counted spec calls old has.state_is has.distinct) there in
        takes_by spec calls last at event old (record old { table = with_value_at old.table place entry }) has refl refl
        (recounts entry old.unknown ∙ sym acts)
        (subst (IsDistinct same_leaves) (sym (keys_set_value_at old.table.rows place entry)) has.distinct)
        (all_set (Becomes spec calls (Got at event) at refl) old.table.rows place row entry
        (all_pass spec calls last at event old has later) there (becomes spec calls last has later is on))
        [] marks
        (λ was now. none_lost spec calls last at event old.table.dropped old.table.dropped was now refl)
        (λ counted. gone_set (left_by spec calls at) (is_on spec (calls ++ Got at event ∷ [])) old.table.rows place row
        entry counted there ∙ brought spec calls last has later is)

    -- the row leaves
    pub takes_left : at < 2 ^ 64 → row.0 ≡ event.key
        → state_after same_leaves old.spec (sparse_state old) event.event event.key
        ≡ without_key same_leaves (sparse_state old) event.key
        → TakesKeyEvent old (record old { table = without same_leaves old.table event.key }) at event
        (entry_marks at row.1)
    takes_left fits own acts spec calls last has later =
        let is = all_at (RowStands spec calls last) old.table.rows place row has.rows_are there in
        let new : SparseKeys = record old { table = without same_leaves old.table event.key } in
        let state : sparse_state new ≡ without_key same_leaves (sparse_state old) event.key =
        ap (λ (counts : List (LeafKey × ℕ)). let given : PredicateState LeafKey = record {
          unknown = old.unknown;
          counts = counts;
          dropped = old.table.dropped;
        } in given) (counts_left event.key old.table.rows) in
        let state_now : sparse_state new ≡ inner_state spec (calls ++ Got at event ∷ []) =
        state ∙ sym acts ∙ ap (λ s. state_after same_leaves s (sparse_state old) event.event event.key) has.spec_is
        ∙ ap (λ s. state_after same_leaves spec s event.event event.key) has.state_is
        ∙ sym (state_got spec calls at event) in
        let off : is_on spec (calls ++ Got at event ∷ []) row.0 ≡ false =
        ap (is_among same_leaves row.0) (on_are spec (calls ++ Got at event ∷ []) new state_now)
        ∙ off_unlisted row.0 new.table.rows
        (subst (λ key. is_among same_leaves row.0
        (keys_of (filter (λ (r : Row). not (same_leaves key r.0)) old.table.rows))
        ≡ false) own (left_out row.0 old.table.rows)) in
        takes_by spec calls last at event old new has refl refl (state ∙ sym acts)
        (IsDistinct-keys_filter same_leaves (λ (r : Row). not (same_leaves event.key r.0)) old.table.rows has.distinct)
        (all_filter (Becomes spec calls (Got at event) at refl) (λ (r : Row). not (same_leaves event.key r.0))
        old.table.rows (all_pass spec calls last at event old has later))
        [] (entry_marks at row.1)
        (λ was now. none_lost spec calls last at event old.table.dropped old.table.dropped was now refl)
        (λ counted. gone_left (left_by spec calls at) (is_on spec (calls ++ Got at event ∷ [])) old.table.rows place row
        has.distinct
        (subst (λ key. AllByRecursion
        (IsOnAsCounted (left_by spec calls at) (is_on spec (calls ++ Got at event ∷ [])))
        (filter (λ (r : Row). not (same_leaves key r.0)) old.table.rows)) (sym own) counted)
        off there
        ∙ marks_are spec calls last at event row.0 row.1 is later fits)

  -- a new key is listed
  pub takes_added : (count : ℕ) → ¬ Contains (keys old.table) event.key
      → state_after same_leaves old.spec (sparse_state old) event.event event.key
      ≡ record (sparse_state old) { counts = (sparse_state old).counts ++ (event.key, count) ∷ [] }
      → TakesKeyEvent old
      (record old { table = record old.table { rows = old.table.rows ++ (event.key, fresh_entry count at) ∷ [] } }) at
      event []
  takes_added count absent acts spec calls last has later =
      let unlisted : is_among same_leaves event.key (keys_of old.table.rows) ≡ false =
      not_among same_leaves same_decides (keys old.table) event.key absent in
      let off : is_on spec calls event.key ≡ false =
      ap (is_among same_leaves event.key) (on_are spec calls old has.state_is)
      ∙ off_unlisted event.key old.table.rows unlisted in
      let none : None ≡ last_known spec calls event.key =
      sym (has.others_are.unlisted event.key
      (ap (is_among same_leaves event.key) (keys_are spec calls old has.state_is) ∙ unlisted)) in
      takes_by spec calls last at event old
      (record old { table = record old.table { rows = old.table.rows ++ (event.key, fresh_entry count at) ∷ [] } }) has
      refl refl
      (ap (λ (counts : List (LeafKey × ℕ)). let given : PredicateState LeafKey = record {
        unknown = old.unknown;
        counts = counts;
        dropped = old.table.dropped;
      } in given) (map-append entry_count old.table.rows ((event.key, fresh_entry count at) ∷ [])) ∙ sym acts)
      (subst (IsDistinct same_leaves) (sym (keys_of-push old.table.rows event.key (fresh_entry count at)))
      (IsDistinct-push leaves_equiv (keys old.table) event.key has.distinct
      (not_any event.key (keys old.table) unlisted)))
      (all_push (Becomes spec calls (Got at event) at refl) old.table.rows (event.key, fresh_entry count at)
      (all_pass spec calls last at event old has later)
      (begins spec calls (Got at event) at refl event.key count None refl none off has.others_are))
      [] []
      (λ was now. none_lost spec calls last at event old.table.dropped old.table.dropped was now refl)
      (λ counted. none_gone (left_by spec calls at) (is_on spec (calls ++ Got at event ∷ [])) old.table.rows
      (all_front (IsOnAsCounted (left_by spec calls at) (is_on spec (calls ++ Got at event ∷ []))) old.table.rows
      ((event.key, fresh_entry count at) ∷ []) counted))

  -- a new key is turned away
  pub takes_away : (dropped : ℕ) (marks : List (Mark (MetricKey × ℕ)))
      → state_after same_leaves old.spec (sparse_state old) event.event event.key
      ≡ record (sparse_state old) { dropped = dropped }
      → ((dropped ≡ old.table.dropped) × (marks ≡ [])) ⊎ ((dropped ≡ old.table.dropped + 1) × (marks ≡ Lost ∷ []))
      → TakesKeyEvent old (record old { table = record old.table { dropped = dropped } }) at event marks
  takes_away dropped marks acts counts spec calls last has later =
      let both = takes_by spec calls last at event old (record old { table = record old.table { dropped = dropped } })
      has refl refl (sym acts) has.distinct (all_pass spec calls last at event old has later) marks []
      (λ was now. elim counts [
        | inl same ↦ none_lost spec calls last at event old.table.dropped dropped was now same.0 ∙ sym same.1
        | inr more ↦ one_lost spec calls last at event old.table.dropped dropped was now more.0 ∙ sym more.1
      ])
      (none_gone (left_by spec calls at) (is_on spec (calls ++ Got at event ∷ [])) old.table.rows) in
      (both.0, both.1 ∙ append-nil marks)

  -- all keys are stopped
  pub takes_all : at < 2 ^ 64
      → state_after same_leaves old.spec (sparse_state old) event.event event.key
      ≡ record (sparse_state old) { unknown = false; counts = [] }
      → TakesKeyEvent old (record old { unknown = false; table = record old.table { rows = [] } }) at event
      (flat_map (row_marks at) old.table.rows)
  takes_all fits acts spec calls last has later =
      let new : SparseKeys = record old { unknown = false; table = record old.table { rows = [] } } in
      let state_now : sparse_state new ≡ inner_state spec (calls ++ Got at event ∷ []) =
      sym acts ∙ ap (λ s. state_after same_leaves s (sparse_state old) event.event event.key) has.spec_is
      ∙ ap (λ s. state_after same_leaves spec s event.event event.key) has.state_is
      ∙ sym (state_got spec calls at event) in
      takes_by spec calls last at event old new has refl refl (sym acts) none_distinct tt
      [] (flat_map (row_marks at) old.table.rows)
      (λ was now. none_lost spec calls last at event old.table.dropped old.table.dropped was now refl)
      (λ counted. all_gone (left_by spec calls at) (is_on spec (calls ++ Got at event ∷ [])) old.table.rows
      (λ key. ap (is_among same_leaves key) (on_are spec (calls ++ Got at event ∷ []) new state_now))
      ∙ rows_bring spec calls last at event later fits old.table.rows has.rows_are)
