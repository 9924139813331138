-- What a condition makes of the inner keys of a longest duration, one change at a time.
use Rattle.std.proofs.Common.{subst, ◌≡◌, ℕ, zero, suc, ◌+◌, ◌-◌, ◌^◌, ◌<◌, ◌≤◌, ◌==◌, nat_lt, Bool, true, false, cond, if◌then◌else◌, List, [], ◌∷◌, ◌++◌, map, filter, slice_get, position, Option, Some, None, ◌⊎◌, ◌≢◌, inl, inr, refl, sym, ap, ◌∙◌, arith}
use Rattle.std.specs.List.{AllByRecursion, IsDistinct, last_or}
use Rattle.std.specs.Map.{keys_of, values_of}
use Rattle.std.proofs.lemmas.Bool.{lt-ltb, eq-eqb, ne_eqb}
use Rattle.std.proofs.lemmas.List.{map-append}
use Rattle.std.proofs.lemmas.List.Elements.{filter-append}
use Rattle.std.proofs.lemmas.Option.{same_Some, slice_get-map}
use Rattle.std.specs.Option.{option_map}
use Rattle.indexmap.proofs.RemoveLemmas.{own_first}
use Rattle.indexmap.proofs.MapLemmas.{index-first}
use Rattle.bucket_meaning.specs.Guard.{is_among}
use Rattle.config_types.specs.declared.parameters.PredSpec.{PredSpec}
use Rattle.dim_table.specs.Table.{keys, with_value_at, set_value_at}
use Rattle.dim_table.proofs.KeyLemmas.{keys_set_value_at}
use Rattle.predicate_state.specs.PredicateStates.{PredicateState}
use Rattle.predicate_state.specs.PredicateTable.{LeafKey, same_leaves}
use Rattle.metric_producer.specs.Calls.{Learned}
use Rattle.duration_metric.specs.declared.change.InnerChange.{InnerChange}
use Rattle.duration_metric.specs.declared.sparse_keys.SparseEntry.{SparseEntry}
use Rattle.duration_metric.specs.declared.sparse_keys.SparseKeys.{SparseKeys}
use Rattle.duration_metric.specs.InnerKeys.{DurationCall, inner_state, inner_keys, known_by, known_at, last_known}
use Rattle.duration_metric.specs.SparseCalls.{is_told_timed, arrival_for, is_on, running_time}
use Rattle.duration_metric.specs.SparseEntries.{saved_time, entry_count, sparse_state, EntryStands, RowStands, KeysStand, told_entry}
use Rattle.duration_metric.proofs.SparseKnownLemmas.{last_or-append, state_idle, known-listed, time-on}
use Rattle.duration_metric.proofs.SparseRowLemmas.{Row, leaves_equiv, all_map, all_at, counts_set, IsOnAsCounted}
use Rattle.duration_metric.proofs.SparseStepLemmas.{saved_is, saved_within, keys_are, all_counted, all_listed, Becomes, passes, others_after, turned}

-- what stands at a place, once one row has another entry
set_at : (rows : List Row) (place : ℕ) (entry : SparseEntry) (i : ℕ) (row : Row)
    → slice_get (set_value_at rows place entry) i ≡ Some row
    → ((was : SparseEntry) × (place ≡ i) × (slice_get rows i ≡ Some (row.0, was)) × (row.1 ≡ entry))
    ⊎ ((place ≢ i) × (slice_get rows i ≡ Some row))
set_at [] place entry i row at = absurd (cc)
set_at (first ∷ rows) zero entry zero row at =
    let is : (first.0, entry) ≡ row = cc in
    inl (first.1, refl, ap (λ k. Some (k, first.1)) (ap (λ (r : Row). r.0) is), ap (λ (r : Row). r.1) (sym is))
set_at (first ∷ rows) zero entry (suc i) row at = inr (λ e. absurd (omega (arith, e)), at)
set_at (first ∷ rows) (suc place) entry zero row at = inr (λ e. absurd (omega (arith, e)), at)
set_at (first ∷ rows) (suc place) entry (suc i) row at = elim (set_at rows place entry i row at) [
  | inl there ↦ inl (there.0, ap suc there.1, there.2, there.3)
  | inr other ↦ inr (λ e. other.0 (omega (arith, e)), other.1)
]

-- what is so of the row at each place is so of all
all_places : (P : Row → Type 0) (rows : List Row) → ((i : ℕ) (row : Row) → slice_get rows i ≡ Some row → P row)
    → AllByRecursion P rows
all_places P [] each = tt
all_places P (row ∷ rows) each = (each 0 row refl, all_places P rows (λ i r at. each (suc i) r at))

-- where no value stands at a place, no row does
no_value : (rows : List Row) (place : ℕ) (row : Row) → slice_get (values_of rows) place ≡ None
    → slice_get rows place ≡ Some row → ⊥
no_value [] place row none at = cc
no_value (first ∷ rows) zero row none at = cc
no_value (first ∷ rows) (suc place) row none at = no_value rows place row none at

-- the value at a place is that of its row
pub value_at_row : (rows : List Row) (place : ℕ) (row : Row) → slice_get rows place ≡ Some row
    → slice_get (values_of rows) place ≡ Some row.1
value_at_row [] place row at = absurd (cc)
value_at_row (first ∷ rows) zero row at = let is : first ≡ row = cc in ap (λ (r : Row). Some r.1) is
value_at_row (first ∷ rows) (suc place) row at = value_at_row rows place row at

-- the row of a value at a place
pub row_of_value : (rows : List Row) (place : ℕ) (entry : SparseEntry) → slice_get (values_of rows) place ≡ Some entry
    → (key : LeafKey) × (slice_get rows place ≡ Some (key, entry))
row_of_value [] place entry at = absurd (cc)
row_of_value (first ∷ rows) zero entry at =
    let is : first.1 ≡ entry = cc in (first.0, ap (λ e. Some (first.0, e)) is)
row_of_value (first ∷ rows) (suc place) entry at = row_of_value rows place entry at

-- no change tells nothing
none_told : (place : Option ℕ) → known_at [] place ≡ []
none_told None = refl
none_told (Some place) = refl

-- one change more
told-push : (changes : List InnerChange) (change : InnerChange) (place : Option ℕ)
    → known_at (changes ++ change ∷ []) place ≡ known_at changes place ++ known_at (change ∷ []) place
told-push changes change None = refl
told-push changes change (Some place) =
    ap (map known_by) (filter-append (λ (c : InnerChange). c.place == place) changes (change ∷ []))
    ∙ map-append known_by (filter (λ (c : InnerChange). c.place == place) changes)
    (filter (λ (c : InnerChange). c.place == place) (change ∷ []))

-- a change tells of its own place alone
own_told : (change : InnerChange) (place : ℕ) → change.place ≡ place
    → known_at (change ∷ []) (Some place) ≡ known_by change ∷ []
own_told change place is =
    ap (λ b. map known_by (cond b (change ∷ []) [])) (eq-eqb change.place place is)

other_told : (change : InnerChange) (place : ℕ) → change.place ≢ place → known_at (change ∷ []) (Some place) ≡ []
other_told change place differ =
    ap (λ b. map known_by (cond b (change ∷ []) [])) (ne_eqb change.place place differ)

-- a value that is set again
set_same : (counts : List (LeafKey × ℕ)) (place : ℕ) (entry : LeafKey × ℕ) → slice_get counts place ≡ Some entry
    → set_value_at counts place entry.1 ≡ counts
set_same [] place entry at = refl
set_same (first ∷ counts) zero entry at =
    let is : first ≡ entry = cc in ap (λ n. (first.0, n) ∷ counts) (ap (λ (e : LeafKey × ℕ). e.1) (sym is))
set_same (first ∷ counts) (suc place) entry at = ap (λ l. first ∷ l) (set_same counts place entry at)

-- nothing lies between a time and itself
no_time : (b : Bool) (n at : ℕ) → n + (if b then at - at else 0) ≡ n
no_time true n at = omega arith
no_time false n at = omega arith

module _ (spec : PredSpec) (calls : List DurationCall) (at : ℕ) where
  -- a condition that tells these changes
  abbrev telling : List InnerChange → DurationCall
  telling changes = Learned at (record { changes = changes })

  abbrev with : List InnerChange → List DurationCall
  with changes = calls ++ telling changes ∷ []

  state_with : (changes : List InnerChange) → inner_state spec (with changes) ≡ inner_state spec calls
  state_with changes = state_idle spec calls (telling changes) refl

  keys_with : (changes : List InnerChange) → inner_keys spec (with changes) ≡ inner_keys spec calls
  keys_with changes = ap (λ (s : PredicateState LeafKey). keys_of s.counts) (state_with changes)

  on_with : (changes more : List InnerChange) (key : LeafKey)
      → is_on spec (with changes) key ≡ is_on spec (with more) key
  on_with changes more key =
      let at_state : PredicateState LeafKey → Bool = λ s. is_among same_leaves key
      (map (λ (entry : LeafKey × ℕ). entry.0) (filter (λ (entry : LeafKey × ℕ). nat_lt 0 entry.1) s.counts)) in
      ap at_state (state_with changes ∙ sym (state_with more))

  -- a condition that tells nothing
  pub tells_none : (it : SparseKeys) (last : ℕ) → KeysStand it spec calls last → last ≤ at
      → KeysStand it spec (with []) at
  tells_none it last has later =
      turned spec calls (telling []) at refl it it last has refl refl (has.state_is ∙ sym (state_with [])) has.distinct
      (all_map (RowStands spec calls last) (Becomes spec calls (telling []) at refl) it.table.rows
      (λ row is. passes spec calls (telling []) at refl last row.0 row.1
      (none_told (position (same_leaves row.0) (inner_keys spec calls))) is later) has.rows_are)

  module _ (changes : List InnerChange) (change : InnerChange) (it : SparseKeys)
      (has : KeysStand it spec (with changes) at) where
    abbrev more : List InnerChange
    more = changes ++ change ∷ []

    -- where a row's key stands
    placed : (i : ℕ) (row : Row) → slice_get it.table.rows i ≡ Some row
        → position (same_leaves row.0) (inner_keys spec calls) ≡ Some i
    placed i row there =
        ap (position (same_leaves row.0)) (sym (keys_with changes) ∙ keys_are spec (with changes) it has.state_is)
        ∙ index-first (same_leaves row.0) it.table.rows i
        (own_first same_leaves leaves_equiv it.table.rows i row.0 row.1 has.distinct there)

    -- each row's key is listed
    listed : (changes : List InnerChange) (i : ℕ) (row : Row) → slice_get it.table.rows i ≡ Some row
        → is_among same_leaves row.0 (inner_keys spec (with changes)) ≡ true
    listed others i row there =
        all_at (λ (r : Row). is_among same_leaves r.0 (inner_keys spec (with others)) ≡ true) it.table.rows i row
        (all_listed spec (with others) it (has.state_is ∙ state_with changes ∙ sym (state_with others))) there

    -- what is known of a row's key with the change
    known_more : (i : ℕ) (row : Row) → slice_get it.table.rows i ≡ Some row
        → last_known spec (with more) row.0
        ≡ last_or (last_known spec (with changes) row.0) (known_at (change ∷ []) (Some i))
    known_more i row there =
        let place = position (same_leaves row.0) (inner_keys spec calls) in
        known-listed spec calls (telling more) row.0 (listed more i row there)
        ∙ ap (last_or (last_known spec calls row.0)) (told-push changes change place)
        ∙ last_or-append (last_known spec calls row.0) (known_at changes place) (known_at (change ∷ []) place)
        ∙ ap (λ known. last_or known (known_at (change ∷ []) place))
        (sym (known-listed spec calls (telling changes) row.0 (listed changes i row there)))
        ∙ ap (λ p. last_or (last_known spec (with changes) row.0) (known_at (change ∷ []) p)) (placed i row there)

    -- the row is on where its count is above 0
    on_row : (others : List InnerChange) (i : ℕ) (row : Row) → slice_get it.table.rows i ≡ Some row → 0 < row.1.count
        → is_on spec (with others) row.0 ≡ true
    on_row others i row there positive =
        on_with others changes row.0
        ∙ all_at (IsOnAsCounted (λ key. arrival_for None 0) (is_on spec (with changes))) it.table.rows i row
        (all_counted spec (with changes) it has.state_is has.distinct) there
        ∙ lt-ltb 0 row.1.count positive

    -- a row of another place stays
    other_stands : (i : ℕ) (row : Row) → change.place ≢ i → slice_get it.table.rows i ≡ Some row
        → RowStands spec (with more) at row
    other_stands i row differ there =
        let is = all_at (RowStands spec (with changes) at) it.table.rows i row has.rows_are there in
        let same : last_known spec (with more) row.0 ≡ last_known spec (with changes) row.0 =
        known_more i row there
        ∙ ap (last_or (last_known spec (with changes) row.0)) (other_told change i differ) in
        record {
          known_is = is.known_is ∙ sym same;
          since_within = is.since_within;
          time_within = is.time_within;
          time_is = λ positive end reached.
              time-on spec calls (telling more) row.0 at end refl (on_row more i row there positive)
              ∙ ap (λ k. running_time spec calls at row.0 + (if is_told_timed k then end - at else 0)) same
              ∙ sym (time-on spec calls (telling changes) row.0 at end refl (on_row changes i row there positive))
              ∙ is.time_is positive end reached;
        }

    -- the row of the change has what it tells
    told_stands : (i : ℕ) (row : Row) → at < 2 ^ 64 → change.place ≡ i → slice_get it.table.rows i ≡ Some row
        → EntryStands spec (with more) at row.0 (told_entry at (known_by change) row.1)
    told_stands i row fits own there =
        let is = all_at (RowStands spec (with changes) at) it.table.rows i row has.rows_are there in
        let told : last_known spec (with more) row.0 ≡ Some (known_by change) =
        known_more i row there ∙ ap (last_or (last_known spec (with changes) row.0)) (own_told change i own) in
        record {
          known_is = sym told;
          since_within = omega arith;
          time_within = saved_within row.1 at is.time_within is.since_within;
          time_is = λ positive end reached.
              let before : running_time spec calls at row.0 ≡ saved_time row.1 at =
              sym (no_time (is_told_timed (last_known spec (with changes) row.0)) (running_time spec calls at row.0) at)
              ∙ sym (time-on spec calls (telling changes) row.0 at at refl (on_row changes i row there positive))
              ∙ is.time_is positive at (omega arith)
              ∙ sym (saved_is row.1 at is.time_within is.since_within fits) in
              time-on spec calls (telling more) row.0 at end refl (on_row more i row there positive)
              ∙ ap (λ n. n + (if is_told_timed (last_known spec (with more) row.0) then end - at else 0)) before
              ∙ ap (λ k. saved_time row.1 at + (if is_told_timed k then end - at else 0)) told;
        }

    -- an object with the same keys and counts, each of whose rows stands
    told_by_rows : (new : SparseKeys) → new.spec ≡ it.spec → new.table.bound ≡ it.table.bound
        → sparse_state new ≡ sparse_state it → keys new.table ≡ keys it.table
        → AllByRecursion (RowStands spec (with more) at) new.table.rows → KeysStand new spec (with more) at
    told_by_rows new same_spec same_bound state same_keys rows = record {
      spec_is = same_spec ∙ has.spec_is;
      bound_is = same_bound ∙ has.bound_is;
      state_is = state ∙ has.state_is ∙ state_with changes ∙ sym (state_with more);
      distinct = subst (IsDistinct same_leaves) (sym same_keys) has.distinct;
      rows_are = rows;
      others_are = others_after spec calls (telling more) at refl;
    }

    -- a change of a place where a row stands
    pub tells_there : (row : Row) → at < 2 ^ 64 → slice_get it.table.rows change.place ≡ Some row
        → KeysStand
        (record it { table = with_value_at it.table change.place (told_entry at (known_by change) row.1) }) spec
        (with more) at
    tells_there row fits there =
        let entry = told_entry at (known_by change) row.1 in
        told_by_rows (record it { table = with_value_at it.table change.place entry }) refl refl
        (ap (λ (counts : List (LeafKey × ℕ)). let given : PredicateState LeafKey = record {
          unknown = it.unknown;
          counts = counts;
          dropped = it.table.dropped;
        } in given) (counts_set it.table.rows change.place entry
        ∙ set_same (map entry_count it.table.rows) change.place (entry_count row)
        (slice_get-map entry_count it.table.rows change.place ∙ ap (option_map entry_count) there)))
        (keys_set_value_at it.table.rows change.place entry)
        (all_places (RowStands spec (with more) at) (set_value_at it.table.rows change.place entry)
        (λ i other at_i. elim (set_at it.table.rows change.place entry i other at_i) [
          | inl own ↦
              let was : row ≡ (other.0, own.0) = same_Some row (other.0, own.0)
              (sym there ∙ ap (slice_get it.table.rows) own.1 ∙ own.2) in
              subst (λ (r : Row). RowStands spec (with more) at r)
              (ap (λ (r : Row). let pair : Row = (r.0, entry) in pair) was
              ∙ ap (λ e. let pair : Row = (other.0, e) in pair) (sym own.3))
              (told_stands change.place row fits refl there)
          | inr apart ↦ other_stands i other apart.0 apart.1
        ]))

    -- a change of a place where none stands tells of no key
    pub tells_nowhere : slice_get (values_of it.table.rows) change.place ≡ None → KeysStand it spec (with more) at
    tells_nowhere none =
        told_by_rows it refl refl refl refl
        (all_places (RowStands spec (with more) at) it.table.rows
        (λ i row there. other_stands i row
        (λ own. no_value it.table.rows i row (subst (λ n. slice_get (values_of it.table.rows) n ≡ None) own none) there)
        there))
