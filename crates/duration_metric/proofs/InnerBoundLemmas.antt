-- The inner keys that find room are no more than their bound, and the count of the others grows and fits its type.
use Rattle.std.proofs.Common.{◌≡◌, ℕ, zero, suc, ◌+◌, ◌^◌, ◌<◌, ◌≤◌, Bool, true, false, not, ◌&&◌, ◌==◌, if◌then◌else◌, nat_lt, cond, List, [], ◌∷◌, ◌++◌, filter, length, replicate, Option, Some, None, refl, ap, ◌∙◌, arith}
use Rattle.std.specs.List.{flat_map}
use Rattle.std.specs.Map.{lookup, set_value}
use Rattle.std.proofs.lemmas.List.{length-append, length-map}
use Rattle.atom_record.specs.declared.value.MetricKey.{MetricKey}
use Rattle.bucket_meaning.specs.Kept.{count_in_u64}
use Rattle.bucket_meaning.specs.Marks.{Lost, Books, books_from}
use Rattle.config_types.specs.declared.parameters.PredSpec.{PredSpec}
use Rattle.predicate_state.specs.declared.event.PredEvent.{PredEvent}
use Rattle.predicate_state.specs.declared.event.PredEvent.TheVariants.{Start, Stop, StopAll}
use Rattle.predicate_state.specs.PredicateStates.{KeyEvent, PredicateState, initial_state, state_from, with_new_key, without_key, with_key_count, state_after_start, state_after_stop, state_after, count_after_start, count_after_stop}
use Rattle.predicate_state.specs.PredicateTable.{LeafKey, same_leaves}
use Rattle.metric_kinds.specs.Runs.{Active}
use Rattle.duration_metric.specs.declared.inner.InnerTable.{InnerTable}
use Rattle.duration_metric.specs.InnerKeys.{DurationCall, key_events, inner_state}
use Rattle.duration_metric.specs.InnerStands.{row_count, InnersStandFor}

-- Drops of inner keys.
pub lost_books : (drop : List (Active MetricKey) → Active MetricKey → ℕ) (n : ℕ) (books : Books (Active MetricKey))
    → books_from drop books (replicate n Lost) ≡ record books { dropped = books.dropped + n }
lost_books drop zero books = ap (λ (d : ℕ). record books { dropped = d }) (omega arith)
lost_books drop (suc n) books =
    lost_books drop n (record books { dropped = books.dropped + 1 })
    ∙ ap (λ (d : ℕ). record books { dropped = d }) (omega arith)

-- a count of drops grows, and fits its type
abbrev Grows : ℕ → ℕ → Type 0
Grows old new = (old ≤ new) × (new < 2 ^ 64)

one_drop : (n : ℕ) → n < 2 ^ 64 → Grows n (count_in_u64 (n + 1))
one_drop n fits = (omega (arith, fits), omega (arith, fits))

new_key_drops : (room : Bool) (state : PredicateState LeafKey) (key : LeafKey) (count : ℕ) → state.dropped < 2 ^ 64
    → Grows state.dropped
    (if room then record state { counts = state.counts ++ (key, count) ∷ [] }
    else record state { dropped = count_in_u64 (state.dropped + 1) }).dropped
new_key_drops true state key count fits = (omega arith, fits)
new_key_drops false state key count fits = one_drop state.dropped fits

kept_drops : (goes : Bool) (state : PredicateState LeafKey) (key : LeafKey) (less : ℕ) → state.dropped < 2 ^ 64
    → Grows state.dropped
    (if goes then without_key same_leaves state key else with_key_count same_leaves state key less).dropped
kept_drops true state key less fits = (omega arith, fits)
kept_drops false state key less fits = (omega arith, fits)

stop_drops : (spec : PredSpec) (unknown : Bool) (state : PredicateState LeafKey) (key : LeafKey)
    → state.dropped < 2 ^ 64
    → Grows state.dropped (if unknown then with_new_key spec.bound state key 0 else state).dropped
stop_drops spec true state key fits = new_key_drops (nat_lt (length state.counts) spec.bound) state key 0 fits
stop_drops spec false state key fits = (omega arith, fits)

stop_grows : (spec : PredSpec) (state : PredicateState LeafKey) (key : LeafKey) (found : Option ℕ)
    → state.dropped < 2 ^ 64
    → Grows state.dropped (state_after_stop same_leaves spec state key found).dropped
stop_grows spec state key None fits = stop_drops spec state.unknown state key fits
stop_grows spec state key (Some count) fits =
    kept_drops (count_after_stop spec.nesting count == 0 && not state.unknown) state key
    (count_after_stop spec.nesting count) fits

start_grows : (spec : PredSpec) (state : PredicateState LeafKey) (key : LeafKey) (found : Option ℕ)
    → state.dropped < 2 ^ 64
    → Grows state.dropped (state_after_start same_leaves spec state key found).dropped
start_grows spec state key None fits =
    new_key_drops (nat_lt (length state.counts) spec.bound) state key 1 fits
start_grows spec state key (Some count) fits = (omega arith, fits)

pub drops_grow : (spec : PredSpec) (state : PredicateState LeafKey) (event : PredEvent) (key : LeafKey)
    → state.dropped < 2 ^ 64 → Grows state.dropped (state_after same_leaves spec state event key).dropped
drops_grow spec state Start key fits = start_grows spec state key (lookup (same_leaves key) state.counts) fits
drops_grow spec state Stop key fits = stop_grows spec state key (lookup (same_leaves key) state.counts) fits
drops_grow spec state StopAll key fits = (omega arith, fits)

drops_fit_from : (spec : PredSpec) (state : PredicateState LeafKey) (events : List (KeyEvent LeafKey))
    → state.dropped < 2 ^ 64 → (state_from same_leaves spec state events).dropped < 2 ^ 64
drops_fit_from spec state [] fits = fits
drops_fit_from spec state (first ∷ events) fits =
    drops_fit_from spec (state_after same_leaves spec state first.event first.key) events
    (drops_grow spec state first.event first.key fits).1

-- the count of drops of calls fits its type
pub drops_fit : (spec : PredSpec) (calls : List DurationCall) → (inner_state spec calls).dropped < 2 ^ 64
drops_fit spec calls = drops_fit_from spec (initial_state spec) (flat_map key_events calls) (omega arith)

-- the count of drops of a table is that of the calls
pub same_drops : (it : InnerTable) (spec : PredSpec) (calls : List DurationCall) → InnersStandFor it spec calls
    → it.keys.dropped ≡ (inner_state spec calls).dropped
same_drops it spec calls stands = ap (λ (s : PredicateState LeafKey). s.dropped) stands.state_is

-- No more keys are listed than the bound says.
few_filtered : (test : LeafKey × ℕ → Bool) (rows : List (LeafKey × ℕ)) → length (filter test rows) ≤ length rows
few_filtered test [] = omega arith
few_filtered test (row ∷ rows) = by (test row) (few_filtered test rows) where
  by : (b : Bool) → length (filter test rows) ≤ length rows
      → length (cond b (row ∷ filter test rows) (filter test rows)) ≤ suc (length rows)
  by true few = omega (arith, few)
  by false few = omega (arith, few)

as_many : (key : LeafKey) (rows : List (LeafKey × ℕ)) (count : ℕ)
    → length (set_value (same_leaves key) rows count) ≡ length rows
as_many key [] count = refl
as_many key (row ∷ rows) count = by (same_leaves key row.0) (as_many key rows count) where
  by : (b : Bool) → length (set_value (same_leaves key) rows count) ≡ length rows
      → length (cond b ((row.0, count) ∷ rows) (row ∷ set_value (same_leaves key) rows count)) ≡ suc (length rows)
  by true same = refl
  by false same = ap suc same

few_with_new : (bound : ℕ) (state : PredicateState LeafKey) (key : LeafKey) (count : ℕ)
    → length state.counts ≤ bound → length (with_new_key bound state key count).counts ≤ bound
few_with_new bound state key count few = by (nat_lt (length state.counts) bound) refl where
  by : (room : Bool) → nat_lt (length state.counts) bound ≡ room
      → length (if room then record state { counts = state.counts ++ (key, count) ∷ [] }
      else record state { dropped = count_in_u64 (state.dropped + 1) }).counts ≤ bound
  by true has =
      let room : length state.counts < bound = grind (arith, has) in
      omega (arith, room, length-append state.counts ((key, count) ∷ []))
  by false none = few

few_kept : (goes : Bool) (bound : ℕ) (state : PredicateState LeafKey) (key : LeafKey) (less : ℕ)
    → length state.counts ≤ bound
    → length (if goes then without_key same_leaves state key else with_key_count same_leaves state key less).counts
    ≤ bound
few_kept true bound state key less few =
    omega (arith, few, few_filtered (λ entry. not (same_leaves key entry.0)) state.counts)
few_kept false bound state key less few = omega (arith, few, as_many key state.counts less)

few_after_stop : (spec : PredSpec) (state : PredicateState LeafKey) (key : LeafKey) (found : Option ℕ)
    → length state.counts ≤ spec.bound
    → length (state_after_stop same_leaves spec state key found).counts ≤ spec.bound
few_after_stop spec state key None few = by state.unknown where
  by : (unknown : Bool) → length (if unknown then with_new_key spec.bound state key 0 else state).counts ≤ spec.bound
  by true = few_with_new spec.bound state key 0 few
  by false = few
few_after_stop spec state key (Some count) few =
    few_kept (count_after_stop spec.nesting count == 0 && not state.unknown) spec.bound state key
    (count_after_stop spec.nesting count) few

few_after_start : (spec : PredSpec) (state : PredicateState LeafKey) (key : LeafKey) (found : Option ℕ)
    → length state.counts ≤ spec.bound
    → length (state_after_start same_leaves spec state key found).counts ≤ spec.bound
few_after_start spec state key None few = few_with_new spec.bound state key 1 few
few_after_start spec state key (Some count) few =
    omega (arith, few, as_many key state.counts (count_after_start spec.nesting count))

few_after : (spec : PredSpec) (state : PredicateState LeafKey) (event : PredEvent) (key : LeafKey)
    → length state.counts ≤ spec.bound → length (state_after same_leaves spec state event key).counts ≤ spec.bound
few_after spec state Start key few = few_after_start spec state key (lookup (same_leaves key) state.counts) few
few_after spec state Stop key few = few_after_stop spec state key (lookup (same_leaves key) state.counts) few
few_after spec state StopAll key few = omega arith

few_from : (spec : PredSpec) (state : PredicateState LeafKey) (events : List (KeyEvent LeafKey))
    → length state.counts ≤ spec.bound → length (state_from same_leaves spec state events).counts ≤ spec.bound
few_from spec state [] few = few
few_from spec state (first ∷ events) few =
    few_from spec (state_after same_leaves spec state first.event first.key) events
    (few_after spec state first.event first.key few)

-- a table has no more rows than the bound says
pub few_listed : (it : InnerTable) (spec : PredSpec) (calls : List DurationCall) → InnersStandFor it spec calls
    → length it.keys.rows ≤ spec.bound
few_listed it spec calls stands =
    let few = few_from spec (initial_state spec) (flat_map key_events calls) (omega arith) in
    let same = ap (λ (s : PredicateState LeafKey). length s.counts) stands.state_is in
    omega (arith, few, same, length-map it.keys.rows row_count)
