-- What a table of inner keys stands for.
use Rattle.std.specs.Prelude.{◌≡◌, ℕ, false, List, [], ◌∷◌, ◌++◌, map, position, slice_get, Contains, Option, Some, None}
use Rattle.std.specs.List.{last_or}
use Rattle.std.specs.Map.{values_of}
use Rattle.config_types.specs.declared.parameters.PredSpec.{PredSpec}
use Rattle.dim_table.specs.Table.{keys, set_value_at, with_value_at}
use Rattle.predicate_state.specs.declared.event.PredEvent.{PredEvent}
use Rattle.predicate_state.specs.PredicateStates.{PredicateState, state_after, with_new_key}
use Rattle.predicate_state.specs.PredicateTable.{LeafKey, same_leaves}
use Rattle.metric_producer.specs.Calls.{Got, Learned}
use Rattle.duration_metric.specs.declared.change.InnerEvent.{InnerEvent}
use Rattle.duration_metric.specs.declared.change.InnerChange.{InnerChange}
use Rattle.duration_metric.specs.declared.change.InnerDelta.{InnerDelta}
use Rattle.duration_metric.specs.declared.inner.Known.{Known}
use Rattle.duration_metric.specs.declared.inner.Inner.{Inner}
use Rattle.duration_metric.specs.declared.inner.InnerTable.{InnerTable}
use Rattle.duration_metric.specs.InnerKeys.{DurationCall, known_by, known_at, inner_state, last_known}
use Rattle.duration_metric.specs.Tallies.{tallied_key, AreSteady, KeepsCounts, KeepsSteady}

-- a listed key with its count
abbrev pub row_count : LeafKey × Inner → LeafKey × ℕ
row_count row = (row.0, row.1.count)

-- what a table knows of its keys as those of a predicate
abbrev pub state_in : InnerTable → PredicateState LeafKey
state_in it =
    record { unknown = it.unknown; counts = map row_count it.keys.rows; dropped = it.keys.dropped }

-- how the table is kept, as far as events ask
abbrev pub kept_spec : InnerTable → PredSpec
kept_spec it = record { nesting = it.nesting; unknown = it.unknown; bound = it.keys.bound; leaves = 0 }

-- each listed key was told last what is said of it
abbrev pub AreKnown : (LeafKey → Option Known) → List (LeafKey × Inner) → Type 0
AreKnown known [] = Unit {0}
AreKnown known (row ∷ rows) = (row.1.known ≡ known row.0) × AreKnown known rows

-- The table is kept as the spec says, and has what these calls tell of the inner keys.
pub record InnersStandFor (it : InnerTable) (spec : PredSpec) (calls : List DurationCall) : Type 0 where
  pub nesting_is : it.nesting ≡ spec.nesting
  pub bound_is : it.keys.bound ≡ spec.bound
  pub state_is : state_in it ≡ inner_state spec calls
  pub known_are : AreKnown (last_known spec calls) it.keys.rows

-- whatever was told of the keys, and nothing of those that aren't listed, is told of them still
abbrev pub KeepsKnown : InnerTable → InnerTable → Type 0
KeepsKnown old new =
    (known : LeafKey → Option Known) → ((key : LeafKey) → ¬ Contains (keys old.keys) key → known key ≡ None)
    → AreKnown known old.keys.rows → AreKnown known new.keys.rows

-- The new table knows this of its keys, and each that is there still was told what it was told before.
pub record ChangesTo (old new : InnerTable) (state : PredicateState LeafKey) : Type 0 where
  pub nesting_is : new.nesting ≡ old.nesting
  pub bound_is : new.keys.bound ≡ old.keys.bound
  pub state_is : state_in new ≡ state
  pub known_are : KeepsKnown old new
  pub counts_are : KeepsCounts old new
  pub steady_is : KeepsSteady old new

-- an event acts on a key of a table as on one of a predicate, and tells nothing
abbrev pub ActsOn : InnerTable → InnerTable → PredEvent → LeafKey → Type 0
ActsOn old new event key =
    ChangesTo old new (state_after same_leaves (kept_spec old) (state_in old) event key)

-- the key at a place has another count
abbrev pub SetsCount : InnerTable → InnerTable → ℕ → ℕ → Type 0
SetsCount old new place count = ChangesTo old new
    (record (state_in old) { counts = set_value_at (state_in old).counts place count })

-- a new key is listed last, or finds no room
abbrev pub ListsKey : InnerTable → InnerTable → LeafKey → ℕ → Type 0
ListsKey old new key count =
    ChangesTo old new (with_new_key old.keys.bound (state_in old) key count)

-- whatever calls the old one stood for, the new one stands for those and this event
abbrev pub TakesEvent : InnerTable → InnerTable → InnerEvent → Type 0
TakesEvent old new event =
    (spec : PredSpec) (calls : List DurationCall) (at : ℕ) → InnersStandFor old spec calls
    → InnersStandFor new spec (calls ++ Got at event ∷ [])

-- whatever calls the old one stood for, the new one stands for those and this condition
abbrev pub TakesDelta : InnerTable → InnerTable → InnerDelta → Type 0
TakesDelta old new delta =
    (spec : PredSpec) (calls : List DurationCall) (at : ℕ) → InnersStandFor old spec calls
    → InnersStandFor new spec (calls ++ Learned at delta ∷ [])

-- a key was told this, and the tally isn't to count it as before
abbrev pub told : Inner → InnerChange → Inner
told inner change = record inner { known = Some (known_by change); tallied = false }

-- the key at a place is another now, and what the tally counted for it is put down
abbrev pub with_other : InnerTable → ℕ → Inner → Inner → InnerTable
with_other it place was now = record it {
  keys = with_value_at it.keys place now;
  touched = it.touched ++ place ∷ [];
  gone = it.gone ++ tallied_key was;
}

-- A change tells of the key at its place, if there is one.
pub record TellsOne (old new : InnerTable) (change : InnerChange) : Type 0 where
  pub there : (inner : Inner) → slice_get (values_of old.keys.rows) change.place ≡ Some inner
      → new ≡ with_other old change.place inner (told inner change)
  pub nowhere : slice_get (values_of old.keys.rows) change.place ≡ None → new ≡ old

-- Each of some changes tells of the key at its place, the last one last.
pub record TellsAll (old new : InnerTable) (changes : List InnerChange) : Type 0 where
  pub nesting_is : new.nesting ≡ old.nesting
  pub bound_is : new.keys.bound ≡ old.keys.bound
  pub state_is : state_in new ≡ state_in old
  pub known_are : (known : LeafKey → Option Known) → AreKnown known old.keys.rows
      → AreKnown (λ key. last_or (known key) (known_at changes (position (same_leaves key) (keys old.keys))))
      new.keys.rows
  pub counts_are : KeepsCounts old new
  pub steady_is : AreSteady old.touched old.keys.rows → AreSteady new.touched new.keys.rows
