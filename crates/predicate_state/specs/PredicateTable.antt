-- What a contract sees of a predicate's table: how it is kept, and what it knows.
use Rattle.std.specs.Prelude.{◌≡◌, ◌≢◌, ℕ, Bool, true, List, [], ◌∷◌, ◌++◌, length, All, Contains}
use Rattle.std.specs.Map.{keys_of}
use Rattle.std.specs.Cmp.Lexicographic.{pointwise}
use Rattle.config_types.specs.declared.parameters.PredSpec.{PredSpec}
use Rattle.atom_record.specs.declared.value.Leaf.{Leaf}
use Rattle.atom_record.specs.contracts.value.LeafPartialEq.TheImpl as leaf_test
use Rattle.predicate_state.specs.declared.event.PredEvent.{PredEvent}
use Rattle.predicate_state.specs.declared.event.PredEvent.TheVariants.{Start, Stop, StopAll}
use Rattle.dim_table.specs.Table.{set_value_at}
use Rattle.predicate_state.specs.PredicateStates.{PredicateState, KeyEvent, with_new_key, state_after, predicate_after}

-- A key is a list of leaves.
abbrev pub LeafKey : Type 0
LeafKey = List Leaf

-- two keys are the same, leaf by leaf
abbrev pub same_leaves : LeafKey → LeafKey → Bool
same_leaves = pointwise leaf_test.ghosts.eq

-- How a table is kept, and what it knows.
pub record PredicateTable : Type 0 where
  pub spec : PredSpec
  pub state : PredicateState LeafKey

-- the table with another state
abbrev pub with_state : PredicateTable → PredicateState LeafKey → PredicateTable
with_state table state = record table { state = state }

-- the table after an event of a key
abbrev pub with_event : PredicateTable → PredEvent → LeafKey → PredicateTable
with_event table event key = with_state table (state_after same_leaves table.spec table.state event key)

-- the table with another count at a place
abbrev pub with_count_at : PredicateTable → ℕ → ℕ → PredicateTable
with_count_at table place count =
    with_state table (record table.state { counts = set_value_at table.state.counts place count })

-- the table after a key came that isn't listed
abbrev pub with_key_listed : PredicateTable → LeafKey → ℕ → PredicateTable
with_key_listed table key count = with_state table (with_new_key table.spec.bound table.state key count)

-- every listed key has so many leaves
abbrev pub HaveLeaves : ℕ → List (LeafKey × ℕ) → Type 0
HaveLeaves leaves counts = All (λ (entry : LeafKey × ℕ). length entry.0 ≡ leaves) counts

-- The table is kept as the spec says, and knows what these events make of it.
pub record PredTableStandsFor (table : PredicateTable) (spec : PredSpec) (events : List (KeyEvent LeafKey))
    : Type 0 where
  pub spec_is : table.spec ≡ spec
  pub state_is : table.state ≡ predicate_after same_leaves spec events

-- whatever events the old table stood for, the new one stands for those and this one
abbrev pub AppliesEvent : PredicateTable → PredicateTable → PredEvent → LeafKey → Type 0
AppliesEvent old new event key =
    (spec : PredSpec) (events : List (KeyEvent LeafKey)) → PredTableStandsFor old spec events
    → PredTableStandsFor new spec (events ++ record { event = event; key = key } ∷ [])

-- a start lists a key that is new, and so does a stop where all that isn't listed is unknown
abbrev pub ListsNew : PredEvent → Bool → Type 0
ListsNew Start unknown = Unit
ListsNew Stop unknown = unknown ≡ true
ListsNew StopAll unknown = ⊥

-- the event lists the key: it is new, and the list isn't at its bound
pub record ListsNewKey (table : PredicateTable) (event : PredEvent) (key : LeafKey) : Type 0 where
  pub absent : ¬ Contains (keys_of table.state.counts) key
  pub room : length table.state.counts ≢ table.spec.bound
  pub lists : ListsNew event table.state.unknown
