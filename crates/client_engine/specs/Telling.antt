-- The key of an id whose state an atom tells: for private clauses.
use Rattle.std.specs.Prelude.{◌≡◌, ℕ, Bool, false, ◌&&◌, List, slice_get, Option, Some, None}
use Rattle.std.specs.List.{list_any}
use Rattle.atom_record.specs.declared.atom.Atom.{Atom}
use Rattle.book_meaning.specs.Snapshots.{same_atom_id}
use Rattle.book_meaning.specs.States.{same_dims, puts_back, primary_key}
use Rattle.config_links.specs.declared.linked.LSlice.{LSlice}
use Rattle.config_links.specs.declared.linked.LState.{LState}
use Rattle.field_select.specs.declared.leaf.FieldSet.{FieldSet}
use Rattle.predicate_state.specs.PredicateTable.{LeafKey}
use Rattle.metric_meaning.specs.Readings.{LeafReading, key_reading}
use Rattle.metric_meaning.specs.StateSlices.{state_key}
use Rattle.client_engine.specs.declared.told.Told.{Told}

-- a state that was found is of this id, and is asked for by this key
abbrev pub decides_slice : ℕ → LeafKey → Option LState → LeafKey → Bool
decides_slice id key None asked = false
decides_slice id key (Some state) asked = same_atom_id id state.atom_id && same_dims key asked

-- one of the states by which these slices of what is read are made is
abbrev pub decides_one : List LState → ℕ → LeafKey → LeafReading → List LSlice → Bool
decides_one states id key reading slices =
    list_any (λ (slice : LSlice). decides_slice id key (slice_get states slice.state) (state_key slice.in_what reading))
    slices

-- one of the slices of an inner key of these fields is by the state of the key that is told
abbrev pub decides_inner : FieldSet → LeafKey → Told → Bool
decides_inner fields key told =
    decides_one told.states.now told.id told.key (key_reading fields key) told.slices.now

-- The atom tells the state of this key of its id, and puts no states back.
pub record TellsKey (states : List LState) (slices : List LSlice) (atom : Atom) (told : Told) : Type 0 where
  pub states_are : told.states.now ≡ states
  pub slices_are : told.slices.now ≡ slices
  pub id_is : told.id ≡ atom.id
  pub key_is : told.key ≡ primary_key atom
  pub stays : puts_back atom ≡ false

-- it does, if there is such a key
abbrev pub IsKeyTold : List LState → List LSlice → Atom → Option Told → Type 0
IsKeyTold states slices atom None = Unit {0}
IsKeyTold states slices atom (Some told) = TellsKey states slices atom told
