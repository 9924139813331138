-- What a contract sees of the states of one id: a table of states by key, and what one more state atom does to it.
use Rattle.std.specs.Prelude.{◌≡◌, ◌≤◌, ◌⊎◌, ℕ, ℤ, true, false, ◌==◌, List, length, map, slice_get, Some, All, if◌then◌else◌}
use Rattle.atom_record.specs.declared.value.Leaf.{Leaf}
use Rattle.atom_record.specs.declared.atom.Atom.{Atom}
use Rattle.dim_table.specs.Table.{Table, keys, with_value_at, IsNew, IsTurnedAway}
use Rattle.book_meaning.specs.BookLimits.{most_state_keys}
use Rattle.book_meaning.specs.States.{no_state_known, puts_back, primary_key, told_state}
use Rattle.state_slicer.specs.declared.states.Stamped.{Stamped}

-- the state that a stamped one still is: one that was told before the last reset is unknown
abbrev pub current : ℕ → Stamped → ℤ
current resets stamped = if stamped.resets == resets then stamped.state else no_state_known

-- the table of states, of a table of stamped ones
abbrev pub current_table : ℕ → Table (List Leaf) Stamped → Table (List Leaf) ℤ
current_table resets table = record {
  rows = map (λ row. (row.0, current resets row.1)) table.rows;
  bound = table.bound;
  dropped = table.dropped;
}

-- no state was stamped after this many resets
pub record IsStamped (resets : ℕ) (table : Table (List Leaf) Stamped) : Type 0 where
  pub bound : table.bound ≡ most_state_keys
  pub before : All (λ row. row.1.resets ≤ resets) table.rows

-- a state of which nothing is known, as after no reset
abbrev pub blank : Stamped
blank = record { state = no_state_known; resets = 0 }

-- the table with all stamped states blank
abbrev pub with_blanks : Table (List Leaf) Stamped → Table (List Leaf) Stamped
with_blanks table = record table { rows = map (λ row. (row.0, blank)) table.rows }

-- the table with all states unknown, and the same keys
abbrev pub put_back : Table (List Leaf) ℤ → Table (List Leaf) ℤ
put_back table = record table { rows = map (λ row. (row.0, no_state_known)) table.rows }

-- a key that is there has another state, a new one has a place after the others, or is counted where there is none
abbrev pub IsTold : Table (List Leaf) ℤ → Table (List Leaf) ℤ → List Leaf → ℤ → Type 0
IsTold old new key state =
    ((place : ℕ) × (slice_get (keys old) place ≡ Some key) × (new ≡ with_value_at old place state))
    ⊎ (IsNew old new key state (length old.rows) ⊎ IsTurnedAway old new key)

-- a state atom puts all states back, or tells the state of its key
abbrev pub TakesAtom : Table (List Leaf) ℤ → Table (List Leaf) ℤ → Atom → Type 0
TakesAtom old new atom =
    ((puts_back atom ≡ true) × (new ≡ put_back old))
    ⊎ ((puts_back atom ≡ false) × IsTold old new (primary_key atom) (told_state atom))

-- this is the state of a key
abbrev pub IsStateOf : Table (List Leaf) ℤ → List Leaf → ℤ → Type 0
IsStateOf table key state = (place : ℕ) × (slice_get table.rows place ≡ Some (key, state))
