-- What a state book stands for: the states that these frames of the log gave.
use Rattle.std.specs.Prelude.{◌≡◌, ◌⊎◌, ℕ, ℤ, true, false, List, ◌∷◌, [], ◌++◌, map, length, slice_get, Contains, Some}
use Rattle.atom_record.specs.declared.value.Leaf.{Leaf}
use Rattle.atom_record.specs.declared.atom.Atom.{Atom}
use Rattle.atom_record.specs.declared.log.LogFrame.{LogFrame}
use Rattle.atom_record.specs.declared.log.LogFrame.TheVariants.{AtomAt}
use Rattle.dim_table.specs.Table.{Table, keys, with_value_at, IsNew, IsTurnedAway}
use Rattle.bucket_meaning.specs.Kept.{count_in_u64}
use Rattle.book_meaning.specs.BookLimits.{most_state_ids, most_state_keys}
use Rattle.book_meaning.specs.States.{no_state_known, tells_state, state_atom_ids, first_keys, other_keys, last_state, dropped_state_atoms}
use Rattle.state_slicer.specs.StateTables.{TakesAtom, IsStateOf}

-- the states of an id of the book: of each key what was told last, and how many atoms had another key
abbrev pub states_of_id : ℕ → List LogFrame → Table (List Leaf) ℤ
states_of_id id frames = record {
  rows = map (λ key. (key, last_state id key frames)) (first_keys id frames);
  bound = most_state_keys;
  dropped = count_in_u64 (other_keys id frames);
}

-- the book is what these frames of the log make of an empty one
pub record StateBookStandsFor (book : Table ℕ (Table (List Leaf) ℤ)) (frames : List LogFrame) : Type 0 where
  pub ids : book.rows ≡ map (λ id. (id, states_of_id id frames)) (state_atom_ids frames)
  pub bound : book.bound ≡ most_state_ids
  pub dropped : book.dropped ≡ count_in_u64 (dropped_state_atoms frames)

-- whatever frames the book stands for, this is the answer
abbrev pub BookAnswers : {A : Type 0} → Table ℕ (Table (List Leaf) ℤ) → A → (List LogFrame → A) → Type 0
BookAnswers book result answer = (frames : List LogFrame) → StateBookStandsFor book frames → result ≡ answer frames

-- whatever frames the old book stood for, the new one stands for those and this atom, at any time
abbrev pub AppliesAtom : Table ℕ (Table (List Leaf) ℤ) → Table ℕ (Table (List Leaf) ℤ) → Atom → Type 0
AppliesAtom old new atom =
    (frames : List LogFrame) (at : ℕ) → StateBookStandsFor old frames
    → StateBookStandsFor new (frames ++ AtomAt at atom ∷ [])

-- the states of the id at a place are those after one more state atom
abbrev pub IsTakenAt : Table ℕ (Table (List Leaf) ℤ) → Table ℕ (Table (List Leaf) ℤ) → ℕ → Atom → Type 0
IsTakenAt old new place atom =
    (before : Table (List Leaf) ℤ) × (after : Table (List Leaf) ℤ)
    × (slice_get old.rows place ≡ Some (atom.id, before)) × TakesAtom before after atom
    × (new ≡ with_value_at old place after)

-- no states, which a new id begins with
abbrev pub no_states : Table (List Leaf) ℤ
no_states = record { rows = []; bound = most_state_keys; dropped = 0 }

-- a new id has a place with the states after its first state atom, or is counted where there is no room
abbrev pub IsTakenFirst : Table ℕ (Table (List Leaf) ℤ) → Table ℕ (Table (List Leaf) ℤ) → Atom → Type 0
IsTakenFirst old new atom =
    ((after : Table (List Leaf) ℤ) × TakesAtom no_states after atom × IsNew old new atom.id after (length old.rows))
    ⊎ IsTurnedAway old new atom.id

-- these are the states of an id
abbrev pub IsAtId : Table ℕ (Table (List Leaf) ℤ) → ℕ → Table (List Leaf) ℤ → Type 0
IsAtId book id states = (place : ℕ) × (slice_get book.rows place ≡ Some (id, states))

-- what one more atom does to a book: nothing if it tells no state, and else the states of its id take it, or it is the
-- first of its id
abbrev pub BookTakes : Table ℕ (Table (List Leaf) ℤ) → Table ℕ (Table (List Leaf) ℤ) → Atom → Type 0
BookTakes old new atom =
    ((tells_state atom ≡ false) × (new ≡ old))
    ⊎ ((tells_state atom ≡ true) × (((place : ℕ) × IsTakenAt old new place atom) ⊎ IsTakenFirst old new atom))

-- this is so of the states of an id, or the id isn't in the book and that is so
abbrev pub AtIdOrElse : Table ℕ (Table (List Leaf) ℤ) → ℕ → (Table (List Leaf) ℤ → Type 0) → Type 0 → Type 0
AtIdOrElse book id there absent =
    ((states : Table (List Leaf) ℤ) × IsAtId book id states × there states)
    ⊎ ((¬ Contains (keys book) id) × absent)

-- the state of a key in the states of an id: what stands in its row, or -1 without one
abbrev pub IsStateBy : Table (List Leaf) ℤ → List Leaf → ℤ → Type 0
IsStateBy states key state =
    IsStateOf states key state ⊎ ((¬ Contains (keys states) key) × (state ≡ no_state_known))

-- the state of a key of an id in the book, or -1 without such an id
abbrev pub IsStateIn : Table ℕ (Table (List Leaf) ℤ) → ℕ → List Leaf → ℤ → Type 0
IsStateIn book id key state = AtIdOrElse book id (λ states. IsStateBy states key state) (state ≡ no_state_known)

-- how many atoms of an id of the book had a key without room, or 0 without such an id
abbrev pub AreDropsIn : Table ℕ (Table (List Leaf) ℤ) → ℕ → ℕ → Type 0
AreDropsIn book id drops = AtIdOrElse book id (λ states. drops ≡ states.dropped) (drops ≡ 0)
