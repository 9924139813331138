-- What a contract sees of a pull book: each kept id with what its last pull gave, in the order in which they came.
use Rattle.std.specs.Prelude.{◌≡◌, ℕ, ◌<◌, ◌⊎◌, List, ◌∷◌, [], ◌++◌, length, All}
use Rattle.atom_record.specs.declared.atom.Atom.{Atom}
use Rattle.atom_record.specs.declared.log.LogFrame.{LogFrame}
use Rattle.atom_record.specs.declared.log.LogFrame.TheVariants.{Pull}
use Rattle.atom_record.specs.declared.log.PullOutcome.{PullOutcome}
use Rattle.atom_record.specs.declared.log.PullOutcome.TheVariants.{Atoms, Failed}
use Rattle.atom_record.specs.AtomSound.{HasNoFault}
use Rattle.atom_record.specs.Pulled.{IsPulled}
use Rattle.dim_table.specs.Table.{Table}
use Rattle.book_meaning.specs.BookLimits.{most_pulled_ids}
use Rattle.book_meaning.specs.Snapshots.{outcomes_of}

-- an atom that a snapshot of an id may hold
abbrev pub IsSnapshotAtom : ℕ → Atom → Type 0
IsSnapshotAtom id atom = (atom.id ≡ id) × HasNoFault atom

-- what a pull of an id may give
abbrev pub IsRecordable : ℕ → PullOutcome → Type 0
IsRecordable id Failed = Unit {0}
IsRecordable id (Atoms atoms) = All (IsSnapshotAtom id) atoms

-- a pulled id, with what a pull of it may give
abbrev pub IsKeptRow : ℕ × PullOutcome → Type 0
IsKeptRow row = IsPulled row.0 × IsRecordable row.0 row.1

-- the table of a book: it has room for the kept ids, and drops nothing
pub record IsPullTable (table : Table ℕ PullOutcome) : Type 0 where
  pub bound : table.bound ≡ most_pulled_ids
  pub none_dropped : table.dropped ≡ 0
  pub rows_kept : All IsKeptRow table.rows

-- the book is what these frames of the log make of an empty one
pub record PullBookStandsFor (book : List (ℕ × PullOutcome)) (frames : List LogFrame) : Type 0 where
  pub outcomes : book ≡ outcomes_of frames

-- whatever frames the old book stood for, the new one stands for those and this pull, at any time
abbrev pub TakesPull : List (ℕ × PullOutcome) → List (ℕ × PullOutcome) → ℕ → PullOutcome → Type 0
TakesPull old new id outcome =
    (frames : List LogFrame) (at : ℕ) → PullBookStandsFor old frames
    → PullBookStandsFor new (frames ++ Pull at id outcome ∷ [])

-- a new id has a place after the others, or there is none left
abbrev pub IsAppended : List (ℕ × PullOutcome) → List (ℕ × PullOutcome) → ℕ → PullOutcome → Type 0
IsAppended old new id outcome =
    ((length old < most_pulled_ids) × (new ≡ old ++ (id, outcome) ∷ []))
    ⊎ ((length old ≡ most_pulled_ids) × (new ≡ old))
